use Rattle.std.proofs.Common.{◌≡◌, true, false, nat_le, sym, rules, true≢false}
use Rattle.std.specs.List.{list_any}
use Rattle.gl_trace.proofs.IdsLemmas.{falls, grows}
use Rattle.gl_trace.proofs.ids.put_last.Goals as goal

pub returns-then-reaches-clause-refused : goal.returns-then-reaches-clause-refused
returns-then-reaches-clause-refused c = λ _.
    let some : list_any (λ x. nat_le c.args.id x) c.args.ids.now ≡ true = search rules in
    falls c.args.ids.now c.args.id some

pub returns-in-Ok-clause-put : goal.returns-in-Ok-clause-put
returns-in-Ok-clause-put c = λ _.
    let none : list_any (λ x. nat_le c.args.id x) c.args.ids.now ≡ false = search rules in
    grows c.args.ids.now c.insert.new.self c.args.id c.requires.set none (λ h. true≢false (sym (c.in-Ok.ensures.full.1 h)))
    c.in-Ok.ensures.ok
