use Rattle.std.proofs.Common.{rules, ◌≡◌, ◌++◌, ◌∷◌, [], ap, sym, ◌∙◌, arith, append_assoc, map, take}
use Rattle.std.proofs.lemmas.Option.{slice_get_within}
use Rattle.gl_raised.specs.Accesses.{part_of}
use Rattle.gl_raised.proofs.Numbered.{taken_more}
use Rattle.gl_raised.proofs.gather.add_parts.Goals as goal

pub loop-i-preserved : goal.loop-i-preserved
loop-i-preserved c =
    let numbers = c.args.tx.now.numbers in
    let by = c.args.by.now in
    let f = part_of by.claim by.thread by.tick c.args.performed c.args.tx.now.writes in
    let there = sym c.in-Some.ensures in
    let pushed : c.push.new.self.items ≡ c.loop-i.accesses.items ++ f c.in-Some.number ∷ [] = search rules in record {
      within = omega (arith, slice_get_within numbers c.loop-i.i c.in-Some.number there);
      so_far =
          pushed ∙ ap (λ l. l ++ f c.in-Some.number ∷ []) c.loop-i.invariant.so_far
          ∙ append_assoc c.args.accesses.now.items (map f (take c.loop-i.i numbers)) (f c.in-Some.number ∷ [])
          ∙ ap (λ l. c.args.accesses.now.items ++ l) (sym (taken_more f numbers c.loop-i.i c.in-Some.number there));
    }
