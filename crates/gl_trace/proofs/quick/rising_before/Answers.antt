use Rattle.std.proofs.Common.{◌≡◌, rules, refl, true}
use Rattle.gl_trace.proofs.QuickLists.{listed_more, listed_all}
use Rattle.gl_trace.proofs.quick.rising_before.Goals as goal

pub loop-id-preserved : goal.loop-id-preserved
loop-id-preserved c =
    let v = c.in-Some.ensures.value in
    let yes' : c.put_last.result ≡ true = search rules in
    listed_more c.args.text.now c.loop-id.kept c.loop-id.rest.now v.0 44 c.in-Some.more.now c.in-Some.id c.put_last.new.ids
    c.loop-id.invariant v.1 v.2 v.3 (c.put_last.ensures.put yes') refl

pub returns-then-put_last : goal.returns-then-put_last
returns-then-put_last c =
    let v = c.in_ok-id.ensures.value in
    let yes' : c.put_last-2.result ≡ true = search rules in
    listed_all c.args.text.now c.loop-id.kept c.loop-id.rest.now v.0 c.args.stop c.in_ok-id.behind.now c.in_ok-id.id c.put_last-2.new.ids
    c.loop-id.invariant v.1 v.2 v.3 (c.put_last-2.ensures.put yes')
