use Rattle.std.proofs.Common.{arith, sym}
use Rattle.gl_explain.specs.Explained.{is_handing}
use Rattle.gl_explain.proofs.Counting.{known_at}
use Rattle.gl_explain.proofs.Behind.{none_on, first_found, none_found}
use Rattle.gl_explain.proofs.past.first_handed.Goals as goal

pub returns-then-hands_on : goal.returns-then-hands_on
returns-then-hands_on c =
    let kept = c.args.kept.now in
    let there = known_at kept c.loop-i.i c.index-kept-i.result c.loop-i-test.true c.index-kept-i.is in
    first_found kept (is_handing c.args.thread) c.args.place c.loop-i.i c.index-kept-i.result (let b = c.loop-i.auto.i in omega arith)
    there (sym c.if-hands_on.ensures) c.loop-i.invariant

pub loop-i-preserved : goal.loop-i-preserved
loop-i-preserved c =
    let kept = c.args.kept.now in
    let there = known_at kept c.loop-i.i c.index-kept-i.result c.loop-i-test.true c.index-kept-i.is in
    none_on kept (is_handing c.args.thread) c.args.place c.loop-i.i c.index-kept-i.result there (sym c.if-hands_on.ensures)
    c.loop-i.invariant

pub returns : goal.returns
returns c =
    let kept = c.args.kept.now in
    none_found kept (is_handing c.args.thread) c.args.place c.loop-i.i (let n = c.loop-i-test.false in omega arith) c.loop-i.invariant
