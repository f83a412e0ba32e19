use Rattle.std.proofs.Common.{arith}
use Rattle.gl_picture.proofs.Leading.{between_new, between_more, between_never}
use Rattle.gl_picture.proofs.arrows.has_between.Goals as goal

pub returns-then-is_between : goal.returns-then-is_between
returns-then-is_between c =
    between_new c.args.rows.now c.args.i c.args.j c.loop-k.k c.is_between.result c.if-is_between.true (let b =
    c.loop-k.auto.k in omega arith)
    c.loop-k-test.true c.requires.order.1 c.is_between.ensures

pub loop-k-preserved : goal.loop-k-preserved
loop-k-preserved c =
    let near = c.requires.order.1 in
    let below = c.loop-k-test.true in
    between_more c.args.rows.now c.args.i c.args.j c.loop-k.k c.is_between.result c.if-is_between.false (omega arith) c.is_between.ensures
    c.loop-k.invariant

pub returns : goal.returns
returns c = between_never c.args.rows.now c.args.i c.args.j c.loop-k.k (let n = c.loop-k-test.false in omega arith) c.loop-k.invariant
