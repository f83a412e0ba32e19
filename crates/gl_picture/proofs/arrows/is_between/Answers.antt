use Rattle.std.proofs.Common.{arith}
use Rattle.gl_explain.proofs.Counting.{known_at}
use Rattle.gl_picture.proofs.Leading.{between_by}
use Rattle.gl_picture.proofs.arrows.is_between.Goals as goal

pub returns : goal.returns
returns c =
    let rows = c.args.rows.now in
    let o = c.requires.order in
    let one = o.0 in
    let two = o.1 in
    let three = o.2 in
    between_by rows c.args.i c.args.j c.args.k c.index-rows-i.result c.index-rows-j.result c.index-rows-k.result c.leads-to.result
    c.leads-from.result (known_at rows c.args.i c.index-rows-i.result (omega arith) c.index-rows-i.is)
    (known_at rows c.args.j c.index-rows-j.result three c.index-rows-j.is)
    (known_at rows c.args.k c.index-rows-k.result (omega arith) c.index-rows-k.is) c.leads-to.ensures c.leads-from.ensures
