use Rattle.std.proofs.Common.{arith}
use Rattle.gl_explain.proofs.Counting.{known_at}
use Rattle.gl_picture.proofs.Leading.{arrow_by}
use Rattle.gl_picture.proofs.arrows.is_arrow.Goals as goal

pub returns : goal.returns
returns c =
    let rows = c.args.rows.now in
    let one = c.requires.order.0 in
    let two = c.requires.order.1 in
    arrow_by rows c.args.i c.args.j c.index-rows-i.result c.index-rows-j.result c.leads-leads.result c.has_between-between.result
    (known_at rows c.args.i c.index-rows-i.result (omega arith) c.index-rows-i.is) (known_at rows c.args.j c.index-rows-j.result two
    c.index-rows-j.is)
    one c.leads-leads.ensures c.has_between-between.ensures
