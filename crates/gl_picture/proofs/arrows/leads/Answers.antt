use Rattle.gl_picture.proofs.Leading.{leads_by}
use Rattle.gl_picture.proofs.arrows.leads.Goals as goal

pub returns : goal.returns
returns c = leads_by c.args.rows.now c.args.a.now c.args.b.now c.args.i c.args.j c.handed-given.result c.event-taken.result
    c.meet-events.result c.meet-first.result c.meet-last.result c.has_row-begun.result c.has_row-goes_on.result c.handed-given.ensures
    c.event-taken.ensures c.meet-events.ensures c.meet-first.ensures c.meet-last.ensures c.has_row-begun.ensures c.has_row-goes_on.ensures
