use Rattle.gl_model.specs.Entries.{list_seen}
use Rattle.gl_model.proofs.ListsOf.{gone_more, found_here}
use Rattle.gl_model.proofs.record.Record.thread.Goals as goal

pub loop-list-preserved : goal.loop-list-preserved
loop-list-preserved c = gone_more list_seen c.deref-list-items.result.now c.loop-list.list-index c.args.t c.list-item.result
    c.loop-list-test.true c.list-item.is c.loop-list.invariant c.if-list-t.false

pub returns-then-list-t : goal.returns-then-list-t
returns-then-list-t c =
    let here = found_here list_seen c.deref-list-items.result.now c.loop-list.list-index c.args.t c.list-item.result c.loop-list-test.true
    c.list-item.is c.loop-list.invariant c.if-list-t.true in
    rw (c.deref.ensures.value, ← c.self.view_is, ← c.deref-list-items.ensures.value) here
