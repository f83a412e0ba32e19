use Rattle.std.proofs.Common.{◌≡◌, Some, sym}
use Rattle.std.specs.Prelude.{slice_get}
use Rattle.gl_flat.proofs.Gathering.{add_more}
use Rattle.gl_flat.proofs.writes.add_writes.Goals as goal

pub loop-i-preserved : goal.loop-i-preserved
loop-i-preserved c =
    let there : slice_get c.args.tx.now.writes c.loop-i.i ≡ Some c.in-Some.write = sym c.in-Some.ensures in
    add_more c.args.tx.now.numbers c.args.tx.now.writes c.loop-i.i c.in-Some.write c.of.result c.args.writes.now.items c.loop-i.writes.items
    c.add_numbered.new.writes.items there c.of.ensures
    c.loop-i.invariant c.in_ok-add_numbered.ensures
