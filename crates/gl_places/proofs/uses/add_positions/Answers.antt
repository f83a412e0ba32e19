use Rattle.std.proofs.Common.{map}
use Rattle.gl_model.specs.Entries.{seen}
use Rattle.gl_places.specs.Uses.{positions_on, use_seen}
use Rattle.gl_places.proofs.Gathered.{entry_at, entry_more}
use Rattle.gl_places.proofs.uses.add_positions.Goals as goal

pub loop-i-preserved : goal.loop-i-preserved
loop-i-preserved c =
    let list = c.args.list.now in
    let entry = c.index-list-i in
    entry_more positions_on c.args.thread c.loop-i.i (map seen list) (seen entry.result) (map use_seen c.args.uses.now.items)
    (map use_seen c.loop-i.uses.items) _ (entry_at list c.loop-i.i entry.result entry.is c.loop-i-test.true) c.in_ok-add_position.ensures
    c.loop-i.invariant
