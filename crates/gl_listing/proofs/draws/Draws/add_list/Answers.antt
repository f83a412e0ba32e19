use Rattle.std.proofs.Common.{get_or, map, []}
use Rattle.gl_model.specs.Entries.{seen}
use Rattle.gl_places.proofs.Gathered.{entry_at, entry_more}
use Rattle.gl_listing.specs.Numbering.{draws_on}
use Rattle.gl_listing.proofs.NumberedLaw.{entry_kept}
use Rattle.gl_listing.proofs.draws.Draws.add_list.Goals as goal

pub add_entry-requires : goal.add_entry-requires
add_entry-requires c =
    let list = c.args.list.now in
    let entry = c.index-list-i in
    entry_kept (map seen list) c.requires.2 c.loop-i.i (seen entry.result)
    (entry_at list c.loop-i.i entry.result entry.is c.loop-i-test.true)

pub loop-i-preserved : goal.loop-i-preserved
loop-i-preserved c =
    let list = c.args.list.now in
    let entry = c.index-list-i in
    let at = entry_at list c.loop-i.i entry.result entry.is c.loop-i-test.true in
    λ x. entry_more (draws_on x) c.args.thread c.loop-i.i (map seen list) (seen entry.result) (get_or c.args.self.now x []) _ _ at
    (c.in_ok-add_entry.ensures x) (c.loop-i.invariant x)
