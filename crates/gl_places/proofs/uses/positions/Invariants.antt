use Rattle.std.proofs.Common.{◌≡◌, map}
use Rattle.gl_places.specs.Uses.{positions_on, use_seen, uses_of}
use Rattle.gl_model.proofs.ThreadLists.{below}
use Rattle.gl_places.proofs.uses.positions.Given as goal

abbrev pub invariant-loop-thread : goal.invariant-loop-thread
invariant-loop-thread l = map use_seen l.uses.items ≡ uses_of positions_on (below l.thread l.made)
