use Rattle.std.proofs.Common.{◌≡◌, [], ℕ}
use Rattle.std.specs.Prelude.{slice_index_or}
use Rattle.gl_places.specs.Uses.{uses_of}
use Rattle.gl_model.proofs.ThreadLists.{below}
use Rattle.gl_listing.specs.Numbering.{draws_on}
use Rattle.gl_listing.proofs.draws.Draws.of.Given as goal

abbrev pub invariant-loop-thread : goal.invariant-loop-thread
invariant-loop-thread l = (x : ℕ) → slice_index_or l.draws x [] ≡ uses_of (draws_on x) (below l.thread l.made)
