use Rattle.std.proofs.Common.{◌≡◌, ◌++◌, [], ℕ, map, take}
use Rattle.std.specs.Prelude.{slice_index_or}
use Rattle.gl_model.specs.Entries.{seen}
use Rattle.gl_places.specs.Uses.{uses_from}
use Rattle.gl_listing.specs.Numbering.{draws_on}
use Rattle.gl_listing.proofs.draws.Draws.add_list.Given as goal

abbrev pub invariant-loop-i : goal.invariant-loop-i
invariant-loop-i l =
    (x : ℕ) → slice_index_or l.self x [] ≡ slice_index_or l.fn.self x [] ++ uses_from (draws_on x) l.thread 0 (take l.i (map seen l.list))
