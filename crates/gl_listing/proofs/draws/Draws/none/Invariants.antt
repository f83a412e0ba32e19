use Rattle.std.proofs.Common.{◌≡◌, [], ℕ, length, map}
use Rattle.std.specs.Prelude.{slice_index_or}
use Rattle.gl_places.specs.Uses.{use_seen}
use Rattle.gl_listing.proofs.draws.Draws.none.Given as goal

abbrev pub invariant-loop : goal.invariant-loop
invariant-loop l = record {
  long : length l.lists.items ≡ l.counter;
  none : (x : ℕ) → slice_index_or (map (λ us. map use_seen us.items) l.lists.items) x [] ≡ [];
}
