-- The claims and the accesses of a record, up to a place.
use Rattle.std.specs.Prelude.{◌≡◌, ℕ, ◌<◌, ◌+◌, List, slice_get, Some, Contains, take, unwrap_or, ◌↔◌}
use Rattle.gl_draws.specs.Ties.{last_position}
use Rattle.gl_model.specs.Entries.{Entry}
use Rattle.gl_model.specs.Records.{Lists, Place, EntryAt}
use Rattle.gl_places.specs.Places.{Before, seen}
use Rattle.gl_raised.specs.Accesses.{IsAccess, accesses_of, raised_on}
use Rattle.gl_raised.specs.declared.access.Access.{Access}
use Rattle.gl_raised.specs.declared.access.Claim.{Claim}

-- the position of the last of the first n entries of a list that is an event, 0 where none is
abbrev pub block_before : List Entry → ℕ → ℕ
block_before es n = unwrap_or (last_position (take n es)) 0

-- the claim is that of the entry at its place
pub record IsClaimOf (R : Lists) (l : Claim) (e : Entry) : Type 0 where
  pub there : EntryAt R (seen l.place) e
  pub is_access : IsAccess e
  pub raised : l.raised ≡ raised_on e
  pub block : l.block ≡ block_before (R l.place.thread) (l.place.index + 1)

-- these are the claims of the accesses before the place d, by thread and place, and their accesses
pub record AreGathered (R : Lists) (d : Place) (claims : List Claim) (accesses : List Access) : Type 0 where
  pub claim : (k : ℕ) (l : Claim) → slice_get claims k ≡ Some l → Before (seen l.place) d × ((e : Entry) × IsClaimOf R l e)
  pub all : (c : Place) (e : Entry) → EntryAt R c e → IsAccess e → Before c d → (k : ℕ)
      × ((l : Claim) × (slice_get claims k ≡ Some l) × (seen l.place ≡ c))
  pub rising : (j k : ℕ) (l m : Claim) → slice_get claims j ≡ Some l → slice_get claims k ≡ Some m → j < k
      → Before (seen l.place) (seen m.place)
  pub parts :
      (a : Access) →
      Contains accesses a ↔ ((k : ℕ) × ((l : Claim)
      × ((e : Entry) × (slice_get claims k ≡ Some l) × EntryAt R (seen l.place) e × Contains (accesses_of k l.place.thread l.block e) a)))
