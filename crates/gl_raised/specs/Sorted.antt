-- The accesses in the order of their numbers, and the first claim that is not as it was found.
use Rattle.std.specs.Prelude.{◌≡◌, ◌≢◌, ℕ, ◌<◌, ◌≤◌, ◌↔◌, List, Contains, Option, MatchOption, slice_get, Some}
use Rattle.gl_places.specs.declared.place.Place.{Place}
use Rattle.gl_raised.specs.declared.access.Access.{Access}
use Rattle.gl_raised.specs.declared.access.Claim.{Claim}

-- the same accesses, by number
pub record AreSorted (old new : List Access) : Type 0 where
  pub same : (a : Access) → Contains new a ↔ Contains old a
  pub ordered : (i j : ℕ) (v w : Access) → slice_get new i ≡ Some v → slice_get new j ≡ Some w → i ≤ j → v.nth ≤ w.nth

-- the claims below k name the variables that were found
abbrev pub AreFound : List Claim → List (Option ℕ) → ℕ → Type 0
AreFound claims least k = (j : ℕ) (l : Claim) (o : Option ℕ) → j < k → slice_get claims j ≡ Some l → slice_get least j ≡ Some o → l.raised
    ≡ o

-- the place is that of the first claim that names another variable than was found
abbrev pub IsFirstOther : List Claim → List (Option ℕ) → Option Place → Type 0
IsFirstOther claims least result =
    MatchOption result ((k : ℕ) → AreFound claims least k) (λ p.
    (k : ℕ) × ((l : Claim) × ((o : Option ℕ) × (slice_get claims k ≡ Some l) × (slice_get least k ≡ Some o) × (p ≡ l.place)
    × (l.raised ≢ o) × AreFound claims least k)))
