-- What the search for a wrong number keeps to.
use Rattle.std.specs.Prelude.{◌≡◌, ℕ, ◌<◌, ◌≤◌, ◌++◌, ◌⊎◌, Bool, true, false, List, [], length, map, slice_get, slice_index_or, slice_set, Option, Some, None}
use Rattle.gl_model.specs.Records.{Place}
use Rattle.gl_places.specs.declared.place.Place.{Place as StoredPlace}
use Rattle.gl_places.specs.Places.{Before, seen}
use Rattle.gl_places.specs.Uses.{Use, UseFailsAt}

-- none of these uses is of a place before that of an earlier one
abbrev pub AreInOrder : List Use → Type 0
AreInOrder us = (j k : ℕ) (u v : Use) → j < k → slice_get us j ≡ Some u → slice_get us k ≡ Some v → Before v.0 u.0 → ⊥

-- the number was not met and now is
pub record IsMarked (before : List Bool) (number : ℕ) (after : List Bool) : Type 0 where
  pub fresh : slice_get before number ≡ Some false
  pub after_is : after ≡ slice_set before number true

-- it is too large, or was met
abbrev pub IsRefused : List Bool → ℕ → Type 0
IsRefused before number = (length before ≤ number) ⊎ (slice_get before number ≡ Some true)

-- to the uses of each variable came these numbers at c
abbrev pub IsAdded : Place → (ℕ → List ℕ) → List (List Use) → List (List Use) → Type 0
IsAdded c numbers old new = (x : ℕ) → slice_index_or new x [] ≡ slice_index_or old x [] ++ map (λ k. (c, k)) (numbers x)

-- some use of a variable fails at c
abbrev pub OneFailsAt : List (List Use) → Place → Type 0
OneFailsAt uses c = (x : ℕ) × UseFailsAt (slice_index_or uses x []) c

-- the earlier of two places, or the one that there is
abbrev pub IsEarlier : Option StoredPlace → Option StoredPlace → Option StoredPlace → Type 0
IsEarlier None d e = e ≡ d
IsEarlier (Some c) None e = e ≡ Some c
IsEarlier (Some c) (Some d) e = ((e ≡ Some d) × Before (seen d) (seen c)) ⊎ ((e ≡ Some c) × (Before (seen d) (seen c) → ⊥))
