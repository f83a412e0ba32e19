-- What a search for the first wrong element of a list finds.
use Rattle.std.specs.Prelude.{◌≡◌, ℕ, ◌<◌, List, Option, Some, None, slice_get}
use Rattle.std.specs.Option.{option_and_then}

-- what is wrong with the element at a place, if one is there
abbrev pub wrong_at : {X : Type 0} → (X → Option ℕ) → List X → ℕ → Option ℕ
wrong_at fault xs k = option_and_then fault (slice_get xs k)

-- nothing is wrong before a place
abbrev pub IsRightBefore : {X : Type 0} → (X → Option ℕ) → List X → ℕ → Type 0
IsRightBefore fault xs n = (k : ℕ) → k < n → wrong_at fault xs k ≡ None

-- nothing is wrong
abbrev pub IsAllRight : {X : Type 0} → (X → Option ℕ) → List X → Type 0
IsAllRight fault xs = (k : ℕ) → wrong_at fault xs k ≡ None

-- the first element with which something is wrong, and what that is
abbrev pub IsFirstWrong : {X : Type 0} → (X → Option ℕ) → List X → ℕ → ℕ → Type 0
IsFirstWrong fault xs n kind = (wrong_at fault xs n ≡ Some kind) × IsRightBefore fault xs n
