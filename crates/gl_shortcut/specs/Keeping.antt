-- Cuts that are kept, each in a place of its own.
use Rattle.std.specs.Prelude.{◌≡◌, ℕ, ◌+◌, Option, Some, ◌⊎◌, if◌then◌else◌, is_some}

-- one of the four places has it
abbrev pub IsOneOf : {A : Type 0} → A → Option A → Option A → Option A → Option A → Type 0
IsOneOf x a b c d = (a ≡ Some x) ⊎ (b ≡ Some x) ⊎ (c ≡ Some x) ⊎ (d ≡ Some x)

-- how many there are
abbrev pub one_of : {A : Type 0} → Option A → ℕ
one_of a = if is_some a then 1 else 0

-- how many of the four
abbrev pub count_of : {A : Type 0} → Option A → Option A → Option A → Option A → ℕ
count_of a b c d = one_of a + one_of b + one_of c + one_of d
