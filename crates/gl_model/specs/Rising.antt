-- Lists of numbers that rise.
use Rattle.std.specs.Prelude.{ℕ, ◌<◌, ◌≤◌, ◌==◌, nat_lt, if◌then◌else◌, List, [], ◌∷◌, length}
use Rattle.std.specs.List.{AllByRecursion}
use Rattle.gl_model.specs.declared.limits.TheConstants.{VARIABLES, TX_VARIABLES}

-- each number is below all behind it
abbrev pub Rises : List ℕ → Type 0
Rises [] = Unit {0}
Rises (x ∷ xs) = AllByRecursion (λ y. x < y) xs × Rises xs

-- the variables of one list of a transaction: at most as many as a transaction may have, rising, each one that there is
abbrev pub AreVariables : List ℕ → Type 0
AreVariables xs = (length xs ≤ TX_VARIABLES) × Rises xs × AllByRecursion (λ x. x < VARIABLES) xs

-- x put in its place, where it is not there
abbrev pub with_one : ℕ → List ℕ → List ℕ
with_one x [] = x ∷ []
with_one x (y ∷ ys) = if x == y then y ∷ ys else if nat_lt x y then x ∷ (y ∷ ys) else y ∷ with_one x ys

-- each of the first put in its place
abbrev pub with_all : List ℕ → List ℕ → List ℕ
with_all [] ys = ys
with_all (x ∷ xs) ys = with_all xs (with_one x ys)

-- a part put in its place, where the key tells the variable of a part: in place of one with its variable, if there is one
abbrev pub with_part : {A : Type 0} → (A → ℕ) → A → List A → List A
with_part key p [] = p ∷ []
with_part key p (q ∷ qs) = if key p == key q then p ∷ qs else if nat_lt (key p) (key q) then p ∷ (q ∷ qs) else q ∷ with_part key p qs
