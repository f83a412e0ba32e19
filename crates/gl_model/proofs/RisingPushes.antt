-- A list of numbers with a greater one put last.
use Rattle.std.proofs.Common.{◌≡◌, ℕ, zero, suc, ◌<◌, List, [], ◌∷◌, ◌++◌, refl, sym, subst, arith, inl, inr}
use Rattle.std.specs.Prelude.{◌⊎◌, ◌↔◌, Contains}
use Rattle.std.specs.List.{AllByRecursion}
use Rattle.std.proofs.lemmas.List.Elements.{Contains-append_left, Contains-append_right, Contains-append_cases}
use Rattle.gl_model.specs.Rising.{Rises}

-- what holds of all and of one more holds of all with it
pub all_push : {A : Type 0} (P : A → Type 0) (xs : List A) (x : A) → AllByRecursion P xs → P x → AllByRecursion P (xs ++ x ∷ [])
all_push P [] x all p = (p, tt)
all_push P (y ∷ xs) x all p = (all.0, all_push P xs x all.1 p)

-- nothing is in an empty list
pub in_none : (y : ℕ) → Contains [] y → ⊥
in_none y (k, near, at) = absurd (omega arith)

-- what is in a one-element list is its element
in_one : (x y : ℕ) → Contains (x ∷ []) y → y ≡ x
in_one x y (zero, near, at) = sym at
in_one x y (suc k, near, at) = absurd (omega arith)

-- what is in a list with one put last was in it, or is that one
pub in_push : (xs : List ℕ) (x y : ℕ) → Contains (xs ++ x ∷ []) y ↔ (Contains xs y ⊎ (y ≡ x))
in_push xs x y = (
  λ c. elim (Contains-append_cases xs (x ∷ []) y c) [ inl a ↦ inl a | inr b ↦ inr (in_one x y b) ],
  λ w. elim w [
    | inl a ↦ Contains-append_left xs (x ∷ []) y a
    | inr e ↦ Contains-append_right xs (x ∷ []) y (subst (Contains (x ∷ [])) (sym e) (0, omega arith, refl))
  ],
)

-- a rising list with a greater one put last rises
pub rises_push : (xs : List ℕ) (x : ℕ) → ((y : ℕ) → Contains xs y → y < x) → Rises xs → Rises (xs ++ x ∷ [])
rises_push [] x below rises = (tt, tt)
rises_push (y ∷ xs) x below rises = (
  all_push (λ z. y < z) xs x rises.0 (below y (0, omega arith, refl)),
  rises_push xs x (λ z c. below z (Contains-append_right (y ∷ []) xs z c)) rises.1,
)
