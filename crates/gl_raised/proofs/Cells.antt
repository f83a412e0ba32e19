-- What stands in a list where one element was set.
use Rattle.std.proofs.Common.{◌≡◌, ◌≢◌, ℕ, zero, suc, List, [], ◌∷◌, refl, ap, sym, inl, inr, arith, Some}
use Rattle.std.specs.Prelude.{◌⊎◌, slice_get, slice_set}

-- what stands in a list where one element was set is the new one there, and the old ones elsewhere
pub set_cells : {A : Type 0} (xs : List A) (i : ℕ) (y : A) (k : ℕ) (x : A) → slice_get (slice_set xs i y) k ≡ Some x → ((k ≡ i) × (x ≡ y))
    ⊎ ((k ≢ i) × (slice_get xs k ≡ Some x))
set_cells [] i y k x e = inr ((λ z. absurd (cc)), e)
set_cells (z ∷ xs) zero y zero x e = inl (refl, let w : y ≡ x = cc in sym w)
set_cells (z ∷ xs) zero y (suc k) x e = inr ((λ w. absurd (omega arith)), e)
set_cells (z ∷ xs) (suc i) y zero x e = inr ((λ w. absurd (omega arith)), e)
set_cells (z ∷ xs) (suc i) y (suc k) x e =
    elim (set_cells xs i y k x e) [ inl s ↦ inl (ap suc s.0, s.1) | inr o ↦ inr ((λ w. o.0 (omega arith)), o.1) ]
