-- Numbers of which none is wrong are those below their count.
use Rattle.std.proofs.Common.{◌≡◌, ℕ, zero, suc, ◌<◌, ◌≤◌, ◌||◌, Bool, true, false, List, [], ◌∷◌, length, Some, refl, sym, ap, inl, inr, arith, eq-eqb}
use Rattle.std.specs.Prelude.{slice_get}
use Rattle.std.specs.List.{AllByRecursion, IsDistinct, list_any}
use Rattle.std.proofs.Math.Dec.{eqb}
use Rattle.std.proofs.lemmas.Bool.{eqb-true, cases_lt}
use Rattle.std.proofs.lemmas.Map.Steps.{length-le_from_distinct_below}
use Rattle.gl_places.specs.Uses.{IsWrongAt}

-- where the test finds no number equal to p, each differs from p
none_equal : (p : ℕ) (ns : List ℕ) → list_any (eqb p) ns ≡ false → AllByRecursion (λ y. eqb p y ≡ false) ns
none_equal p [] none = tt
none_equal p (x ∷ ns) none = by_test (eqb p x) refl none (λ i. none_equal p ns i) where
  by_test :
      (b : Bool) → eqb p x ≡ b → (b || list_any (eqb p) ns) ≡ false
      → (list_any (eqb p) ns ≡ false → AllByRecursion (λ y. eqb p y ≡ false) ns) →
      AllByRecursion (λ y. eqb p y ≡ false) (x ∷ ns)
  by_test true e is more = cc
  by_test false e is more = (e, more is)

-- where the test finds p, it stands somewhere
pub found_any : (p : ℕ) (ns : List ℕ) → list_any (eqb p) ns ≡ true → (k : ℕ) × (slice_get ns k ≡ Some p)
found_any p [] is = cc
found_any p (x ∷ ns) is = by_test (eqb p x) refl is (λ i. found_any p ns i) where
  by_test :
      (b : Bool) → eqb p x ≡ b → (b || list_any (eqb p) ns) ≡ true → (list_any (eqb p) ns ≡ true → (k : ℕ) × (slice_get ns k ≡ Some p)) →
      (k : ℕ) × (slice_get (x ∷ ns) k ≡ Some p)
  by_test true e found more = (let same = eqb-true p x e in (0, ap Some (sym same)))
  by_test false e found more = (let later = more found in (suc later.0, later.1))

-- what stands somewhere is found by the test
pub any_found : (p k : ℕ) (ns : List ℕ) → slice_get ns k ≡ Some p → list_any (eqb p) ns ≡ true
any_found p k [] at = cc
any_found p zero (x ∷ ns) at = (let same : x ≡ p = cc in let e : eqb p x ≡ true = eq-eqb p x (sym same) in rw e refl)
any_found p (suc k) (x ∷ ns) at = by_test (eqb p x) refl (any_found p k ns at) where
  by_test : (b : Bool) → eqb p x ≡ b → list_any (eqb p) ns ≡ true → (eqb p x || list_any (eqb p) ns) ≡ true
  by_test true e found = rw e refl
  by_test false e found = rw e found

-- no number stands at two places
abbrev pub IsOnce : List ℕ → Type 0
IsOnce ns = (j k p : ℕ) → j < k → slice_get ns j ≡ Some p → slice_get ns k ≡ Some p → ⊥

-- numbers that stand once each are distinct
pub once_distinct : (ns : List ℕ) → IsOnce ns → IsDistinct eqb ns
unfolding IsDistinct
once_distinct [] once = tt
once_distinct (x ∷ ns) once = (
  none_equal x ns (by_test (list_any (eqb x) ns) refl),
  once_distinct ns
      (λ j k p less at also. once (suc j) (suc k) p (omega arith) at also),
) where
  by_test : (b : Bool) → list_any (eqb x) ns ≡ b → list_any (eqb x) ns ≡ false
  by_test true e = (let later = found_any x ns e in absurd (once 0 (suc later.0) x (omega arith) refl later.1))
  by_test false e = e

-- none is wrong: then each number below the count is there
pub all_there : (ns : List ℕ) → ((k : ℕ) → IsWrongAt ns k → ⊥) → (p : ℕ) → p < length ns → (k : ℕ) × (slice_get ns k ≡ Some p)
unfolding IsDistinct
all_there ns right p less = by_test (list_any (eqb p) ns) refl where
  once : IsOnce ns
  once j k q before at also = right k (record { number = q; there = also; wrong = inr (j, before, at) })

  below : (k q : ℕ) → slice_get ns k ≡ Some q → q < length ns
  below k q at = elim (cases_lt q (length ns)) [
    | inl lt ↦ lt
    | inr ge ↦ absurd (right k (record { number = q; there = at; wrong = inl ge }))
  ]

  within : (q : ℕ) → list_any (eqb q) (p ∷ ns) ≡ true → q < length ns
  within q is = (let found = found_any q (p ∷ ns) is in by_place found.0 found.1) where
    by_place : (k : ℕ) → slice_get (p ∷ ns) k ≡ Some q → q < length ns
    by_place zero at = (let same : p ≡ q = cc in rw (sym same) less)
    by_place (suc k) at = below k q at

  by_test : (b : Bool) → list_any (eqb p) ns ≡ b → (k : ℕ) × (slice_get ns k ≡ Some p)
  by_test true e = found_any p ns e
  by_test false e =
      let many : length (p ∷ ns) ≤ length ns = length-le_from_distinct_below (p ∷ ns) (length ns)
      (none_equal p ns e, once_distinct ns once) within in
      absurd (omega arith)
