-- A fact about each view, after a step of one seat.
use Rattle.std.proofs.Common.{◌≡◌, ◌≢◌, ℕ, ◌<◌, List, [], ◌∷◌, ◌++◌, length, set, sym, refl, ap, ⊎_elim, ◌⊎◌, subst, arith, inl, inr, zero, suc}
use mathlib.Core.Option.{some, some-ne-none, some-injective}
use lib.ListN.{get_elem?}
use Rattle.atomic_table.proofs.Lists.{at_set}
use Rattle.gl_rule.specs.Each.{Each}

module _ {V : Type 0} where
  -- what stands in a list has a place in it
  pub at_within : (l : List V) (j : ℕ) (v : V) → get_elem? l j ≡ some v → j < length l
  at_within [] j v e = absurd (some-ne-none v (sym e))
  at_within (x ∷ xs) zero v e = omega arith
  at_within (x ∷ xs) (suc j) v e = let h = at_within xs j v e in omega arith

  -- one seat's view changes; the others stay, and the fact about them may change too
  pub each_set : {P Q : ℕ → V → Type 0} {views : List V} (id : ℕ) (w : V) → Each P views → ((j : ℕ) (v : V) → j ≢ id → P j v → Q j v)
      → Q id w → Each Q (set views id w)
  each_set {P} {Q} {views} id w all others own = record {
    at = λ j u e.
        ⊎_elim
        (λ (t : (j ≡ id) × (w ≡ u)). subst (λ i. Q i u) (sym t.0) (subst (λ x. Q id x) t.1 own))
        (λ (t : (j ≢ id) × (get_elem? views j ≡ some u)). others j u t.0 (all.at j u t.1))
        (at_set views id j w u e);
  }

  -- a new seat comes last
  pub each_add : {P Q : ℕ → V → Type 0} {views : List V} (w : V) → Each P views → ((j : ℕ) (v : V) → j < length views → P j v → Q j v)
      → Q (length views) w → Each Q (views ++ w ∷ [])
  each_add {P} {Q} {views} w all others own = record { at = λ j u e. add views j u e (λ i v h. all.at i v h) others own }
    where
      snoc_cases : (l : List V) (a b : V) (j : ℕ) → get_elem? (l ++ a ∷ []) j ≡ some b → (get_elem? l j ≡ some b)
          ⊎ ((j ≡ length l) × (a ≡ b))
      snoc_cases [] a b zero e = inr (refl, some-injective a b e)
      snoc_cases [] a b (suc j) e = absurd (some-ne-none b (sym e))
      snoc_cases (x ∷ xs) a b zero e = inl e
      snoc_cases (x ∷ xs) a b (suc j) e = ⊎_elim (λ t. inl t) (λ t. inr (ap suc t.0, t.1)) (snoc_cases xs a b j e)

      add : (l : List V) (j : ℕ) (u : V) → get_elem? (l ++ w ∷ []) j ≡ some u → ((i : ℕ) (v : V) → get_elem? l i ≡ some v → P i v)
          → ((i : ℕ) (v : V) → i < length l → P i v → Q i v) → Q (length l) w → Q j u
      add l j u e old keep new =
          ⊎_elim
          (λ (was : get_elem? l j ≡ some u). keep j u (at_within l j u was) (old j u was))
          (λ (t : (j ≡ length l) × (w ≡ u)). subst (λ i. Q i u) (sym t.0) (subst (λ x. Q (length l) x) t.1 new))
          (snoc_cases l w u j e)

  -- what is set twice has the second value
  pub set_twice : (l : List V) (id : ℕ) (a b : V) → set (set l id a) id b ≡ set l id b
  set_twice [] id a b = refl
  set_twice (x ∷ xs) zero a b = refl
  set_twice (x ∷ xs) (suc id) a b = ap (λ l. x ∷ l) (set_twice xs id a b)
