-- The parts of a next commit, variable by variable.
use Rattle.std.proofs.Common.{◌≡◌, ℕ, ◌<◌, ◌≤◌, List, length, Bool, true, false, Some, refl, sym, ◌∙◌, arith}
use Rattle.std.specs.Prelude.{◌↔◌, IsTrue, slice_get}
use Rattle.gl_model.specs.declared.event.Stamp.{Stamp}
use Rattle.gl_reference.specs.declared.races.Performed.{Performed}
use Rattle.gl_reference.specs.declared.races.Next.{Next}
use Rattle.gl_reference.specs.Races.{IsPartOf, IsRacyNext, IsRacyPart, IsFirstRacy}
use Rattle.gl_reference.proofs.Marks.{slice_get_within}

-- two tests of one fact are equal
same_truth : (a b : Bool) (P : Type 0) → (a ≡ true) ↔ P → (b ≡ true) ↔ P → a ≡ b
same_truth true b P p q = sym (q.1 (p.0 refl))
same_truth false true P p q = p.1 (q.0 refl)
same_truth false false P p q = refl

module _ (h : List Stamp) (ps : List Performed) (t : ℕ) (variables writes : List ℕ) where
  -- the commit has one part on x at most: two of them are equal
  pub same_part : (x : ℕ) (n m : Next) → IsPartOf t variables writes x n → IsPartOf t variables writes x m → n ≡ m
  same_part x n m p q =
      let write : n.write ≡ m.write = same_truth n.write m.write _ p.3 q.3 in
      λ j. record { thread = (p.0 ∙ sym q.0) j; var = (p.1 ∙ sym q.1) j; write = write j; variables = (p.2 ∙ sym q.2) j }

  -- where the test whether the commit's part on x is racy says no, the commit is not racy on x
  pub not_part : (x : ℕ) (n : Next) (f : Bool) → IsPartOf t variables writes x n → IsTrue f ↔ IsRacyNext h ps n → f ≡ false
      → IsRacyPart h ps t variables writes x → ⊥
  not_part x n f part test fails w =
      let racy : IsRacyNext h ps n = rw (same_part x n w.0 part w.1) w.2 in
      let yes : f ≡ true = test.1 racy in
      cc

  -- where the test says yes of the part on the variable at i, and the commit is racy on none before, it is first racy on that variable
  pub first_here : (xs : List ℕ) (i x : ℕ) (n : Next) (f : Bool) → xs ≡ variables → slice_get xs i ≡ Some x
      → IsPartOf t variables writes x n → IsTrue f ↔ IsRacyNext h ps n → f ≡ true
      → ((k : ℕ) (y : ℕ) → k < i → slice_get xs k ≡ Some y → IsRacyPart h ps t variables writes y → ⊥)
      → IsFirstRacy h ps t variables writes (Some x)
  first_here xs i x n f same there part test holds none =
      (i, (rw same at there), (n, part, test.0 holds), λ k y l here. none k y l (rw same here))

  -- where the commit is racy on none of its first n variables, and has no more than n, it is racy on none
  pub none_left : (xs : List ℕ) (n : ℕ) → xs ≡ variables → length xs ≤ n
      → ((k : ℕ) (y : ℕ) → k < n → slice_get xs k ≡ Some y → IsRacyPart h ps t variables writes y → ⊥) → (k : ℕ) (y : ℕ)
      → slice_get variables k ≡ Some y → IsRacyPart h ps t variables writes y → ⊥
  none_left xs n same le none k y there =
      let here : slice_get xs k ≡ Some y = rw same there in
      let l = slice_get_within xs k y here in
      none k y (omega arith) here
