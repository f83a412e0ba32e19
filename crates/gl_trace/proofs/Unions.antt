-- How many variables two lists have together.
use Rattle.std.proofs.Common.{◌≡◌, ◌+◌, ◌≤◌, ℕ, List, [], ◌∷◌, length, nat_lt, ◌==◌, false, inl, inr, sym, arith}
use Rattle.std.proofs.lemmas.Bool.{cases_Bool, le-ltb}
use Rattle.gl_model.specs.Rising.{with_one, with_all}

-- with one put in, a list is longer by one at most
one_longer : (x : ℕ) (ys : List ℕ) → length (with_one x ys) ≤ length ys + 1
one_longer x [] = omega arith
one_longer x (y ∷ ys) =
    elim (cases_Bool (x == y)) [
      | inl e ↦ rw e (omega arith)
      | inr e ↦
          elim (cases_Bool (nat_lt x y)) [
            | inl f ↦ rw (e, f) (omega arith)
            | inr f ↦ let more = one_longer x ys in rw (e, f) (omega arith)
          ]
    ]

-- with many put in, a list is longer by so many at most
all_longer : (xs ys : List ℕ) → length (with_all xs ys) ≤ length ys + length xs
all_longer [] ys = omega arith
all_longer (x ∷ xs) ys = let one = one_longer x ys in let rest = all_longer xs (with_one x ys) in omega arith

-- lists that are short together are not too many
pub short_fits : (most : ℕ) (xs ys : List ℕ) → length ys + length xs ≤ most → false ≡ nat_lt most (length (with_all xs ys))
short_fits most xs ys short = let longer = all_longer xs ys in sym (le-ltb most (length (with_all xs ys)) (omega arith))
