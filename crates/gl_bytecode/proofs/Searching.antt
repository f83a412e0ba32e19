-- A search for the first wrong element goes on by one.
use Rattle.std.proofs.Common.{◌≡◌, ℕ, ◌+◌, ◌<◌, ◌≤◌, nat_lt, Bool, true, false, List, length, Option, Some, None, refl, sym, ◌∙◌, arith}
use Rattle.std.specs.Prelude.{slice_get, slice_index_or}
use Rattle.std.proofs.lemmas.Bool.Decides.{nat_tests}
use Rattle.std.proofs.lemmas.Option.{slice_get-get_or, slice_get_within}
use Rattle.gl_bytecode.specs.Searches.{IsAllRight, IsRightBefore, wrong_at}

-- where nothing is wrong before a place, nor there, nothing is before the next one
pub right_more : {X : Type 0} (fault : X → Option ℕ) (items xs : List X) (n : ℕ) (d : X) (found : Option ℕ) → items ≡ xs
    → n < length items → found ≡ fault (slice_index_or items n d) → found ≡ None → IsRightBefore fault xs n → IsRightBefore fault xs (n + 1)
right_more fault items xs n d found same within is none before k less = by_test (nat_lt k n) refl where
  by_test : (b : Bool) → nat_lt k n ≡ b → wrong_at fault xs k ≡ None
  by_test true passes = before k (grind (arith, nat_tests))
  by_test false fails =
      let last : k ≡ n = grind (arith, nat_tests) in
      let there : slice_get items n ≡ Some (slice_index_or items n d) = slice_get-get_or items n d within in
      let right : wrong_at fault items n ≡ None = (rw there (sym is ∙ none)) in
      rw (last, sym same) right

-- where nothing is wrong before the end, nothing is
pub all_right : {X : Type 0} (fault : X → Option ℕ) (xs : List X) (n : ℕ) → length xs ≤ n → IsRightBefore fault xs n → IsAllRight fault xs
all_right {X} fault xs n long before k = by_place (slice_get xs k) refl where
  by_place : (o : Option X) → slice_get xs k ≡ o → wrong_at fault xs k ≡ None
  by_place None is = rw is refl
  by_place (Some x) is = (let within = slice_get_within xs k x is in before k (omega arith))
