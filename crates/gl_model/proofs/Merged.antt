-- Two lists that rise, merged.
use Rattle.std.proofs.Common.{◌≡◌, ◌-◌, ◌<◌, ◌≤◌, ℕ, zero, suc, List, [], ◌∷◌, length, get_or, refl, ap, ◌∙◌, arith}
use Rattle.std.specs.List.{AllByRecursion}
use Rattle.gl_model.specs.Rising.{Rises, with_one, with_all}
use Rattle.gl_model.proofs.RisingLists.{weaker, above-all, with_one-below, with_one-above, with_one-same, All-with_one, Rises-with_one}

-- a number that is below all that are put in stays the first
stays_first : (xs : List ℕ) (x : ℕ) (ys : List ℕ) → AllByRecursion (λ z. x < z) xs → with_all xs (x ∷ ys) ≡ x ∷ with_all xs ys
stays_first [] x ys below = refl
stays_first (z ∷ xs) x ys below = rw (with_one-below z x ys below.0) (stays_first xs x (with_one z ys) below.1)

-- the least is the first of the list, where nothing is put in
pub left_alone : (left right xs : List ℕ) (x : ℕ) → left ≡ x ∷ xs → right ≡ [] → with_all right left ≡ x ∷ with_all right xs
left_alone left right xs x l r = rw (l, r) refl

-- the least is the first of those that are put in, where nothing else is there
pub right_alone : (left right ys : List ℕ) (y : ℕ) → left ≡ [] → right ≡ y ∷ ys → Rises right → with_all right left ≡ y ∷ with_all ys left
right_alone left right ys y l r rises =
    let below : AllByRecursion (λ z. y < z) ys = (rw r at rises).0 in
    rw (l, r) (stays_first ys y [] below)

module _ (left right xs ys : List ℕ) (x y : ℕ) (l : left ≡ x ∷ xs) (r : right ≡ y ∷ ys) (rises : Rises right) where
  -- all that are put in behind y are above y
  below : AllByRecursion (λ z. y < z) ys
  below = (rw r at rises).0

  -- the least is the first of the list
  pub left_least : x < y → with_all right left ≡ x ∷ with_all right xs
  left_least less = rw (l, r) (stays_first (y ∷ ys) x xs (less, weaker (λ z. y < z) (λ z. x < z) (λ z m. omega arith) ys below))

  -- the least is the first of those that are put in
  pub right_least : y < x → with_all right left ≡ y ∷ with_all ys left
  right_least less = rw (l, r) (ap (with_all ys) (with_one-above y x xs less) ∙ stays_first ys y (x ∷ xs) below)

  -- the least is the first of both
  pub both_least : x ≡ y → with_all right left ≡ x ∷ with_all ys xs
  both_least same = rw (l, r) (ap (with_all ys) (with_one-same y x xs same)
      ∙ stays_first ys x xs (weaker (λ z. y < z) (λ z. x < z) (λ z m. omega arith) ys below))

-- in a list that rises what stands before is no greater
rising_places : (xs : List ℕ) (k n : ℕ) → Rises xs → k ≤ n → n < length xs → get_or xs k 0 ≤ get_or xs n 0
rising_places [] k n rises le less = absurd (omega arith)
rising_places (x ∷ xs) zero zero rises le less = omega arith
rising_places (x ∷ xs) zero (suc n) rises le less = let above : x < get_or xs n 0 = above-all x xs rises.0 n (omega arith) in omega arith
rising_places (x ∷ xs) (suc k) zero rises le less = absurd (omega arith)
rising_places (x ∷ xs) (suc k) (suc n) rises le less = rising_places xs k n rises.1 (omega arith) (omega arith)

-- where the last is below x all are
pub all_below : (xs : List ℕ) (x : ℕ) → Rises xs → get_or xs (length xs - 1) 0 < x → (k : ℕ) → k < length xs → get_or xs k 0 < x
all_below xs x rises less k n = let most = rising_places xs k (length xs - 1) rises (omega arith) (omega arith) in omega arith

-- what holds of each number of both lists, and that they rise, holds after one is put into the other
pub All-with_all : (P : ℕ → Type 0) (xs ys : List ℕ) → AllByRecursion P xs → AllByRecursion P ys → AllByRecursion P (with_all xs ys)
All-with_all P [] ys all others = others
All-with_all P (x ∷ xs) ys all others = All-with_all P xs (with_one x ys) all.1 (All-with_one P x ys all.0 others)

-- if the list into which others are put rises, so does the whole
pub Rises-with_all : (xs ys : List ℕ) → Rises ys → Rises (with_all xs ys)
Rises-with_all [] ys rises = rises
Rises-with_all (x ∷ xs) ys rises = Rises-with_all xs (with_one x ys) (Rises-with_one x ys rises)
