-- Lists that rise, kept at the head of an array.
use Rattle.std.proofs.Common.{◌≡◌, ◌≢◌, ℕ, zero, suc, ◌+◌, ◌-◌, ◌<◌, ◌≤◌, List, [], ◌∷◌, ◌++◌, length, take, drop, get_or, replicate, refl, ap, sym, ◌∙◌, inl, inr, arith, append_assoc}
use Rattle.std.specs.Prelude.{◌↔◌, IsTrue, false, true, slice_range, Contains}
use Rattle.std.specs.List.{AllByRecursion}
use Rattle.std.proofs.lemmas.Bool.{cases_lt}
use Rattle.std.proofs.lemmas.Bool.Decides.{nat_tests}
use Rattle.std.proofs.Math.Nat.{eq-or-lt_of_le}
use Rattle.gl_model.specs.Rising.{Rises, with_one}
use Rattle.std.proofs.Math.ListN.{set}
use Rattle.std.proofs.lemmas.List.{take_more, take_more_set, get_or-drop, drop-set-lt, drop-drop, drop-take, length-drop, length-take-le, get_or-take, get_or_default, take-take, drop-replicate, take_all}
use Rattle.std.proofs.lemmas.List.Elements.{Contains-push_cases, Contains-get_or}
use Rattle.std.proofs.Math.Seq.{take-append-add}

-- lists that are the same from j on have the same at j
pub same_there : {A : Type 0} (ids old : List A) (j : ℕ) (d : A) → drop j ids ≡ drop j old → get_or ids j d ≡ get_or old j d
same_there ids old j d kept =
    let zero_more : j + 0 ≡ j = omega arith in
    let e : get_or (drop j ids) 0 d ≡ get_or (drop j old) 0 d = ap (λ xs. get_or xs 0 d) kept in
    ap (λ k. get_or ids k d) (sym zero_more) ∙ sym (get_or-drop j ids 0 d) ∙ e ∙ get_or-drop j old 0 d ∙ ap (λ k. get_or old k d) zero_more

-- a range that goes one further has what stands there
range_more : {A : Type 0} (old : List A) (i j : ℕ) (d : A) → i ≤ j → j < length old → slice_range old i (j + 1) ≡ slice_range old i j
    ++ get_or old j d ∷ []
range_more old i j d le n =
    let one_more : j + 1 - i ≡ (j - i) + 1 = omega arith in
    let back : i + (j - i) ≡ j = omega arith in
    let within : j - i < length (drop i old) = omega (arith, length-drop i old) in
    rw (one_more, take_more (drop i old) (j - i) d within, get_or-drop i old (j - i) d, back)

-- one member moved up: the next one is carried, and the head has the new one and those before j + 1
pub moved_more : {A : Type 0} (ids old : List A) (i j : ℕ) (x carried next : A) → i ≤ j → j < length ids → length ids ≡ length old → next
    ≡ get_or ids j next → drop j ids ≡ drop j old → take j ids ++ carried ∷ [] ≡ take i old ++ x ∷ slice_range old i j
    → take (j + 1) (set ids j carried) ++ next ∷ [] ≡ take i old ++ x ∷ slice_range old i (j + 1)
moved_more ids old i j x carried next le n long is kept moved =
    let n' : j < length old = omega arith in
    let there : next ≡ get_or old j next = is ∙ same_there ids old j next kept in
    rw (take_more_set ids j carried n, moved, range_more old i j next le n', ← there)
    (append_assoc (take i old) (x ∷ slice_range old i j) (next ∷ []))

-- after a change at j the rest after it is as it was
pub kept_more : {A : Type 0} (ids old : List A) (j : ℕ) (carried : A) → drop j ids ≡ drop j old → drop (j + 1) (set ids j carried)
    ≡ drop (j + 1) old
kept_more ids old j carried kept =
    let l : j < j + 1 = omega arith in
    rw (drop-set-lt (j + 1) ids j carried l, ← drop-drop 1 j ids, ← drop-drop 1 j old) (ap (λ xs. drop 1 xs) kept)

-- ---- with_one, by the place of x

-- a head that is below x stays the head where x is put in
pub with_one-below : (x y : ℕ) (ys : List ℕ) → y < x → with_one x (y ∷ ys) ≡ y ∷ with_one x ys
with_one-below x y ys l = grind (arith, nat_tests)

-- x comes to the head of what is above it
pub with_one-above : (x y : ℕ) (ys : List ℕ) → x < y → with_one x (y ∷ ys) ≡ x ∷ (y ∷ ys)
with_one-above x y ys l = grind (arith, nat_tests)

-- x is not put in where it is the head
pub with_one-same : (x y : ℕ) (ys : List ℕ) → y ≡ x → with_one x (y ∷ ys) ≡ y ∷ ys
with_one-same x y ys e = grind (arith, nat_tests)

-- x comes to the place where those before are below it and the one there is above it
pub with_one-at : (xs : List ℕ) (x i : ℕ) → i ≤ length xs → ((k : ℕ) → k < i → get_or xs k 0 < x) → (i < length xs → x < get_or xs i 0)
    → with_one x xs ≡ take i xs ++ x ∷ drop i xs
with_one-at [] x i le below here = let none : i ≡ zero = omega arith in rw none
with_one-at (y ∷ ys) x zero le below here = with_one-above x y ys (here (omega arith))
with_one-at (y ∷ ys) x (suc i) le below here =
    rw (with_one-below x y ys (below zero (omega arith)))
    (ap (λ zs. y ∷ zs) (with_one-at ys x i (omega arith) (λ k l. below (suc k) (omega arith)) (λ l. here (omega arith))))

-- what has x stays as it is
pub with_one-there : (xs : List ℕ) (x i : ℕ) → i < length xs → ((k : ℕ) → k < i → get_or xs k 0 < x) → get_or xs i 0 ≡ x → with_one x xs
    ≡ xs
with_one-there [] x i n below here = absurd (omega arith)
with_one-there (y ∷ ys) x zero n below here = with_one-same x y ys here
with_one-there (y ∷ ys) x (suc i) n below here =
    rw (with_one-below x y ys (below zero (omega arith)))
    (ap (λ zs. y ∷ zs) (with_one-there ys x i (omega arith) (λ k l. below (suc k) (omega arith)) here))

-- ---- what holds of each number holds after x is put among them

-- what holds of x and of all in the list holds of all with x
pub All-with_one : (P : ℕ → Type 0) (x : ℕ) (xs : List ℕ) → P x → AllByRecursion P xs → AllByRecursion P (with_one x xs)
All-with_one P x [] p all = (p, tt)
All-with_one P x (y ∷ ys) p all = elim (cases_lt x y) [
  | inl l ↦ rw (with_one-above x y ys l) (p, (all.0, all.1))
  | inr ge ↦ elim (eq-or-lt_of_le ge) [
    | inl same ↦ rw (with_one-same x y ys same) all
    | inr l ↦ rw (with_one-below x y ys l) (all.0, All-with_one P x ys p all.1)
  ]
]

-- what holds of all holds of all in a weaker form
pub weaker : (P Q : ℕ → Type 0) → ((y : ℕ) → P y → Q y) → (xs : List ℕ) → AllByRecursion P xs → AllByRecursion Q xs
weaker P Q f [] all = tt
weaker P Q f (x ∷ xs) all = (f x all.0, weaker P Q f xs all.1)

-- a list that rises does so with one more
pub Rises-with_one : (x : ℕ) (xs : List ℕ) → Rises xs → Rises (with_one x xs)
Rises-with_one x [] rises = (tt, tt)
Rises-with_one x (y ∷ ys) rises = elim (cases_lt x y) [
  | inl l ↦ rw (with_one-above x y ys l) ((l, weaker (λ z. y < z) (λ z. x < z) (λ z m. omega arith) ys rises.0), rises)
  | inr ge ↦ elim (eq-or-lt_of_le ge) [
    | inl same ↦ rw (with_one-same x y ys same) rises
    | inr l ↦ rw (with_one-below x y ys l) (All-with_one (λ z. y < z) x ys l rises.0, Rises-with_one x ys rises.1)
  ]
]

-- in a rising list what stands behind a number that is above x is not x
pub above-all : (x : ℕ) (ys : List ℕ) → AllByRecursion (λ y. x < y) ys → (k : ℕ) → k < length ys → x < get_or ys k 0
above-all x [] all k n = absurd (omega arith)
above-all x (y ∷ ys) all zero n = all.0
above-all x (y ∷ ys) all (suc k) n = above-all x ys all.1 k (omega arith)

-- where x would come before a larger one, the list does not have it
pub not_there : (xs : List ℕ) (x i : ℕ) → Rises xs → ((k : ℕ) → k < i → get_or xs k 0 < x) → (i < length xs → x < get_or xs i 0) → (k : ℕ)
    → k < length xs → get_or xs k 0 ≢ x
not_there [] x i rises below here k n e = omega arith
not_there (y ∷ ys) x zero rises below here zero n e = let l = here (omega arith) in omega arith
not_there (y ∷ ys) x zero rises below here (suc k) n e = let l = here (omega arith) in let m = above-all y ys rises.0 k (omega arith)
    in omega arith
not_there (y ∷ ys) x (suc i) rises below here zero n e = let l = below zero (omega arith) in omega arith
not_there (y ∷ ys) x (suc i) rises below here (suc k) n e =
    not_there ys x i rises.1 (λ j l. below (suc j) (omega arith)) (λ l. here (omega arith)) k (omega arith) e

-- the ids of a set of variables stand at the head of an array
module _ (ids : List ℕ) (len i x : ℕ) (long : len ≤ length ids) (within : i ≤ length (take len ids)) (below : (k : ℕ) → k < i
    → get_or (take len ids) k 0 < x) (here : i < length (take len ids) → x ≤ get_or (take len ids) i 0) where
  -- the head of the array has len ids
  head_length : length (take len ids) ≡ len
  head_length = length-take-le len ids long

  -- where x is the id at i, the set is the one with x already
  pub found_there : i < len → get_or ids i 0 ≡ x → take len ids ≡ with_one x (take len ids)
  found_there l e = sym (with_one-there (take len ids) x i (omega (arith, head_length)) below (get_or-take len ids i 0 l ∙ e))

  -- if x does not stand at i, what stands there is above x
  above_here : (i < len → get_or ids i 0 ≢ x) → i < length (take len ids) → x < get_or (take len ids) i 0
  above_here other l =
      let l' : i < len = omega (arith, head_length) in
      let e : get_or (take len ids) i 0 ≡ get_or ids i 0 = get_or-take len ids i 0 l' in
      let ne : get_or ids i 0 ≢ x = other l' in
      let le : x ≤ get_or (take len ids) i 0 = here l in
      omega arith

  -- where the id at i, if there is one, is another one, putting x in before it gives the set with x
  pub put_there : (i < len → get_or ids i 0 ≢ x) → take i ids ++ x ∷ slice_range ids i len ≡ with_one x (take len ids)
  put_there other =
      let le : i ≤ len = omega (arith, head_length) in
      let split : i + (len - i) ≡ len = omega arith in
      let first : take i (take len ids) ≡ take i ids = take-take i len ids le in
      let rest : drop i (take len ids) ≡ slice_range ids i len = rw split at (drop-take i (len - i) ids) in
      rw (with_one-at (take len ids) x i within below (above_here other), first, rest)

  -- where the id at i, if there is one, is another one, and the set rises, x is not in it
  pub not_among : Rises (take len ids) → (i < len → get_or ids i 0 ≢ x) → Contains (take len ids) x → ⊥
  not_among rises other c = not_there (take len ids) x i rises below (above_here other) c.0 c.1 (get_or_default (take len ids) c.0 0 x c.1
      ∙ c.2)

-- one zero fewer behind them, in an array of n
pub zeros_fewer : (n : ℕ) (ids new : List ℕ) (len : ℕ) → drop len ids ≡ replicate (n - len) 0 → drop (len + 1) new ≡ drop (len + 1) ids
    → drop (len + 1) new ≡ replicate (n - (len + 1)) 0
zeros_fewer n ids new len zero_behind same =
    let e : n - len - 1 ≡ n - (len + 1) = omega arith in
    let d : drop 1 (drop len ids) ≡ replicate (n - len - 1) 0 = ap (λ (xs : List ℕ). drop 1 xs) zero_behind
    ∙ drop-replicate 1 (n - len) 0 in
    rw (same, ← drop-drop 1 len ids, d, e)

-- a number put in where there is no room for another: the last one falls out
pub put_full : (ids : List ℕ) (len i x : ℕ) → i < len → len ≤ length ids → take i ids ++ x ∷ slice_range ids i (len - 1)
    ≡ take len (take i ids ++ x ∷ slice_range ids i len)
put_full ids len i x l le =
    let long : length (take i ids) ≡ i = length-take-le i ids (omega arith) in
    let split : len ≡ length (take i ids) + suc (len - 1 - i) = omega arith in
    let shorter : len - 1 - i ≤ len - i = omega arith in
    let first : take (length (take i ids) + suc (len - 1 - i)) (take i ids ++ x ∷ slice_range ids i len) ≡ take i ids ++ x
    ∷ take (len - 1 - i) (slice_range ids i len) = take-append-add (take i ids) (x ∷ slice_range ids i len) (suc (len - 1 - i)) in
    let rest : take (len - 1 - i) (slice_range ids i len)
    ≡ slice_range ids i (len - 1) = take-take (len - 1 - i) (len - i) (drop i ids) shorter in
    ap (λ ys. take i ids ++ x ∷ ys) (sym rest) ∙ sym first ∙ ap (λ n. take n (take i ids ++ x ∷ slice_range ids i len)) (sym split)

-- what holds of each number of a rising list, and that it rises, holds of the first of them
pub All-take : (P : ℕ → Type 0) (n : ℕ) (xs : List ℕ) → AllByRecursion P xs → AllByRecursion P (take n xs)
All-take P zero xs all = tt
All-take P (suc n) [] all = tt
All-take P (suc n) (x ∷ xs) all = (all.0, All-take P n xs all.1)

-- the head of a list that rises does so too
pub Rises-take : (n : ℕ) (xs : List ℕ) → Rises xs → Rises (take n xs)
Rises-take zero xs rises = tt
Rises-take (suc n) [] rises = tt
Rises-take (suc n) (x ∷ xs) rises = (All-take (λ y. x < y) n xs rises.0, Rises-take n xs rises.1)

-- a number that is above all is the last
pub past_all : (xs : List ℕ) (x : ℕ) → ((k : ℕ) → k < length xs → get_or xs k 0 < x) → with_one x xs ≡ xs ++ x ∷ []
past_all [] x below = refl
past_all (y ∷ ys) x below = rw (with_one-below x y ys (below zero (omega arith)))
    (ap (λ zs. y ∷ zs) (past_all ys x (λ k l. below (suc k) (omega arith))))

-- where none of the first i of a list is in another, nor what stands at i, none of the first i + 1 is
pub meet_more : (xs ys : List ℕ) (i : ℕ) → i < length xs → ((x : ℕ) → Contains (take i xs) x → Contains ys x → ⊥)
    → (Contains ys (get_or xs i 0) → ⊥) → (x : ℕ) → Contains (take (i + 1) xs) x → Contains ys x → ⊥
meet_more xs ys i n none not_this x = rw (take_more xs i 0 n)
    (λ c d. elim (Contains-push_cases (take i xs) (get_or xs i 0) x c) [ inl before ↦ none x before d | inr same ↦ not_this (rw same d) ])

-- lists that have nothing in common up to the end of the first do not meet
pub meet_none : (xs ys : List ℕ) (i : ℕ) → length xs ≤ i → ((x : ℕ) → Contains (take i xs) x → Contains ys x → ⊥)
    → IsTrue false ↔ ((x : ℕ) × Contains xs x × Contains ys x)
meet_none xs ys i n none = (λ f. absurd (cc), λ w. absurd (none w.0 (rw (take_all i xs n) w.1) w.2))

-- lists meet where the one has what stands in the other
pub meet_here : (xs ys : List ℕ) (i : ℕ) → i < length xs → Contains ys (get_or xs i 0)
    → IsTrue true ↔ ((x : ℕ) × Contains xs x × Contains ys x)
meet_here xs ys i n c = (λ _. (get_or xs i 0, Contains-get_or xs i 0 n, c), λ _. refl)
