-- The numbers that one entry drew on a variable, as a list.
use Rattle.std.proofs.Common.{◌≡◌, ◌≢◌, ℕ, ℤ, zero, suc, ◌<◌, ◌≤◌, ◌==◌, ◌&&◌, not, if◌then◌else◌, Bool, true, false, List, [], ◌∷◌, ◌++◌, length, map, Some, refl, sym, ◌∙◌, ap, inl, inr, arith, eq-eqb}
use Rattle.std.specs.Prelude.{slice_get, ◌⊎◌, filter, Contains}
use Rattle.std.specs.List.{AllByRecursion}
use Rattle.std.proofs.lemmas.Bool.{eqb-true}
use Rattle.std.proofs.lemmas.Option.{slice_get-get_or, get_or_from_slice_get, slice_get_within}
use Rattle.gl_model.specs.declared.tx.Look.{Look}
use Rattle.gl_model.specs.declared.tx.Number.{Number}
use Rattle.gl_model.specs.declared.tx.Tx.{Tx}
use Rattle.gl_model.specs.Entries.{Entry, Sync, Commit, Plain, Abort, Trim, Over}
use Rattle.gl_model.specs.Form.{Draws, EntryForm}
use Rattle.gl_model.specs.Kept.{IsEntryKept, IsTxKept}
use Rattle.gl_model.specs.Rising.{Rises}
use Rattle.gl_model.proofs.ListsOf.{other_false}
use Rattle.gl_listing.specs.Numbering.{draws_on}
use Rattle.gl_listing.proofs.Apart.{of_entry}
use Rattle.gl_places.proofs.UsesMade.{IsAmong}
use Rattle.gl_places.proofs.Pigeons.{IsOnce}

-- what is in a list stands somewhere in it
pub at_of : {A : Type 0} → (xs : List A) (x : A) → Contains xs x → (k : ℕ) × (slice_get xs k ≡ Some x)
at_of xs x c = (c.0, slice_get-get_or xs c.0 x c.1 ∙ ap Some c.2)

-- what stands at a place is in the list
pub contains_at : {A : Type 0} → (xs : List A) (k : ℕ) (x : A) → slice_get xs k ≡ Some x → Contains xs x
contains_at xs k x at = (k, slice_get_within xs k x at, get_or_from_slice_get xs k x x at)

module _ {A : Type 0} (f g : A → ℕ) (y : ℕ) where
  abbrev pub picks : List A → List ℕ
  picks xs = map f (filter (λ b. g b == y) xs)

  record IsPick (xs : List A) (p : ℕ) : Type 0 where
    place : ℕ
    item : A
    there : slice_get xs place ≡ Some item
    var : g item ≡ y
    number : f item ≡ p

  -- where g of an item of the list is y, f of that item is among what is picked
  picked : (xs : List A) (k : ℕ) (a : A) → slice_get xs k ≡ Some a → g a ≡ y → IsAmong (picks xs) (f a)
  picked [] k a at is = cc
  picked (x ∷ xs) zero a at is =
      let same : x ≡ a = cc in
      let here : (g x == y) ≡ true = eq-eqb (g x) y (ap g same ∙ is) in
      rw here (0, ap (λ b. Some (f b)) same)
  picked (x ∷ xs) (suc k) a at is = by_test (g x == y) refl (picked xs k a at is) where
    -- if f of a is picked from the rest of a list, it is picked from the list with x at its front
    by_test : (b : Bool) → (g x == y) ≡ b → IsAmong (picks xs) (f a) → IsAmong (picks (x ∷ xs)) (f a)
    by_test true e more = rw e (suc more.0, more.1)
    by_test false e more = rw e more

  -- whatever is picked is f of some item of the list whose g is y
  pick_of : (xs : List A) (p : ℕ) → IsAmong (picks xs) p → IsPick xs p
  pick_of [] p (k, at) = cc
  pick_of (x ∷ xs) p among = by_test (g x == y) refl (λ i. pick_of xs p i) where
    -- a pick of the rest of a list is a pick of the list with x at its front
    later : IsPick xs p → IsPick (x ∷ xs) p
    later l = record { place = suc l.place; item = l.item; there = l.there; var = l.var; number = l.number }

    -- where g of x is y: what stands in f of x and the picks of the rest is a pick of the
    -- whole list, if all that is picked from the rest is a pick of it
    first : (k : ℕ) → slice_get (f x ∷ picks xs) k ≡ Some p → (g x == y) ≡ true → (IsAmong (picks xs) p → IsPick xs p) → IsPick (x ∷ xs) p
    first zero at e more = record { place = 0; item = x; there = refl; var = eqb-true (g x) y e; number = cc }
    first (suc k) at e more = later (more (k, at))

    -- whether x is picked or not: p is a pick of the whole list, if it is one of the rest wherever it is picked from the rest
    by_test : (b : Bool) → (g x == y) ≡ b → (IsAmong (picks xs) p → IsPick xs p) → IsPick (x ∷ xs) p
    by_test true e more =
        let list : picks (x ∷ xs) ≡ f x ∷ picks xs = rw e refl in
        first among.0 (ap (λ l. slice_get l among.0) (sym list) ∙ among.1) e more
    by_test false e more =
        let list : picks (x ∷ xs) ≡ picks xs = rw e refl in
        later (more (among.0, ap (λ l. slice_get l among.0) (sym list) ∙ among.1))

  -- where g of each item is above y, nothing is picked
  none_picked : (xs : List A) → AllByRecursion (λ z. y < z) (map g xs) → picks xs ≡ []
  none_picked [] above = refl
  none_picked (x ∷ xs) above =
      let first : y < g x = above.0 in
      let different : g x ≢ y = λ same. let s : g x ≡ y = same in omega arith in
      rw (other_false (g x) y different) (none_picked xs above.1)

  -- where g rises along the list, at most one item is picked
  few_picked : (xs : List A) → Rises (map g xs) → length (picks xs) ≤ 1
  few_picked [] rises = omega arith
  few_picked (x ∷ xs) rises = by_test (g x == y) refl (few_picked xs rises.1) where
    -- whether x is picked or not: if at most one item of the rest is picked, at most one of the whole list is
    by_test : (b : Bool) → (g x == y) ≡ b → length (picks xs) ≤ 1 → length (picks (x ∷ xs)) ≤ 1
    by_test true e more =
        let same : g x ≡ y = eqb-true (g x) y e in
        let above : AllByRecursion (λ z. y < z) (map g xs) = rw (sym same) rises.0 in
        let none = none_picked xs above in
        rw (e, none) (omega arith)
    by_test false e more = rw e more

-- ## Two short lists

-- two lists of at most one number, with none in common, have each number once together
once_two : (ms bs : List ℕ) → length ms ≤ 1 → length bs ≤ 1 → ((p : ℕ) → IsAmong ms p → IsAmong bs p → ⊥) → IsOnce (ms ++ bs)
once_two [] [] one other across j k p less at also = cc
once_two [] (b ∷ []) one other across zero zero p less at also = omega arith
once_two [] (b ∷ []) one other across zero (suc k) p less at also = cc
once_two [] (b ∷ []) one other across (suc j) k p less at also = cc
once_two [] (b ∷ (c ∷ bs)) one other across j k p less at also = omega arith
once_two (a ∷ []) [] one other across zero zero p less at also = omega arith
once_two (a ∷ []) [] one other across zero (suc k) p less at also = cc
once_two (a ∷ []) [] one other across (suc j) k p less at also = cc
once_two (a ∷ []) (b ∷ []) one other across zero zero p less at also = omega arith
once_two (a ∷ []) (b ∷ []) one other across zero (suc zero) p less at also = across p (0, at) (0, also)
once_two (a ∷ []) (b ∷ []) one other across zero (suc (suc k)) p less at also = cc
once_two (a ∷ []) (b ∷ []) one other across (suc zero) zero p less at also = omega arith
once_two (a ∷ []) (b ∷ []) one other across (suc zero) (suc zero) p less at also = omega arith
once_two (a ∷ []) (b ∷ []) one other across (suc zero) (suc (suc k)) p less at also = cc
once_two (a ∷ []) (b ∷ []) one other across (suc (suc j)) k p less at also = cc
once_two (a ∷ []) (b ∷ (c ∷ bs)) one other across j k p less at also = omega arith
once_two (a ∷ (c ∷ ms)) bs one other across j k p less at also = omega arith

-- what is in the first of two lists is in both together
among_front : (ms bs : List ℕ) (p : ℕ) → IsAmong ms p → IsAmong (ms ++ bs) p
among_front [] bs p (k, at) = cc
among_front (a ∷ ms) bs p (zero, at) = (0, at)
among_front (a ∷ ms) bs p (suc k, at) = (let more = among_front ms bs p (k, at) in (suc more.0, more.1))

-- what is in the second of two lists is in both together
among_back : (ms bs : List ℕ) (p : ℕ) → IsAmong bs p → IsAmong (ms ++ bs) p
among_back [] bs p is = is
among_back (a ∷ ms) bs p is = (let more = among_back ms bs p is in (suc more.0, more.1))

-- what is in two lists together is in one of them
among_either : (ms bs : List ℕ) (p : ℕ) → IsAmong (ms ++ bs) p → IsAmong ms p ⊎ IsAmong bs p
among_either [] bs p is = inr is
among_either (a ∷ ms) bs p (zero, at) = inl (0, at)
among_either (a ∷ ms) bs p (suc k, at) = elim (among_either ms bs p (k, at)) [
  | inl front ↦ inl (suc front.0, front.1)
  | inr back ↦ inr back
]

-- ## A transaction

-- the numbers that a transaction's looks drew on y
abbrev look_picks : ℕ → Tx → List ℕ
look_picks y tx = map (λ (l : Look). l.nth) (filter (λ (l : Look). l.var == y) tx.looks)

-- the numbers of its own that a transaction drew on y
abbrev own_picks : ℕ → Tx → List ℕ
own_picks y tx = map (λ (n : Number). n.nth) (filter (λ (n : Number). n.var == y) tx.numbers)

-- a look of the transaction drew p on y
abbrev LooksAt : Tx → ℕ → ℕ → Type 0
LooksAt tx y p = (value : ℤ) × Contains tx.looks (record { var = y; value = value; nth = p })

-- the transaction drew p on y as its own
abbrev OwnAt : Tx → ℕ → ℕ → Type 0
OwnAt tx y p = Contains tx.numbers (record { var = y; nth = p })

-- a number that a look drew is among the looks' numbers
look_in : (y p : ℕ) (tx : Tx) → LooksAt tx y p → IsAmong (look_picks y tx) p
look_in y p tx (value, is) = (let at = at_of tx.looks _ is
    in picked (λ (l : Look). l.nth) (λ (l : Look). l.var) y tx.looks at.0 _ at.1 refl)

-- a number of its own is among its own
own_in : (y p : ℕ) (tx : Tx) → OwnAt tx y p → IsAmong (own_picks y tx) p
own_in y p tx is = (let at = at_of tx.numbers _ is in picked (λ (n : Number). n.nth) (λ (n : Number). n.var) y tx.numbers at.0 _ at.1 refl)

-- a number among the looks' was drawn by a look
look_is : (y p : ℕ) (tx : Tx) → IsAmong (look_picks y tx) p → LooksAt tx y p
look_is y p tx among =
    let x = pick_of (λ (l : Look). l.nth) (λ (l : Look). l.var) y tx.looks p among in
    (x.item.value, contains_at tx.looks x.place _ (x.there ∙ ap Some (named x.item.var y x.item.value x.item.nth p x.var x.number))) where
      look : ℕ → ℤ → ℕ → Look
      look x v n = record { var = x; value = v; nth = n }

      named : (a b : ℕ) (v : ℤ) (m n : ℕ) → a ≡ b → m ≡ n → look a v m ≡ look b v n
      named a b v m n same equal = rw (same, equal) refl

-- a number among its own was drawn as its own
own_is : (y p : ℕ) (tx : Tx) → IsAmong (own_picks y tx) p → OwnAt tx y p
own_is y p tx among =
    let x = pick_of (λ (n : Number). n.nth) (λ (n : Number). n.var) y tx.numbers p among in
    contains_at tx.numbers x.place _ (x.there ∙ ap Some (named x.item.var y x.item.nth p x.var x.number)) where
      own : ℕ → ℕ → Number
      own x n = record { var = x; nth = n }

      named : (a b m n : ℕ) → a ≡ b → m ≡ n → own a m ≡ own b n
      named a b m n same equal = rw (same, equal) refl

-- a kept transaction that draws no number in both ways drew each on y once
tx_once : (y : ℕ) (tx : Tx) → IsTxKept tx → ((p : ℕ) → LooksAt tx y p → OwnAt tx y p → ⊥) → IsOnce (look_picks y tx ++ own_picks y tx)
tx_once y tx kept apart = once_two (look_picks y tx) (own_picks y tx)
    (few_picked (λ (l : Look). l.nth) (λ (l : Look). l.var) y tx.looks kept.0.1)
    (few_picked (λ (n : Number). n.nth) (λ (n : Number). n.var) y tx.numbers kept.2.1)
    (λ p one other. apart p (look_is y p tx one) (own_is y p tx other))

-- a number that a transaction drew is among those of both kinds
tx_in : (y p : ℕ) (tx : Tx) → LooksAt tx y p ⊎ OwnAt tx y p → IsAmong (look_picks y tx ++ own_picks y tx) p
tx_in y p tx (inl look) = among_front (look_picks y tx) (own_picks y tx) p (look_in y p tx look)
tx_in y p tx (inr own) = among_back (look_picks y tx) (own_picks y tx) p (own_in y p tx own)

-- a number among those of both kinds was drawn by the transaction
tx_of : (y p : ℕ) (tx : Tx) → IsAmong (look_picks y tx ++ own_picks y tx) p → LooksAt tx y p ⊎ OwnAt tx y p
tx_of y p tx among = elim (among_either (look_picks y tx) (own_picks y tx) p among) [
  | inl front ↦ inl (look_is y p tx front)
  | inr back ↦ inr (own_is y p tx back)
]

-- ## An entry

-- a number that an entry drew on y is in its list of them
pub draws_in : (y p : ℕ) (e : Entry) → Draws e y p → IsAmong (draws_on y e) p
draws_in y p (Commit at tx) is = tx_in y p tx is
draws_in y p (Abort tx why) is = tx_in y p tx is
draws_in y p (Plain var nth cached write value raised) (inr is) =
    let fresh : cached ≡ false = is.0 in
    let same : (var == y) ≡ true = eq-eqb var y is.1 in
    rw (fresh, same) (0, ap Some is.2)
draws_in y p (Plain var nth cached write value raised) (inl is) = absurd is
draws_in y p (Sync at act value) (inl is) = absurd is
draws_in y p (Sync at act value) (inr is) = absurd is
draws_in y p (Trim low) (inl is) = absurd is
draws_in y p (Trim low) (inr is) = absurd is
draws_in y p (Over ending) (inl is) = absurd is
draws_in y p (Over ending) (inr is) = absurd is

-- a number that a plain access drew is its own, and it is no repeat and on the variable
plain_of : (c s : Bool) (nth p k : ℕ) → slice_get (if not c && s then nth ∷ [] else []) k ≡ Some p → (c ≡ false) × (s ≡ true) × (nth ≡ p)
plain_of false true nth p zero at = (refl, refl, cc)
plain_of false true nth p (suc k) at = cc
plain_of false false nth p k at = cc
plain_of true s nth p k at = cc

-- a number in the list of those that an entry drew on y was drawn
pub draws_are : (y p : ℕ) (e : Entry) → IsAmong (draws_on y e) p → Draws e y p
draws_are y p (Commit at tx) among = tx_of y p tx among
draws_are y p (Abort tx why) among = tx_of y p tx among
draws_are y p (Plain var nth cached write value raised) (k, at) =
    (let x = plain_of cached (var == y) nth p k at in inr (x.0, eqb-true var y x.1, x.2))
draws_are y p (Sync at act value) (k, there) = cc
draws_are y p (Trim low) (k, there) = cc
draws_are y p (Over ending) (k, there) = cc

-- a plain access drew its number once
plain_once : (c s : Bool) (nth : ℕ) → IsOnce (if not c && s then nth ∷ [] else [])
plain_once false true nth zero zero p less at also = omega arith
plain_once false true nth zero (suc k) p less at also = cc
plain_once false true nth (suc j) k p less at also = cc
plain_once false false nth j k p less at also = cc
plain_once true s nth j k p less at also = cc

-- a kept and well-formed entry drew each number on y once
pub entry_once : (y t : ℕ) (e : Entry) → IsEntryKept e → EntryForm t e → IsOnce (draws_on y e)
entry_once y t (Commit at tx) kept formed = tx_once y tx kept (λ p look own. of_entry t (Commit at tx) y p formed look own)
entry_once y t (Abort tx why) kept formed = tx_once y tx kept.0 (λ p look own. of_entry t (Abort tx why) y p formed look own)
entry_once y t (Plain var nth cached write value raised) kept formed = plain_once cached (var == y) nth
entry_once y t (Sync at act value) kept formed = λ j k p less there also. cc
entry_once y t (Trim low) kept formed = λ j k p less there also. cc
entry_once y t (Over ending) kept formed = λ j k p less there also. cc
