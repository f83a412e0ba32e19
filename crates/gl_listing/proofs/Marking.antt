-- The numbers that were met, one number more at a time.
use Rattle.std.proofs.Common.{◌≡◌, ◌≢◌, ℕ, zero, suc, ◌+◌, ◌<◌, ◌≤◌, Bool, true, false, List, [], ◌∷◌, length, Some, refl, sym, ◌∙◌, ap, inl, inr, arith, replicate}
use Rattle.std.specs.Prelude.{slice_get, slice_set, ◌⊎◌}
use Rattle.std.proofs.lemmas.Bool.{cases_order, cases_lt}
use Rattle.std.proofs.lemmas.Option.{slice_get_within}
use Rattle.gl_places.specs.Uses.{IsWrongAt}
use Rattle.gl_listing.specs.Looking.{IsMarked, IsRefused}

-- the number at k is the first that is wrong
pub record IsFirstWrong (ns : List ℕ) (k : ℕ) : Type 0 where
  pub fails : IsWrongAt ns k
  pub before : (j : ℕ) → j < k → IsWrongAt ns j → ⊥

-- the first k of these numbers were met, and of them none is wrong
pub record HasMet (ns : List ℕ) (k : ℕ) (met : List Bool) : Type 0 where
  pub long : length met ≡ length ns
  pub only : (i : ℕ) → slice_get met i ≡ Some true → (j : ℕ) × (j < k) × (slice_get ns j ≡ Some i)
  pub each : (i j : ℕ) → j < k → slice_get ns j ≡ Some i → slice_get met i ≡ Some true
  pub right : (j : ℕ) → j < k → IsWrongAt ns j → ⊥

-- a list in which one is set is as long as before
set_length : (bs : List Bool) (i : ℕ) (b : Bool) → length (slice_set bs i b) ≡ length bs
set_length [] i b = refl
set_length (x ∷ bs) zero b = refl
set_length (x ∷ bs) (suc i) b = (let more = set_length bs i b in omega arith)

-- what was set stands there, where something stood
set_same : (bs : List Bool) (i : ℕ) (b c : Bool) → slice_get bs i ≡ Some c → slice_get (slice_set bs i b) i ≡ Some b
set_same [] i b c there = cc
set_same (x ∷ bs) zero b c there = refl
set_same (x ∷ bs) (suc i) b c there = set_same bs i b c there

-- at any other place stands what stood there
set_other : (bs : List Bool) (i j : ℕ) (b : Bool) → i ≢ j → slice_get (slice_set bs i b) j ≡ slice_get bs j
set_other [] i j b other = refl
set_other (x ∷ bs) zero zero b other = absurd (other refl)
set_other (x ∷ bs) zero (suc j) b other = refl
set_other (x ∷ bs) (suc i) zero b other = refl
set_other (x ∷ bs) (suc i) (suc j) b other = set_other bs i j b (λ same. other (ap suc same))

-- where all are unset, none is set
none_set : (n i : ℕ) → slice_get (replicate n false) i ≡ Some true → ⊥
none_set zero i is = cc
none_set (suc n) zero is = cc
none_set (suc n) (suc i) is = none_set n i is

-- n times a thing are n things
replicate_long : (n : ℕ) → length (replicate n false) ≡ n
replicate_long zero = refl
replicate_long (suc n) = (let more = replicate_long n in omega arith)

-- where the next number was not met, it is not wrong
not_wrong : (ns : List ℕ) (k n : ℕ) (met : List Bool) → HasMet ns k met → slice_get ns k ≡ Some n → slice_get met n ≡ Some false
    → IsWrongAt ns k → ⊥
not_wrong ns k n met has at fresh wrong = by_fault wrong.wrong where
  same : wrong.number ≡ n
  same = (let there = wrong.there in cc)

  by_fault : (length ns ≤ wrong.number) ⊎ ((j : ℕ) × (j < k) × (slice_get ns j ≡ Some wrong.number)) → ⊥
  by_fault (inl ge) =
      let is = same in
      let within = slice_get_within met n false fresh in
      let long = has.long in
      omega arith
  by_fault (inr (j, less, there)) = (let marked = has.each n j less (there ∙ ap Some same) in cc)

-- a number that is marked is one more that was met
pub met_more : (ns : List ℕ) (k n : ℕ) (met new : List Bool) → HasMet ns k met → slice_get ns k ≡ Some n → IsMarked met n new
    → HasMet ns (k + 1) new
met_more ns k n met new has at marks = record {
  long = ap length marks.after_is ∙ set_length met n true ∙ has.long;
  only = λ i there. only i there (cases_order i n);
  each = λ i j less there. each i j less there (cases_order i n);
  right = λ j less wrong. right j less wrong (cases_order j k);
} where
  old_at : (i : ℕ) → i ≢ n → slice_get new i ≡ slice_get met i
  old_at i other = ap (λ bs. slice_get bs i) marks.after_is ∙ set_other met n i true (λ same. other (sym same))

  earlier : (i : ℕ) → (j : ℕ) × (j < k) × (slice_get ns j ≡ Some i) → (j : ℕ) × (j < k + 1) × (slice_get ns j ≡ Some i)
  earlier i (j, less, there) = (j, omega arith, there)

  only : (i : ℕ) → slice_get new i ≡ Some true → (i ≡ n) ⊎ ((i < n) ⊎ (n < i)) → (j : ℕ) × (j < k + 1) × (slice_get ns j ≡ Some i)
  only i there (inl same) = (k, omega arith, at ∙ ap Some (sym same))
  only i there (inr (inl less)) = earlier i (has.only i (sym (old_at i (λ same. let s : i ≡ n = same in omega arith)) ∙ there))
  only i there (inr (inr less)) = earlier i (has.only i (sym (old_at i (λ same. let s : i ≡ n = same in omega arith)) ∙ there))

  now : (i : ℕ) → i ≡ n → slice_get new i ≡ Some true
  now i same = rw same (ap (λ bs. slice_get bs n) marks.after_is ∙ set_same met n true false marks.fresh)

  before : (i j : ℕ) → j < k + 1 → slice_get ns j ≡ Some i → i ≢ n → j < k
  before i j less there other = elim (cases_lt j k) [
    | inl lt ↦ lt
    | inr ge ↦ absurd (let is : j ≡ k = omega arith in let moved : slice_get ns j ≡ Some n = rw is at in let same : i ≡ n = cc
        in other same)
  ]

  each : (i j : ℕ) → j < k + 1 → slice_get ns j ≡ Some i → (i ≡ n) ⊎ ((i < n) ⊎ (n < i)) → slice_get new i ≡ Some true
  each i j less there (inl same) = now i same
  each i j less there (inr (inl lt)) = (let other : i ≢ n = λ same. let s : i ≡ n = same in omega arith in old_at i other
      ∙ has.each i j (before i j less there other) there)
  each i j less there (inr (inr gt)) = (let other : i ≢ n = λ same. let s : i ≡ n = same in omega arith in old_at i other
      ∙ has.each i j (before i j less there other) there)

  right : (j : ℕ) → j < k + 1 → IsWrongAt ns j → (j ≡ k) ⊎ ((j < k) ⊎ (k < j)) → ⊥
  right j less wrong (inl same) = (let Q : IsWrongAt ns k = rw (sym same) wrong in not_wrong ns k n met has at marks.fresh Q)
  right j less wrong (inr (inl lt)) = has.right j lt wrong
  right j less wrong (inr (inr gt)) = omega arith

-- a number that is too large, or was met, is the first wrong one
pub met_wrong : (ns : List ℕ) (k n : ℕ) (met : List Bool) → HasMet ns k met → slice_get ns k ≡ Some n → IsRefused met n → IsFirstWrong ns k
met_wrong ns k n met has at (inl ge) =
    let long = has.long in
    record { fails = record { number = n; there = at; wrong = inl (omega arith) }; before = λ j less wrong. has.right j less wrong }
met_wrong ns k n met has at (inr marked) = record {
  fails = record { number = n; there = at; wrong = inr (has.only n marked) };
  before = λ j less wrong. has.right j less wrong;
}

-- where all were met, none is wrong
pub met_all : (ns : List ℕ) (n : ℕ) (met : List Bool) → length ns ≤ n → HasMet ns n met → (k : ℕ) → IsWrongAt ns k → ⊥
met_all ns n met long has k wrong =
    let within = slice_get_within ns k wrong.number wrong.there in
    has.right k (omega arith) wrong
