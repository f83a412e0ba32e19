-- Search among sorted writes: the last one below a number, and whether one with a value is there.
use Rattle.std.proofs.Common.{◌≡◌, ◌≢◌, ℕ, zero, suc, ◌-◌, ◌<◌, ◌≤◌, List, [], ◌∷◌, length, get_or, refl, ap, subst, sym, ◌∙◌, inl, inr, arith, true, false, nat_eq, w64, of_z, FitsSigned, ◌<ℤ◌}
use Rattle.std.specs.Prelude.{◌⊎◌, ◌==◌, ℤ, pos, Bool, Contains, MatchBool, Result, Ok, Err, if◌then◌else◌, is_ok, nat_lt, IsSorted}
use Rattle.std.specs.List.Sorted.{IsBinarySearchResult, IsPartitionPoint, IsPartitionedBy, IsSearchInRange}
use Rattle.std.specs.Cmp.{IsStrictWeakOrder, IsTotalOrder}
use Rattle.std.specs.Ordering.{MatchOrdering, int_cmp, is_lt, nat_cmp, ordering_then}
use Rattle.std.specs.declared.cmp.Ordering.{Ordering}
use Rattle.std.specs.declared.cmp.Ordering.TheVariants.{Less, Equal, Greater}
use Rattle.std.proofs.lemmas.Bool.{cases_lt, eqb-true}
use Rattle.std.proofs.lemmas.Bool.Decides.{nat_tests}
use Rattle.std.proofs.lemmas.Cmp.{int_cmp_total, int_ranked, nat_cmp_total, on_total, ranked, then_total, tied_itself}
use Rattle.std.proofs.lemmas.Int.{ints}
use Rattle.std.proofs.lemmas.List.Sorted.{ranks_by, searchable_from_sorted, sorted_far}
use Rattle.gl_model.specs.Flat.{IsWordBelow}
use Rattle.gl_model.specs.Records.{Lists}
use Rattle.gl_flat.specs.declared.writes.Written.{Written}
use Rattle.gl_flat.specs.Below.{AreWrites}
use Rattle.gl_flat.specs.Sorted.{written_cmp}

-- the order is total
total : IsTotalOrder written_cmp
total = then_total (on_total (λ (w : Written). w.var) nat_cmp_total)
    (then_total (on_total (λ (w : Written). w.nth) nat_cmp_total) (on_total (λ (w : Written). w.value) int_cmp_total))

-- the order of writes is one that can be searched by
weak : IsStrictWeakOrder (λ v w. is_lt (written_cmp v w))
weak = ranks_by total (λ (w : Written). w)

-- by two orders after one another not less is greater by the first, or equal by it and not less by the second
not_below : (r s : Ordering) → is_lt (ordering_then r s) ≡ false → (r ≡ Greater) ⊎ ((r ≡ Equal) × (is_lt s ≡ false))
not_below Less s e = absurd (cc)
not_below Equal s e = inr (refl, e)
not_below Greater s e = inl refl

-- equal by two orders after one another is equal by both
both_equal : (r s : Ordering) → ordering_then r s ≡ Equal → (r ≡ Equal) × (s ≡ Equal)
both_equal Less s e = absurd (cc)
both_equal Equal s e = (refl, e)
both_equal Greater s e = absurd (cc)

-- what compares as greater is greater
greater : (x y : ℕ) → nat_cmp x y ≡ Greater → y < x
greater x y e = subst (λ r. MatchOrdering r (x < y) (x ≡ y) (y < x)) e (ranked x y (nat_cmp x y) refl)

-- what compares as equal is equal
equal : (x y : ℕ) → nat_cmp x y ≡ Equal → x ≡ y
equal x y e = subst (λ r. MatchOrdering r (x < y) (x ≡ y) (y < x)) e (ranked x y (nat_cmp x y) refl)

-- what is not below stands behind, by variable and then by number
behind : (v w : Written) → is_lt (written_cmp w v) ≡ false → (v.var < w.var) ⊎ ((v.var ≡ w.var) × (v.nth ≤ w.nth))
behind v w e = elim (not_below (nat_cmp w.var v.var) (ordering_then (nat_cmp w.nth v.nth) (int_cmp w.value v.value)) e) [
  | inl g ↦ inl (greater w.var v.var g)
  | inr q ↦ elim (not_below (nat_cmp w.nth v.nth) (int_cmp w.value v.value) q.1) [
    | inl g ↦ inr (sym (equal w.var v.var q.0), (let z = greater w.nth v.nth g in omega arith))
    | inr r ↦ inr (sym (equal w.var v.var q.0), (let z = equal w.nth v.nth r.0 in omega arith))
  ]
]

-- writes that compare as equal are equal
same_written : (v w : Written) → written_cmp v w ≡ Equal → v ≡ w
same_written v w e =
    let a = both_equal (nat_cmp v.var w.var) (ordering_then (nat_cmp v.nth w.nth) (int_cmp v.value w.value)) e in
    let b = both_equal (nat_cmp v.nth w.nth) (int_cmp v.value w.value) a.1 in
    let value : v.value ≡ w.value = subst (λ r. MatchOrdering r (v.value <ℤ w.value) (v.value ≡ w.value) (w.value <ℤ v.value)) b.1
    (int_ranked v.value w.value (int_cmp v.value w.value) refl) in
    λ k. record { var = equal v.var w.var a.0 k; nth = equal v.nth w.nth b.0 k; value = value k }

-- the test of a search: a write of a variable below x, or of x with a number below n
abbrev pub is_before : ℕ → ℕ → Written → Bool
is_before x n w = if nat_lt w.var x then true else if w.var == x then nat_lt w.nth n else false

-- a write that passes the test is of a lesser variable, or of that one with a lesser number
before_is : (x n : ℕ) (w : Written) → is_before x n w ≡ true → (w.var < x) ⊎ ((w.var ≡ x) × (w.nth < n))
before_is x n w e = go (nat_lt w.var x) refl (w.var == x) refl e
  where
    go : (b : Bool) → nat_lt w.var x ≡ b → (c : Bool) → (w.var == x) ≡ c →
        (if b then true else if c then nat_lt w.nth n else false) ≡ true → (w.var < x) ⊎ ((w.var ≡ x) × (w.nth < n))
    go true is c is' e = inl (grind (arith, nat_tests))
    go false is true is' e = inr (eqb-true w.var x is', grind (arith, nat_tests))
    go false is false is' e = absurd (cc)

-- a write of a lesser variable, or of that one with a lesser number, passes the test
is_so : (x n : ℕ) (w : Written) → (w.var < x) ⊎ ((w.var ≡ x) × (w.nth < n)) → is_before x n w ≡ true
is_so x n w (inl lt) = let is : nat_lt w.var x ≡ true = grind (arith, nat_tests) in rw is refl
is_so x n w (inr q) =
    let no : nat_lt w.var x ≡ false = (let e = q.0 in grind (arith, nat_tests)) in
    let same : (w.var == x) ≡ true = (let e = q.0 in grind (arith, nat_tests)) in
    let lt : nat_lt w.nth n ≡ true = (let l = q.1 in grind (arith, nat_tests)) in
    rw (no, same) lt

-- the default of an index does not matter where there is an element
pub same_default : (ws : List Written) (k : ℕ) (d e : Written) → k < length ws → get_or ws k d ≡ get_or ws k e
same_default [] k d e near = absurd (omega arith)
same_default (w ∷ ws) zero d e near = refl
same_default (w ∷ ws) (suc k) d e near = same_default ws k d e (omega arith)

module _ (ws : List Written) (sorted : IsSorted written_cmp ws) where
  -- of two writes of the sorted list the earlier one is of a lesser variable, or of the same one with no greater number
  far : (i j : ℕ) (d : Written) → i ≤ j → j < length ws → ((get_or ws i d).var < (get_or ws j d).var) ⊎
      (((get_or ws i d).var ≡ (get_or ws j d).var) × ((get_or ws i d).nth ≤ (get_or ws j d).nth))
  far i j d le near = behind (get_or ws i d) (get_or ws j d) (sorted_far (λ v w. is_lt (written_cmp v w)) weak ws sorted i j d le near)

  -- the test parts the sorted list: each write before one that passes it passes it too
  pub parted : (x n : ℕ) → IsPartitionedBy (is_before x n) ws
  parted x n i j d le near e = is_so x n (get_or ws i d) (by (far i j d le near) (before_is x n (get_or ws j d) e))
    where
      by : ((get_or ws i d).var < (get_or ws j d).var) ⊎ (((get_or ws i d).var ≡ (get_or ws j d).var) ×
          ((get_or ws i d).nth ≤ (get_or ws j d).nth)) →
          ((get_or ws j d).var < x) ⊎ (((get_or ws j d).var ≡ x) × ((get_or ws j d).nth < n)) → ((get_or ws i d).var < x) ⊎
          (((get_or ws i d).var ≡ x) × ((get_or ws i d).nth < n))
      by (inl lt) (inl m) = inl (omega arith)
      by (inl lt) (inr m) = inl (let z = m.0 in omega arith)
      by (inr q) (inl m) = inl (let z = q.0 in omega arith)
      by (inr q) (inr m) = inr (q.0 ∙ m.0, let z = q.1 in let y = m.1 in omega arith)

  -- what is below the number stands before the point
  before_point : (x n k u end : ℕ) (v : ℤ) → IsPartitionPoint (λ w. is_before x n w ≡ true) (λ w. is_before x n w ≡ false) ws end → u < n →
      (near : k < length ws) → get_or ws k (record { var = x; nth = u; value = v }) ≡ record { var = x; nth = u; value = v } → k < end
  before_point x n k u end v point lt near is = elim (cases_lt k end) [
    | inl less ↦ less
    | inr ge ↦
        absurd (let no : is_before x n (record { var = x; nth = u; value = v }) ≡ false =
        subst (λ w. is_before x n w ≡ false) is (point.1 k (record { var = x; nth = u; value = v }) ge near) in
        let yes' : is_before x n (record { var = x; nth = u; value = v }) ≡ true =
        is_so x n (record { var = x; nth = u; value = v }) (inr (refl, lt)) in
        cc)
  ]

  -- the answer of the search tells whether the write is in the list
  pub searched : (t : Written) (r : Result ℕ ℕ) → IsSearchInRange r (length ws) → IsBinarySearchResult (λ y. written_cmp y t) ws r →
      MatchBool (is_ok r) (Contains ws t) (Contains ws t → ⊥)
  searched t (Ok i) near at = (i, near, same_written (get_or ws i t) t (at t))
  searched t (Err i) near at = λ c. none c
    where
      point : IsPartitionPoint (λ y. written_cmp y t ≡ Less) (λ y. written_cmp y t ≡ Greater) ws i
      point = at (searchable_from_sorted total (λ (w : Written). w) ws t sorted)

      none : Contains ws t → ⊥
      none (k, n, is) = elim (cases_lt k i) [
        | inl lt ↦ (let a : written_cmp t t ≡ Less = subst (λ y. written_cmp y t ≡ Less) is (point.0 k t (omega arith) lt) in let b =
            tied_itself total t in cc)
        | inr ge ↦ (let a : written_cmp t t ≡ Greater = subst (λ y. written_cmp y t ≡ Greater) is (point.1 k t ge n) in let b =
            tied_itself total t in cc)
      ]

  module _ (R : Lists) (are : AreWrites R ws) (x n end : ℕ) (v : ℤ)
      (point : IsPartitionPoint (λ w. is_before x n w ≡ true) (λ w. is_before x n w ≡ false) ws end) where
    abbrev write : ℕ → ℤ → Written
    write k u = record { var = x; nth = k; value = u }

    -- where no write in the list is of x with a number below n: v is the word of x below n if the answer is that v is 0, and else it is not
    no_word : ((j : ℕ) (u : ℤ) → j < n → Contains ws (write j u) → ⊥) → (b : Bool) → MatchBool b (v ≡ pos 0) (v ≢ pos 0) →
        MatchBool b (IsWordBelow R x n v) (IsWordBelow R x n v → ⊥)
    no_word none true zero' = inr (zero', λ j u lt w. none j u lt ((are (write j u)).1 w))
    no_word none false ne = λ w. elim w [ inl q ↦ none q.0 v q.1 ((are (write q.0 v)).1 q.2) | inr q ↦ ne q.0 ]

    -- where nothing stands before the point, an answer whether v is 0 is one whether v is the word of x below n
    pub first_point : end ≡ 0 → (b : Bool) → MatchBool b (v ≡ pos 0) (v ≢ pos 0) →
        MatchBool b (IsWordBelow R x n v) (IsWordBelow R x n v → ⊥)
    first_point at b test = no_word (λ j u lt c. let z = before_point x n c.0 j end u point lt c.1 c.2 in omega arith) b test

    module _ (d : Written) (some : 0 < end) (within : end ≤ length ws) where
      abbrev last : Written
      last = get_or ws (end - 1) d

      last_is : (e : Written) → get_or ws (end - 1) e ≡ last
      last_is e = same_default ws (end - 1) e d (omega arith)

      below : (last.var < x) ⊎ ((last.var ≡ x) × (last.nth < n))
      below = before_is x n last (point.0 (end - 1) d (omega arith) (omega arith))

      -- the last before the point is the last of all that are below the number
      up_to_last : (j : ℕ) (u : ℤ) → j < n → Contains ws (write j u) → (x < last.var) ⊎ ((x ≡ last.var) × (j ≤ last.nth))
      up_to_last j u lt c =
          let k = before_point x n c.0 j end u point lt c.1 c.2 in
          let f = far c.0 (end - 1) (write j u) (omega arith) (omega arith) in
          subst (λ w. (x < w.var) ⊎ ((x ≡ w.var) × (j ≤ w.nth))) (last_is (write j u))
          (subst (λ w. (w.var < (get_or ws (end - 1) (write j u)).var) ⊎
          ((w.var ≡ (get_or ws (end - 1) (write j u)).var) × (w.nth ≤ (get_or ws (end - 1) (write j u)).nth))) c.2 f)

      pub other_point : last.var ≢ x → (b : Bool) → MatchBool b (v ≡ pos 0) (v ≢ pos 0) →
          MatchBool b (IsWordBelow R x n v) (IsWordBelow R x n v → ⊥)
      other_point other b test = no_word (λ j u lt c. against (up_to_last j u lt c) below) b test
        where
          against : {j : ℕ} → (x < last.var) ⊎ ((x ≡ last.var) × (j ≤ last.nth)) → (last.var < x) ⊎ ((last.var ≡ x) × (last.nth < n)) → ⊥
          against (inl a) (inl m) = omega arith
          against (inr a) (inl m) = let z = a.0 in omega arith
          against f (inr m) = other m.0

      pub same_point : last.var ≡ x → (b : Bool) → MatchBool b (Contains ws (write last.nth v)) (Contains ws (write last.nth v) → ⊥) →
          MatchBool b (IsWordBelow R x n v) (IsWordBelow R x n v → ⊥)
      same_point same b test = by b test
        where
          near : last.nth < n
          near = elim below [ inl m ↦ (let z = same in omega arith) | inr m ↦ m.1 ]

          most : (j : ℕ) (u : ℤ) → j < n → Contains ws (write j u) → j ≤ last.nth
          most j u lt c = elim (up_to_last j u lt c) [ inl a ↦ (let z = same in omega arith) | inr a ↦ a.1 ]

          there : Contains ws (write last.nth last.value)
          there = (
            end - 1,
            omega arith,
            last_is (write last.nth last.value) ∙
                (λ k. record { var = same k; nth = last.nth; value = last.value }),
          )

          by : (b : Bool) → MatchBool b (Contains ws (write last.nth v)) (Contains ws (write last.nth v) → ⊥) →
              MatchBool b (IsWordBelow R x n v) (IsWordBelow R x n v → ⊥)
          by true c = inl (last.nth, near, (are (write last.nth v)).0 c, λ j u lt w. most j u lt ((are (write j u)).1 w))
          by false none = λ w. elim w [
            | inl q ↦
                (let a = most q.0 v q.1 ((are (write q.0 v)).1 q.2) in
                let b' = q.3 last.nth last.value near ((are (write last.nth last.value)).0 there) in
                let level : q.0 ≡ last.nth = omega arith in
                none (subst (λ k. Contains ws (write k v)) level ((are (write q.0 v)).1 q.2)))
            | inr q ↦ q.1 last.nth last.value near ((are (write last.nth last.value)).0 there)
          ]

-- the test of a value against 0 tells whether it is 0
pub zero_test : (v : ℤ) → FitsSigned w64 v → MatchBool (nat_eq (of_z w64 v) 0) (v ≡ pos 0) (v ≢ pos 0)
zero_test v fits = go (nat_eq (of_z w64 v) 0) refl
  where
    go : (b : Bool) → nat_eq (of_z w64 v) 0 ≡ b → MatchBool b (v ≡ pos 0) (v ≢ pos 0)
    go true is = let z : of_z w64 v ≡ 0 = eqb-true (of_z w64 v) 0 is in omega (arith, ints)
    go false is = λ same. let z : nat_eq (of_z w64 v) 0 ≡ true = ap (λ u. nat_eq (of_z w64 u) 0) same in cc
