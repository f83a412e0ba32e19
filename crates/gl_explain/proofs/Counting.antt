-- Counting and finding the last, one number after another.
use Rattle.std.proofs.Common.{◌≡◌, ◌∙◌, ap, ℕ, ◌+◌, ◌<◌, List, length, get_or, Bool, false, refl, sym, subst, arith, inl, inr, Some, None}
use Rattle.std.specs.Prelude.{◌↔◌, Option, slice_get, IsTrue, IsSome}
use Rattle.std.proofs.lemmas.Bool.{cases_lt}
use Rattle.std.proofs.lemmas.Option.{slice_get-get_or, slice_get_within}
use Rattle.gl_core.specs.Cells.{at}
use Rattle.gl_explain.specs.declared.told.Told.{Told}
use Rattle.gl_explain.specs.declared.told.Kept.{Kept}
use Rattle.gl_explain.specs.Explained.{IsLastTold}
use Rattle.gl_explain.specs.Races.{Conflicts, IsUnknown, IsLastOf, Counts, none_yet, one_more, not_one}

-- of the numbers below n the last that is such
abbrev pub IsLastBelow : (ℕ → Type 0) → ℕ → Option ℕ → Type 0
IsLastBelow P n None = (i : ℕ) → i < n → P i → ⊥
IsLastBelow P n (Some j) = (j < n) × P j × ((i : ℕ) → j < i → i < n → P i → ⊥)

-- if it is true of n, then n is the last below n + 1
pub last_new : (P : ℕ → Type 0) (n : ℕ) → P n → IsLastBelow P (n + 1) (Some n)
last_new P n p = (omega arith, p, λ i less near q. omega arith)

-- if it is not true of n, the last below n is the last below n + 1
pub last_on : (P : ℕ → Type 0) (n : ℕ) (o : Option ℕ) → (P n → ⊥) → IsLastBelow P n o → IsLastBelow P (n + 1) o
last_on P n None never last = λ i near p. elim (cases_lt i n) [
  | inl below ↦ last i below p
  | inr over ↦ (let same : i ≡ n = omega arith in never (subst P same p))
]
last_on P n (Some j) never last = (
  let a = last.0
      in omega arith,
  last.1,
  λ i less near p. elim (cases_lt i n) [
    | inl below ↦ last.2 i less below p
    | inr over ↦ (let same : i ≡ n = omega arith in never (subst P same p))
  ],
)

-- if nothing from n on has the property, the last below n is the last of all
pub last_all : (P : ℕ → Type 0) (n : ℕ) (o : Option ℕ) → ((i : ℕ) → P i → i < n) → IsLastBelow P n o → IsLastOf P o
last_all P n None near last = λ i p. last i (near i p) p
last_all P n (Some j) near last = (last.1, λ i less p. last.2 i less (near i p) p)

-- the last number with a property is the last with an equal one
pub last_same : (P Q : ℕ → Type 0) (o : Option ℕ) → ((i : ℕ) → P i ↔ Q i) → IsLastOf P o → IsLastOf Q o
last_same P Q None same last = λ i q. last i ((same i).1 q)
last_same P Q (Some j) same last = ((same j).0 last.0, λ i less q. last.1 i less ((same i).1 q))

-- as many numbers below n have one property as have an equal one
pub counts_same : (P Q : ℕ → Type 0) → ((i : ℕ) → P i ↔ Q i) → (n c : ℕ) → Counts P n c → Counts Q n c
counts_same P Q same n c none_yet = none_yet
counts_same P Q same n c (one_more m d counts p) = one_more m d (counts_same P Q same m d counts) ((same m).0 p)
counts_same P Q same n c (not_one m d counts never) = not_one m d (counts_same P Q same m d counts) (λ q. never ((same m).1 q))

-- where one is such, the count is not 0
pub counts_some : (P : ℕ → Type 0) (n c : ℕ) → Counts P n c → (j : ℕ) → j < n → P j → 0 < c
counts_some P n c none_yet j near p = absurd (omega arith)
counts_some P n c (one_more m d counts q) j near p = omega arith
counts_some P n c (not_one m d counts never) j near p =
    elim (cases_lt j m) [
      | inl below ↦ counts_some P m d counts j below p
      | inr over ↦ absurd (let same : j ≡ m = omega arith in never (subst P same p))
    ]

-- what a list has at a place within it stands there
pub known_at : {A : Type 0} (kept : List A) (i : ℕ) (k : A) → i < length kept → k ≡ get_or kept i k → slice_get kept i ≡ Some k
known_at kept i k near is = slice_get-get_or kept i k near ∙ ap Some (sym is)

module _ (kept : List Kept) (next : Told) (x : ℕ) (known : List ℕ) (i : ℕ) where
  -- where what tells whether the line at i is a culprit says no, it is none by what is kept
  pub unknown_no : (k : Kept) → slice_get kept i ≡ Some k → (b : Bool)
      → IsTrue b ↔ (Conflicts k.told next x × (at known k.told.thread < k.mark)) → b ≡ false → IsUnknown kept next x known i → ⊥
  unknown_no k there b test no' (q, here, is) =
      let same : q ≡ k = cc in
      let yes = test.1 (subst (λ (z : Kept). Conflicts z.told next x × (at known z.told.thread < z.mark)) same is) in
      cc

  -- a culprit by what is kept is one of the lines that are kept
  pub unknown_near : IsUnknown kept next x known i → i < length kept
  unknown_near (q, here, is) = slice_get_within kept i q here

-- where one is such, there is a last one, and it is among those that were counted
pub last_there : (P : ℕ → Type 0) (o : Option ℕ) → (i : ℕ) × P i → IsLastOf P o → IsSome o
last_there P None some last = absurd (last some.0 some.1)
last_there P (Some j) some last = refl

-- where something has a property, the count of those that have it is not zero
pub count_there : (P : ℕ → Type 0) (n c : ℕ) (o : Option ℕ) → ((i : ℕ) → P i → i < n) → (i : ℕ) × P i → Counts P n c → 0 < c
count_there P n c o near some counts = counts_some P n c counts some.0 (near some.0 some.1) some.1

-- the last told line of one property is that of an equal one
pub last_told_same : (P Q : ℕ → Type 0) (before : List Told) (o : Option Told) → ((i : ℕ) → P i ↔ Q i) → IsLastTold P before o
    → IsLastTold Q before o
last_told_same P Q before None same last = last_same P Q None same last
last_told_same P Q before (Some k) same last = (last.0, last.1, last_same P Q (Some last.0) same last.2)
