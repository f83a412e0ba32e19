-- Which lines are drawn.
use Rattle.std.proofs.Common.{◌≡◌, ◌∙◌, ℕ, zero, suc, ◌+◌, ◌-◌, ◌<◌, ◌≤◌, List, [], ◌∷◌, ◌++◌, length, length-append, map, take, drop, refl, sym, ap, subst, arith, inl, inr, Some, Bool, true, false}
use Rattle.std.specs.Prelude.{◌⊎◌, nat_le, slice_get, IfOk, Result, Ok, Err}
use Rattle.std.proofs.lemmas.Bool.{cases_lt, leb-true, le-leb}
use Rattle.std.proofs.lemmas.List.{length-take-le, length-drop, length-map, take-map, drop-map}
use Rattle.std.proofs.lemmas.Option.{slice_get_within}
use Rattle.gl_explain.specs.declared.told.Told.{Told}
use Rattle.gl_explain.specs.declared.told.Kept.{Kept}
use Rattle.gl_explain.specs.declared.told.First.{First}
use Rattle.gl_explain.specs.First.{IsFirstRace}
use Rattle.gl_explain.specs.Told.{told_of}
use Rattle.gl_explain.proofs.Behind.{get_taken, told}
use Rattle.gl_explain.proofs.Seeking.{at_cases}
use Rattle.gl_picture.specs.declared.picture.TheConstants.{LEAD, HALF}
use Rattle.gl_picture.specs.declared.picture.Row.{Row}
use Rattle.gl_picture.specs.Drawn.{IsRow, rows_of, span}

-- what stands in a list after n were left out stands n further in the list
pub get_dropped : {A : Type 0} (n : ℕ) (xs : List A) (i : ℕ) (x : A) → slice_get (drop n xs) i ≡ Some x → slice_get xs (n + i) ≡ Some x
get_dropped zero xs i x at = subst (λ k. slice_get xs k ≡ Some x) (let e : i ≡ zero + i = omega arith in e) at
get_dropped (suc n) [] i x at = absurd (cc)
get_dropped (suc n) (y ∷ xs) i x at =
    subst (λ k. slice_get (y ∷ xs) k ≡ Some x) (let e : suc (n + i) ≡ suc n + i = omega arith in e) (get_dropped n xs i x at)

-- what stands below n in a list stands there in its first n
pub at_taken : {A : Type 0} (n : ℕ) (xs : List A) (i : ℕ) (x : A) → i < n → slice_get xs i ≡ Some x → slice_get (take n xs) i ≡ Some x
at_taken zero xs i x near at = absurd (omega arith)
at_taken (suc n) [] i x near at = absurd (cc)
at_taken (suc n) (y ∷ xs) zero x near at = at
at_taken (suc n) (y ∷ xs) (suc i) x near at = at_taken n xs i x (omega arith) at

-- what stands at n or above in a list stands n earlier after n were left out
pub at_dropped : {A : Type 0} (n : ℕ) (xs : List A) (i : ℕ) (x : A) → n ≤ i → slice_get xs i ≡ Some x → slice_get (drop n xs)
    (i - n) ≡ Some x
at_dropped zero xs i x near at = subst (λ k. slice_get xs k ≡ Some x) (let e : i ≡ i - zero = omega arith in e) at
at_dropped (suc n) [] i x near at = absurd (cc)
at_dropped (suc n) (y ∷ xs) zero x near at = absurd (omega arith)
at_dropped (suc n) (y ∷ xs) (suc i) x near at =
    subst (λ k. slice_get (drop n xs) k ≡ Some x) (let e : i - n ≡ suc i - suc n = omega arith in e) (at_dropped n xs i x (omega arith) at)

-- what stands in the first of two lists stands there in both together
pub at_front : {A : Type 0} (xs ys : List A) (i : ℕ) (x : A) → slice_get xs i ≡ Some x → slice_get (xs ++ ys) i ≡ Some x
at_front [] ys i x at = absurd (cc)
at_front (z ∷ xs) ys zero x at = at
at_front (z ∷ xs) ys (suc i) x at = at_front xs ys i x at

-- what stands in the second of two lists stands further by the length of the first in both together
pub at_back : {A : Type 0} (xs ys : List A) (i : ℕ) (x : A) → slice_get ys i ≡ Some x → slice_get (xs ++ ys) (length xs + i) ≡ Some x
at_back [] ys i x at = subst (λ k. slice_get ys k ≡ Some x) (let e : i ≡ zero + i = omega arith in e) at
at_back (z ∷ xs) ys i x at =
    subst (λ k. slice_get (z ∷ (xs ++ ys)) k ≡ Some x) (let e : suc (length xs + i) ≡ suc (length xs) + i = omega arith in e)
    (at_back xs ys i x at)

-- what stands in two lists together stands in the first or somewhere in the second
pub at_either : {A : Type 0} (xs ys : List A) (i : ℕ) (x : A) → slice_get (xs ++ ys) i ≡ Some x
    → (slice_get xs i ≡ Some x) ⊎ ((h : ℕ) × (slice_get ys h ≡ Some x))
at_either [] ys i x at = inr (i, at)
at_either (z ∷ xs) ys zero x at = inl at
at_either (z ∷ xs) ys (suc i) x at = at_either xs ys i x at

-- all of them, or the first and the last
rows_by : {A : Type 0} (lines : List A) (b : Bool) → nat_le (length lines) (HALF + HALF) ≡ b
    → ((length lines ≤ HALF + HALF) × (rows_of lines ≡ lines))
    ⊎ ((HALF + HALF < length lines) × (rows_of lines ≡ take HALF lines ++ drop (length lines - HALF) lines))
rows_by lines true e = inl (leb-true (length lines) (HALF + HALF) e, rw e refl)
rows_by lines false e = inr (
  elim (cases_lt (HALF + HALF) (length lines)) [
    | inl over ↦ over
    | inr few ↦ absurd (let yes' = le-leb (length lines) (HALF + HALF) few in cc)
  ],
  rw e refl,
)

-- the rows of lines are all of them or, of too many, the first and the last
pub rows_cases : {A : Type 0} (lines : List A) → ((length lines ≤ HALF + HALF) × (rows_of lines ≡ lines))
    ⊎ ((HALF + HALF < length lines) × (rows_of lines ≡ take HALF lines ++ drop (length lines - HALF) lines))
rows_cases lines = rows_by lines (nat_le (length lines) (HALF + HALF)) refl

-- lines that are not too many are all rows
pub rows_all : {A : Type 0} (lines : List A) → length lines ≤ HALF + HALF → rows_of lines ≡ lines
rows_all lines few = elim (rows_cases lines) [ inl all ↦ all.1 | inr cut ↦ absurd (let over = cut.0 in omega arith) ]

-- the rows of too many lines are the first and the last of them
pub rows_cut : {A : Type 0} (lines : List A) → HALF + HALF < length lines → rows_of lines ≡ take HALF lines ++ drop
    (length lines - HALF) lines
rows_cut lines many = elim (rows_cases lines) [ inl all ↦ absurd (let few = all.0 in omega arith) | inr cut ↦ cut.1 ]

-- the span of a race in mapped lines is the mapped span
pub span_map : {A B : Type 0} (f : A → B) (place race : ℕ) (lines : List A) → map f (span place race lines) ≡ span place race (map f lines)
span_map f place race lines = sym (drop-map f (place - LEAD) (take (race + 1) lines)) ∙ ap (drop (place - LEAD)) (sym (take-map f
    (race + 1) lines))

-- what holds of each line holds of each that is drawn
module _ (P : Told → Type 0) where
  abbrev pub Each : List Told → Type 0
  Each lines = (i : ℕ) (k : Told) → slice_get lines i ≡ Some k → P k

  -- what holds of each line holds of each row that is drawn of them
  pub each_drawn : (lines : List Told) → Each lines → Each (rows_of lines)
  each_drawn lines all = elim (rows_cases lines) [
    | inl short ↦ subst Each (sym short.1) all
    | inr cut ↦ subst Each (sym cut.1) (λ i k at. elim (at_either (take HALF lines) (drop (length lines - HALF) lines) i k at) [
      | inl front ↦ all i k (get_taken HALF lines i k front)
      | inr back ↦ all ((length lines - HALF) + back.0) k (get_dropped (length lines - HALF) lines back.0 k back.1)
    ])
  ]

  -- and of each line of a span
  pub each_spanned : (place race : ℕ) (lines : List Told) → Each lines → Each (span place race lines)
  each_spanned place race lines all i k at =
      all ((place - LEAD) + i) k (get_taken (race + 1) lines ((place - LEAD) + i) k (get_dropped (place - LEAD) (take
      (race + 1) lines) i k at))

-- a line of the front half is drawn at its place, and the last one last
pub drawn_front : (lines : List Told) (i : ℕ) (k : Told) → i < HALF → slice_get lines i ≡ Some k → slice_get (rows_of lines) i ≡ Some k
drawn_front lines i k near at = elim (rows_cases lines) [
  | inl short ↦ subst (λ ls. slice_get ls i ≡ Some k) (sym short.1) at
  | inr cut ↦ subst (λ ls. slice_get ls i ≡ Some k) (sym cut.1)
      (at_front (take HALF lines) (drop (length lines - HALF) lines) i k (at_taken HALF lines i k near at))
]

-- a told line is the last of the rows
abbrev pub IsEnd : Told → List Told → Type 0
IsEnd k rows = (1 ≤ length rows) × (slice_get rows (length rows - 1) ≡ Some k)

-- the last of the lines is the last of the rows
pub drawn_last : (lines : List Told) (i : ℕ) (k : Told) → slice_get lines i ≡ Some k → i + 1 ≡ length lines → IsEnd k (rows_of lines)
drawn_last lines i k at last = elim (rows_cases lines) [
  | inl short ↦ subst (IsEnd k) (sym short.1)
      (omega arith, subst (λ n. slice_get lines n ≡ Some k) (let e : i ≡ length lines - 1 = omega arith in e) at)
  | inr cut ↦
      (let many = cut.0 in
      let n = length lines - HALF in
      let front = take HALF lines in
      let back = drop n lines in
      let fronts : length front ≡ HALF = length-take-le HALF lines (omega arith) in
      let backs : length back ≡ length lines - n = length-drop n lines in
      let both : length (front ++ back) ≡ length front + length back = length-append front back in
      let there = at_back front back (i - n) k (at_dropped n lines i k (omega arith) at) in
      let here : length front + (i - n) ≡ length (front ++ back) - 1 = omega arith in
      subst (IsEnd k) (sym cut.1) (omega arith, subst (λ m. slice_get (front ++ back) m ≡ Some k) here there))
]

module _ (told : List Told) (f : First) (first : IsFirstRace told f) where
  -- the line that the race is said to be with stands before the race
  pub place_before : f.explanation.place < f.race
  place_before =
      let near = slice_get_within (take f.race told) f.explanation.place f.explanation.other first.explained.there in
      let within = slice_get_within told f.race f.explanation.at first.there in
      let some = length-take-le f.race told (omega arith) in
      omega arith

  -- the race is one of the lines that were told
  pub race_within : f.race < length told
  race_within = slice_get_within told f.race f.explanation.at first.there

  abbrev pub lines : List Told
  lines = span f.explanation.place f.race told

  -- the line that it is with is drawn as far from the first row as it stands from the first line of the span
  pub other_drawn : slice_get (rows_of lines) (f.explanation.place - (f.explanation.place - LEAD)) ≡ Some f.explanation.other
  other_drawn =
      let place = f.explanation.place in
      let before = place_before in
      let at = get_taken f.race told place f.explanation.other first.explained.there in
      drawn_front lines (place - (place - LEAD)) f.explanation.other (omega arith)
      (at_dropped (place - LEAD) (take (f.race + 1) told) place f.explanation.other (omega arith)
      (at_taken (f.race + 1) told place f.explanation.other (omega arith) at))

  -- the race's own line is the last row
  pub race_drawn : IsEnd f.explanation.at (rows_of lines)
  race_drawn =
      let place = f.explanation.place in
      let before = place_before in
      let within = race_within in
      let taken : length (take (f.race + 1) told) ≡ f.race + 1 = length-take-le (f.race + 1) told (omega arith) in
      let long : length lines ≡ length (take (f.race + 1) told) - (place - LEAD) = length-drop (place - LEAD) (take (f.race + 1) told) in
      drawn_last lines (f.race - (place - LEAD)) f.explanation.at
      (at_dropped (place - LEAD) (take (f.race + 1) told) f.race f.explanation.at (omega arith)
      (at_taken (f.race + 1) told f.race f.explanation.at (omega arith) first.there)) (omega arith)

-- one row more
pub rows_more : (rows : List Told) (left : ℕ) (drawn : List Row) (r : Row) → IsRow rows left (length drawn) r
    → ((i : ℕ) (q : Row) → slice_get drawn i ≡ Some q → IsRow rows left i q) → (i : ℕ) (q : Row) → slice_get (drawn ++ r ∷ []) i ≡ Some q
    → IsRow rows left i q
rows_more rows left drawn r is each i q at = elim (at_cases drawn r q i at) [
  | inl old ↦ each i q old
  | inr new ↦ subst (λ n. IsRow rows left n q) (sym new.0) (subst (IsRow rows left (length drawn)) new.1 is)
]

-- what follows from a fact about what a right result gives is true of it
pub if_ok : {T E : Type 0} (P Q : T → Type 0) (r : Result T E) → ((x : T) → P x → Q x) → IfOk r P → IfOk r Q
if_ok P Q (Ok x) g p = g x p
if_ok P Q (Err e) g p = tt

-- the rows of mapped lines are the mapped rows, where they are cut
pub rows_map : {A B : Type 0} (f : A → B) (lines : List A) → HALF + HALF < length lines
    → map f (take HALF lines) ++ map f (drop (length lines - HALF) lines) ≡ rows_of (map f lines)
rows_map f lines many =
    let long = length-map lines f in
    let back = map f (drop (length lines - HALF) lines) in
    ap (λ a. a ++ back) (sym (take-map f HALF lines)) ∙ ap (λ b. take HALF (map f lines) ++ b) (sym (drop-map f
    (length lines - HALF) lines))
    ∙ ap (λ n. take HALF (map f lines) ++ drop (n - HALF) (map f lines)) (sym long) ∙ sym (rows_cut (map f lines) (omega arith))

-- the rows of the span of a race, made from the kept lines, are those of the told ones
pub rows_are : (kept : List Kept) (f : First) (lines : List Kept) (rows : List Told) → lines ≡ span f.explanation.place f.race kept
    → rows ≡ rows_of (told_of lines) → rows ≡ rows_of (span f.explanation.place f.race (told_of kept))
rows_are kept f ls rows spanned drawn =
    drawn ∙ ap (λ (ls : List Told). rows_of ls) (ap told_of spanned ∙ span_map told f.explanation.place f.race kept)
