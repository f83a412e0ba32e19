-- The least monitors that are entered, after a monitor is entered or left.
use Rattle.std.proofs.Common.{◌≡◌, ℕ, zero, suc, ◌+◌, ◌<◌, ◌≤◌, List, [], ◌∷◌, length, take, get_or, sym, ap, subst, arith, inl, inr, refl}
use Rattle.std.specs.Prelude.{◌⊎◌, slice_index, Contains}
use Rattle.std.specs.List.Sorted.{IsStrictlyIncreasing}
use Rattle.std.proofs.lemmas.Bool.{cases_lt}
use Rattle.std.proofs.lemmas.List.{take_all, get_or_past, get_or_default}
use Rattle.std.proofs.lemmas.List.Elements.{Contains-get_or}
use native.Mathlib.Numerals.{unary_clauses}
use Rattle.gl_model.specs.declared.limits.TheConstants.{HELD, MONITORS}
use Rattle.gl_model.specs.Rising.{with_one}
use Rattle.gl_model.proofs.RisingLists.{with_one-below, with_one-above, with_one-same}
use Rattle.gl_rule.specs.Levels.{AreLeastEntered}
use Rattle.gl_table.specs.LevelsInside.{AreCandidates, HasEntered, HasLeft}
use Rattle.gl_table.proofs.LeastEntered.{AreLeastBelow, least_none, least_skipped, least_taken, least_all}

-- what is in a list with one more is that one or in the list
has_more : (x : ℕ) (xs : List ℕ) (o : ℕ) → Contains (with_one x xs) o → (o ≡ x) ⊎ Contains xs o
has_more x [] o (zero, lt, at) = inl (let e = at in omega arith)
has_more x [] o (suc k, lt, at) = absurd (omega arith)
has_more x (y ∷ ys) o c = elim (cases_lt x y) [
  | inl above ↦ first (subst (λ l. Contains l o) (with_one-above x y ys above) c)
  | inr ge ↦ elim (cases_lt y x) [
    | inl below ↦ later (λ d. has_more x ys o d) (subst (λ l. Contains l o) (with_one-below x y ys below) c)
    | inr le ↦ inr (subst (λ l. Contains l o) (with_one-same x y ys (omega arith)) c)
  ]
]
  where
    first : Contains (x ∷ (y ∷ ys)) o → (o ≡ x) ⊎ Contains (y ∷ ys) o
    first (zero, lt, at) = inl (let e = at in omega arith)
    first (suc k, lt, at) = inr (k, omega arith, at)

    later : (Contains (with_one x ys) o → (o ≡ x) ⊎ Contains ys o) → Contains (y ∷ with_one x ys) o → (o ≡ x) ⊎ Contains (y ∷ ys) o
    later rest (zero, lt, at) = inr (zero, omega arith, at)
    later rest (suc k, lt, at) = elim (rest (k, omega arith, at)) [
      | inl same ↦ inl same
      | inr old ↦ inr (suc old.0, omega (arith, old.1), old.2)
    ]

-- a number that is put among others is in them
has_it : (x : ℕ) (xs : List ℕ) → Contains (with_one x xs) x
has_it x [] = (zero, omega arith, refl)
has_it x (y ∷ ys) = elim (cases_lt x y) [
  | inl above ↦ subst (λ l. Contains l x) (sym (with_one-above x y ys above)) (zero, omega arith, refl)
  | inr ge ↦ elim (cases_lt y x) [
    | inl below ↦ subst (λ l. Contains l x) (sym (with_one-below x y ys below)) (let c = has_it x ys in (suc c.0, omega (arith, c.1), c.2))
    | inr le ↦ subst (λ l. Contains l x) (sym (with_one-same x y ys (omega arith))) (zero, omega arith, (omega arith))
  ]
]

-- what was in a list is in it with one put among
has_old : (x : ℕ) (xs : List ℕ) (o : ℕ) → Contains xs o → Contains (with_one x xs) o
has_old x [] o (k, lt, at) = absurd (omega arith)
has_old x (y ∷ ys) o c = elim (cases_lt x y) [
  | inl above ↦ subst (λ l. Contains l o) (sym (with_one-above x y ys above)) (suc c.0, omega (arith, c.1), c.2)
  | inr ge ↦ elim (cases_lt y x) [
    | inl below ↦ subst (λ l. Contains l o) (sym (with_one-below x y ys below)) (later (λ d. has_old x ys o d) c)
    | inr le ↦ subst (λ l. Contains l o) (sym (with_one-same x y ys (omega arith))) c
  ]
]
  where
    later : (Contains ys o → Contains (with_one x ys) o) → Contains (y ∷ ys) o → Contains (y ∷ with_one x ys) o
    later rest (zero, lt, at) = (zero, omega arith, at)
    later rest (suc k, lt, at) = let c = rest (k, omega arith, at) in (suc c.0, omega (arith, c.1), c.2)

-- putting one among a list makes it longer by at most one
one_longer : (x : ℕ) (xs : List ℕ) → length (with_one x xs) ≤ length xs + 1
one_longer x [] = omega arith
one_longer x (y ∷ ys) = elim (cases_lt x y) [
  | inl above ↦ (let n = ap length (with_one-above x y ys above) in omega arith)
  | inr ge ↦ elim (cases_lt y x) [
    | inl below ↦ (let n = ap length (with_one-below x y ys below) in let m = one_longer x ys in omega arith)
    | inr le ↦ (let n = ap length (with_one-same x y ys (omega arith)) in omega arith)
  ]
]

-- a rising list, with a smaller number before it, rises
rising_cons : (y : ℕ) (zs : List ℕ) → ((j : ℕ) → j < length zs → y < slice_index zs j) → IsStrictlyIncreasing zs
    → IsStrictlyIncreasing (y ∷ zs)
rising_cons y zs above rises zero near = above zero (omega arith)
rising_cons y zs above rises (suc k) near = simp unary_clauses (simp unary_clauses at (rises k (omega arith)))

-- the rest of a rising list rises
rising_tail : (y : ℕ) (ys : List ℕ) → IsStrictlyIncreasing (y ∷ ys) → IsStrictlyIncreasing ys
rising_tail y ys rises k near = simp unary_clauses (simp unary_clauses at (rises (suc k) (omega arith)))

-- the first of a rising list is below each of the rest
rising_head : (y : ℕ) (ys : List ℕ) → IsStrictlyIncreasing (y ∷ ys) → (j : ℕ) → j < length ys → y < slice_index ys j
rising_head y ys rises zero near = rises zero (omega arith)
rising_head y ys rises (suc j) near =
    let before = rising_head y ys rises j (omega arith) in
    let next : slice_index ys j < slice_index ys (suc j) = simp unary_clauses at (rises (suc j) (omega arith)) in
    omega arith

-- a rising list with one put among it rises
rising_more : (x : ℕ) (xs : List ℕ) → IsStrictlyIncreasing xs → IsStrictlyIncreasing (with_one x xs)
rising_more x [] rises = λ k near. absurd (omega arith)
rising_more x (y ∷ ys) rises = elim (cases_lt x y) [
  | inl lt ↦ subst IsStrictlyIncreasing (sym (with_one-above x y ys lt)) (rising_cons x (y ∷ ys) (over lt) rises)
  | inr ge ↦ elim (cases_lt y x) [
    | inl below ↦ subst IsStrictlyIncreasing (sym (with_one-below x y ys below))
        (rising_cons y (with_one x ys) (under below) (rising_more x ys (rising_tail y ys rises)))
    | inr le ↦ subst IsStrictlyIncreasing (sym (with_one-same x y ys (omega arith))) rises
  ]
]
  where
    over : x < y → (j : ℕ) → j < length (y ∷ ys) → x < slice_index (y ∷ ys) j
    over lt zero near = lt
    over lt (suc j) near = let above = rising_head y ys rises j (omega arith) in omega arith

    under : y < x → (j : ℕ) → j < length (with_one x ys) → y < slice_index (with_one x ys) j
    under below j near = elim (has_more x ys (slice_index (with_one x ys) j) (Contains-get_or (with_one x ys) j 0 near)) [
      | inl same ↦ omega arith
      | inr old ↦ (let above = rising_head y ys rises old.0 old.1 in let at = old.2
          in let there = get_or_default ys old.0 (slice_index (with_one x ys) j) 0 old.1 in omega arith)
    ]

-- one more is entered
pub least_entered : (held levels : List ℕ) (monitor : ℕ) → HasEntered held levels monitor → length held < HELD
    → AreLeastEntered levels (take HELD (with_one monitor held))
least_entered held levels monitor h few =
    subst (AreLeastEntered levels) (sym (take_all HELD (with_one monitor held) (let n = one_longer monitor held in omega arith))) all
  where
    all : AreLeastEntered levels (with_one monitor held)
    all = record {
      rising = rising_more monitor held h.least.rising;
      entered = λ o c. elim (has_more monitor held o c) [
        | inl same ↦ subst (λ z. 0 < slice_index levels z) (sym same) h.entered
        | inr old ↦ h.kept o (h.least.entered o old)
      ];
      at_most_four = (let n = one_longer monitor held in omega arith);
      least = λ o some. elim (h.alone o some) [
        | inl same ↦ inl (subst (Contains (with_one monitor held)) (sym same) (has_it monitor held))
        | inr old ↦ elim (h.least.least o old) [
          | inl c ↦ inl (has_old monitor held o c)
          | inr w ↦ absurd (let n = w.0 in omega arith)
        ]
      ];
    }

-- the least monitors before one was left are all that were entered, where they are fewer than are kept
pub candidates : (held levels : List ℕ) → HasLeft held levels → length held < HELD → AreCandidates levels held
candidates held levels h few = record {
  rising = h.least.rising;
  near = λ o c. near o (h.least.entered o c);
  all = λ o some. elim (h.least.least o (h.none o some)) [
    | inl c ↦ c
    | inr w ↦ absurd (let n = w.0 in omega arith)
  ];
}
  where
    near : (o : ℕ) → 0 < slice_index h.before o → o < MONITORS
    near o some = elim (cases_lt o MONITORS) [
      | inl lt ↦ lt
      | inr ge ↦ absurd (let z : slice_index h.before o ≡ 0 = get_or_past h.before o 0 (let n = h.long in omega arith) in omega arith)
    ]

-- there is none from one place to another
least_wider : (levels : List ℕ) (a b : ℕ) (held : List ℕ) → a ≤ b → ((o : ℕ) → 0 < slice_index levels o → o < b → o < a)
    → AreLeastBelow levels a held → AreLeastBelow levels b held
least_wider levels a b held le none l = record {
  rising = l.rising;
  entered = λ o c. let e = l.entered o c in let n = e.0 in ((omega arith), e.1);
  at_most_four = l.at_most_four;
  least = λ o near some. l.least o (none o some near) some;
}

-- in a rising list an earlier place has no greater number
rising_places : (xs : List ℕ) → IsStrictlyIncreasing xs → (i k : ℕ) → i ≤ k → k < length xs → slice_index xs i ≤ slice_index xs k
rising_places xs rises i zero le near = let z : i ≡ zero = omega arith in let e = ap (slice_index xs) z in omega arith
rising_places xs rises i (suc k) le near = elim (cases_lt i (suc k)) [
  | inl lt ↦ (let before = rising_places xs rises i k (omega arith) (omega arith)
      in let next : slice_index xs k < slice_index xs (suc k) = simp unary_clauses at (rises k (omega arith)) in omega arith)
  | inr ge ↦ (let z : i ≡ suc k = omega arith in let e = ap (slice_index xs) z in omega arith)
]

-- where the search among these begins, and where it goes on
pub candidates_begin : (levels monitors : List ℕ) → AreCandidates levels monitors → AreLeastBelow levels (get_or monitors 0 MONITORS) []
candidates_begin levels monitors h = least_wider levels 0 (get_or monitors 0 MONITORS) [] (omega arith) none (least_none levels)
  where
    none : (o : ℕ) → 0 < slice_index levels o → o < get_or monitors 0 MONITORS → o < 0
    none o some near =
        let c = h.all o some in
        let first : get_or monitors 0 MONITORS ≡ slice_index monitors 0 = get_or_default monitors 0 MONITORS 0
        (let n = c.1 in omega arith) in
        let under = rising_places monitors h.rising 0 c.0 (omega arith) c.1 in
        let at = c.2 in
        let there : get_or monitors c.0 o ≡ slice_index monitors c.0 = get_or_default monitors c.0 o 0 c.1 in
        absurd (omega arith)

-- the least below one past a candidate are the least below the next candidate
candidates_go_on : (levels monitors : List ℕ) (i : ℕ) (held : List ℕ) → AreCandidates levels monitors → i < length monitors
    → AreLeastBelow levels (slice_index monitors i + 1) held → AreLeastBelow levels (get_or monitors (i + 1) MONITORS) held
candidates_go_on levels monitors i held h here l =
    least_wider levels (slice_index monitors i + 1) (get_or monitors (i + 1) MONITORS) held upto none l
  where
    upto : slice_index monitors i + 1 ≤ get_or monitors (i + 1) MONITORS
    upto = elim (cases_lt (i + 1) (length monitors)) [
      | inl lt ↦ (let next : get_or monitors (i + 1) MONITORS ≡ slice_index monitors (i + 1) = get_or_default monitors (i + 1) MONITORS 0 lt
          in let r = h.rising i lt in omega arith)
      | inr ge ↦ (let end : get_or monitors (i + 1) MONITORS ≡ MONITORS = get_or_past monitors (i + 1) MONITORS ge
          in let n = h.near (slice_index monitors i) (Contains-get_or monitors i 0 here) in omega arith)
    ]

    none : (o : ℕ) → 0 < slice_index levels o → o < get_or monitors (i + 1) MONITORS → o < slice_index monitors i + 1
    none o some near =
        let c = h.all o some in
        let at = c.2 in
        let there : get_or monitors c.0 o ≡ slice_index monitors c.0 = get_or_default monitors c.0 o 0 c.1 in
        elim (cases_lt i c.0) [
          | inl after ↦ absurd (let under = rising_places monitors h.rising (i + 1) c.0 (omega arith) c.1
              in let next : get_or monitors (i + 1) MONITORS ≡ slice_index monitors (i + 1) =
              get_or_default monitors (i + 1) MONITORS 0 (let n = c.1 in omega arith)
              in omega arith)
          | inr before ↦ (let under = rising_places monitors h.rising c.0 i (omega arith) here in omega arith)
        ]

-- within a list the next monitor is the one that stands there
here_is : (monitors : List ℕ) (i : ℕ) → i < length monitors → get_or monitors i MONITORS ≡ slice_index monitors i
here_is monitors i here = get_or_default monitors i MONITORS 0 here

-- a candidate that is entered is put among the least that were found
pub candidate_taken : (levels monitors : List ℕ) (i : ℕ) (held : List ℕ) → AreCandidates levels monitors → i < length monitors
    → 0 < slice_index levels (slice_index monitors i) → AreLeastBelow levels (get_or monitors i MONITORS) held
    → AreLeastBelow levels (get_or monitors (i + 1) MONITORS) (take HELD (with_one (slice_index monitors i) held))
candidate_taken levels monitors i held h here some l =
    candidates_go_on levels monitors i (take HELD (with_one (slice_index monitors i) held)) h here
    (least_taken levels (slice_index monitors i) held some (subst (λ k. AreLeastBelow levels k held) (here_is monitors i here) l))

-- a candidate that is not entered leaves the least that were found
pub candidate_skipped : (levels monitors : List ℕ) (i : ℕ) (held : List ℕ) → AreCandidates levels monitors → i < length monitors
    → slice_index levels (slice_index monitors i) ≡ 0 → AreLeastBelow levels (get_or monitors i MONITORS) held
    → AreLeastBelow levels (get_or monitors (i + 1) MONITORS) held
candidate_skipped levels monitors i held h here none l =
    candidates_go_on levels monitors i held h here
    (least_skipped levels (slice_index monitors i) held none (subst (λ k. AreLeastBelow levels k held) (here_is monitors i here) l))

-- after the last candidate, what was found is the least entered
pub candidates_end : (levels monitors : List ℕ) (i : ℕ) (held : List ℕ) → length levels ≡ MONITORS → length monitors ≤ i
    → AreLeastBelow levels (get_or monitors i MONITORS) held → AreLeastEntered levels held
candidates_end levels monitors i held long end l =
    least_all levels MONITORS held (omega arith) (subst (λ k. AreLeastBelow levels k held) (get_or_past monitors i MONITORS end) l)
