-- The least monitors that are entered, found from the front.
use Rattle.std.proofs.Common.{◌≡◌, ℕ, ◌+◌, ◌<◌, ◌≤◌, List, [], ◌∷◌, ◌++◌, length, take, get_or, sym, ap, subst, arith, ◌∙◌, inl, inr, length-append}
use Rattle.std.specs.Prelude.{◌⊎◌, slice_index, Contains}
use Rattle.std.specs.List.Sorted.{IsStrictlyIncreasing}
use Rattle.std.proofs.lemmas.Bool.{cases_lt}
use Rattle.std.proofs.lemmas.List.{take_all, take-append-le, get_or_past, get_or_push, get_or_append_left}
use Rattle.std.proofs.lemmas.List.Elements.{Contains-get_or, Contains-append_left, Contains-push, Contains-push_cases}
use native.Mathlib.Decide.{ℕ_discrete}
use Rattle.gl_model.specs.declared.limits.TheConstants.{HELD}
use Rattle.gl_model.specs.Rising.{with_one}
use Rattle.gl_model.proofs.RisingLists.{past_all}
use Rattle.gl_rule.specs.Levels.{AreLeastEntered}

-- of the monitors below k
pub record AreLeastBelow (levels : List ℕ) (k : ℕ) (held : List ℕ) : Type 0 where
  pub rising : IsStrictlyIncreasing held
  pub entered : (o : ℕ) → Contains held o → (o < k) × (0 < slice_index levels o)
  pub at_most_four : length held ≤ HELD
  pub least : (o : ℕ) → o < k → 0 < slice_index levels o → Contains held o ⊎ ((length held ≡ HELD) × ((m : ℕ) → Contains held m → m < o))

-- below zero nothing is entered
pub least_none : (levels : List ℕ) → AreLeastBelow levels 0 []
least_none levels = record {
  rising = λ k near. absurd (omega arith);
  entered = λ o c. absurd (let n = c.1 in omega arith);
  at_most_four = omega arith;
  least = λ o near some. absurd (omega arith);
}

-- the next one is not entered
pub least_skipped : (levels : List ℕ) (k : ℕ) (held : List ℕ) → slice_index levels k ≡ 0 → AreLeastBelow levels k held
    → AreLeastBelow levels (k + 1) held
least_skipped levels k held none l = record {
  rising = l.rising;
  entered = λ o c. let e = l.entered o c in let n = e.0 in ((omega arith), e.1);
  at_most_four = l.at_most_four;
  least = λ o near some. elim (ℕ_discrete o k) [
    | yes e ↦ absurd (let z = ap (slice_index levels) e in omega arith)
    | no ne ↦ l.least o (omega arith) some
  ];
}

-- a rising list with a greater number put last rises
rising_push : (xs : List ℕ) (x : ℕ) → IsStrictlyIncreasing xs → ((j : ℕ) → j < length xs → slice_index xs j < x)
    → IsStrictlyIncreasing (xs ++ x ∷ [])
rising_push xs x rising below k near =
    let n = length-append xs (x ∷ []) in
    let m : k < length xs = omega arith in
    let a : slice_index (xs ++ x ∷ []) k ≡ slice_index xs k = get_or_append_left xs (x ∷ []) 0 k m in
    elim (cases_lt (k + 1) (length xs)) [
      | inl lt ↦ (let b : slice_index (xs ++ x ∷ []) (k + 1) ≡ slice_index xs (k + 1) = get_or_append_left xs (x ∷ []) 0 (k + 1) lt
          in let c = rising k lt in omega arith)
      | inr ge ↦ (let b : slice_index (xs ++ x ∷ []) (k + 1) ≡ x = get_or_push xs x 0 (k + 1) (omega arith) in let c = below k m
          in omega arith)
    ]

-- the next one is entered
pub least_taken : (levels : List ℕ) (k : ℕ) (held : List ℕ) → 0 < slice_index levels k → AreLeastBelow levels k held
    → AreLeastBelow levels (k + 1) (take HELD (with_one k held))
least_taken levels k held some l =
    elim (cases_lt (length held) HELD) [
      | inl lt ↦ subst (AreLeastBelow levels (k + 1))
          (sym (ap (take HELD) pushed ∙ take_all HELD (held ++ k ∷ []) (let n = long in omega arith))) (room lt)
      | inr ge ↦ subst (AreLeastBelow levels (k + 1))
          (sym (ap (take HELD) pushed ∙ take-append-le HELD held (k ∷ []) ge ∙ take_all HELD held l.at_most_four))
          (full (let n = l.at_most_four in omega arith))
    ]
  where
    below : (j : ℕ) → j < length held → slice_index held j < k
    below j near = (l.entered (get_or held j 0) (Contains-get_or held j 0 near)).0

    pushed : with_one k held ≡ held ++ k ∷ []
    pushed = past_all held k below

    long : length (held ++ k ∷ []) ≡ length held + 1
    long = length-append held (k ∷ [])

    room : length held < HELD → AreLeastBelow levels (k + 1) (held ++ k ∷ [])
    room lt = record {
      rising = rising_push held k l.rising below;
      entered = λ o c. elim (Contains-push_cases held k o c) [
        | inl old ↦ (let e = l.entered o old in let n = e.0 in ((omega arith), e.1))
        | inr same ↦ ((omega arith), subst (λ z. 0 < slice_index levels z) same some)
      ];
      at_most_four = (let n = long in omega arith);
      least = λ o near more. elim (ℕ_discrete o k) [
        | yes e ↦ inl (subst (Contains (held ++ k ∷ [])) (sym e) (Contains-push held k))
        | no ne ↦ elim (l.least o (omega arith) more) [
          | inl c ↦ inl (Contains-append_left held (k ∷ []) o c)
          | inr w ↦ absurd (let n = w.0 in omega arith)
        ]
      ];
    }

    full : length held ≡ HELD → AreLeastBelow levels (k + 1) held
    full long = record {
      rising = l.rising;
      entered = λ o c. let e = l.entered o c in let n = e.0 in ((omega arith), e.1);
      at_most_four = l.at_most_four;
      least = λ o near more. elim (ℕ_discrete o k) [
        | yes e ↦ inr (long, λ m c. let n = (l.entered m c).0 in omega arith)
        | no ne ↦ l.least o (omega arith) more
      ];
    }

-- all were looked at
pub least_all : (levels : List ℕ) (k : ℕ) (held : List ℕ) → length levels ≤ k → AreLeastBelow levels k held → AreLeastEntered levels held
least_all levels k held upto l = record {
  rising = l.rising;
  entered = λ o c. (l.entered o c).1;
  at_most_four = l.at_most_four;
  least = λ o some. l.least o (near o some) some;
}
  where
    near : (o : ℕ) → 0 < slice_index levels o → o < k
    near o some = elim (cases_lt o k) [
      | inl lt ↦ lt
      | inr ge ↦ absurd (let z : slice_index levels o ≡ 0 = get_or_past levels o 0 (omega arith) in omega arith)
    ]
