-- Who owns monitors along a list of events.
use Rattle.std.proofs.Common.{◌≡◌, ℕ, ◌+◌, ◌<◌, ◌≤◌, ◌==◌, List, [], ◌∷◌, ◌++◌, length, take, get_or, refl, sym, ◌∙◌, ap, subst, inl, inr, arith, Some, None, true, false, Bool, ne_eqb, eq-eqb}
use Rattle.std.specs.Prelude.{◌⊎◌, Contains, if◌then◌else◌, nat_lt}
use Rattle.std.specs.List.Sorted.{IsStrictlyIncreasing}
use Rattle.std.proofs.lemmas.Bool.{cases_lt, le-ltb, eqb-true}
use Rattle.std.proofs.lemmas.List.{take_all, take-append-le, length_push, get_or_append_left, get_or_push}
use Rattle.std.proofs.lemmas.List.Elements.{Contains-push_cases, Contains-push, Contains-append_left, Contains-append_right, Contains-get_or}
use Rattle.std.proofs.lemmas.List.Sums.{fold-append}
use Rattle.gl_model.specs.declared.event.Act.{Act}
use Rattle.gl_model.specs.declared.event.Act.TheVariants.{Begin, End, Acq, Rel, VRead, VWrite, Fork, Join, Alloc, Print, Input, Fail}
use Rattle.gl_model.specs.declared.event.Event.TheVariants.{Act as Does}
use Rattle.gl_model.specs.declared.event.Stamp.{Stamp}
use Rattle.gl_model.specs.declared.limits.TheConstants.{HELD}
use Rattle.gl_model.specs.Infos.{AreLeastOwned}
use Rattle.gl_model.specs.Machine.{State, Free, Owned}
use Rattle.gl_model.specs.Rising.{with_one}
use Rattle.gl_model.specs.TraceSteps.{Step, Hold, act_leaves, holder, is_held_by}
use Rattle.gl_lines.specs.Traced.{Traced, with_event, with_last, after_act, with_stamp}
use Rattle.gl_lines.specs.TraceStates.{IsStateOf, monitor_of}
use Rattle.gl_compare.specs.Held.{event_leaves, hold_of, AreLeastHeld}

-- with an event more a monitor is held as the event leaves it
pub hold_push : (m : ℕ) (h : List Stamp) (s : Stamp) → hold_of m (h ++ s ∷ []) ≡ event_leaves m s (hold_of m h)
hold_push m h s = fold-append (λ held (r : Stamp). event_leaves m r held) None h (s ∷ [])

-- the events of a line leave a monitor as the line's act does
pub act_holds : (m t : ℕ) (act : Act) (s : Traced) → hold_of m (after_act t act s).history ≡ act_leaves m t act (hold_of m s.history)
act_holds m t (Begin f) s = hold_push m s.history (record { thread = t; event = Does (Begin f) })
act_holds m t End s = hold_push m s.history (record { thread = t; event = Does End })
act_holds m t (Acq o) s = hold_push m s.history (record { thread = t; event = Does (Acq o) })
act_holds m t (Rel o) s = hold_push m s.history (record { thread = t; event = Does (Rel o) })
act_holds m t (VRead v) s = hold_push m s.history (record { thread = t; event = Does (VRead v) })
act_holds m t (VWrite v) s = hold_push m s.history (record { thread = t; event = Does (VWrite v) })
act_holds m t (Fork u f) s = hold_push m (with_stamp s.history t (Does (Fork u f))) (record { thread = u; event = Does (Begin f) })
    ∙ hold_push m s.history (record { thread = t; event = Does (Fork u f) })
act_holds m t (Join u) s = by (s.tracing.ended u)
  where
    by : (b : Bool) → hold_of m (if b then with_event t (Join u) s else with_event t (Join u) (with_last u s)).history ≡ hold_of m s.history
    by true = hold_push m s.history (record { thread = t; event = Does (Join u) })
    by false = hold_push m (with_stamp s.history u (Does End)) (record { thread = t; event = Does (Join u) })
        ∙ hold_push m s.history (record { thread = u; event = Does End })
act_holds m t (Alloc c) s = hold_push m s.history (record { thread = t; event = Does (Alloc c) })
act_holds m t Print s = hold_push m s.history (record { thread = t; event = Does Print })
act_holds m t Input s = hold_push m s.history (record { thread = t; event = Does Input })
act_holds m t (Fail k) s = hold_push m s.history (record { thread = t; event = Does (Fail k) })

-- a number above all others is put last
with_one-last : (n : ℕ) (xs : List ℕ) → ((k : ℕ) → Contains xs k → k < n) → with_one n xs ≡ xs ++ n ∷ []
with_one-last n [] below = refl
with_one-last n (y ∷ ys) below =
    let less : y < n = below y (Contains-get_or (y ∷ ys) 0 0 (omega arith)) in
    let other : (n == y) ≡ false = ne_eqb n y (λ e. omega arith) in
    let over : nat_lt n y ≡ false = le-ltb n y (omega arith) in
    let rest = with_one-last n ys (λ k c. below k (Contains-append_right (y ∷ []) ys k c)) in
    rw (other, over) (ap (λ zs. y ∷ zs) rest)

-- a list that rises does so with a number above all others put last
increasing_push : (n : ℕ) (xs : List ℕ) → IsStrictlyIncreasing xs → ((k : ℕ) → Contains xs k → k < n) → IsStrictlyIncreasing (xs ++ n ∷ [])
increasing_push n xs rising below k within = elim (cases_lt (k + 1) (length xs)) [
  | inl less ↦
      (let a = get_or_append_left xs (n ∷ []) 0 k (omega arith) in
      let b = get_or_append_left xs (n ∷ []) 0 (k + 1) less in
      let c = rising k less in
      omega arith)
  | inr more ↦
      (let long = length_push xs n in
      let here : length xs ≡ k + 1 = omega arith in
      let a = get_or_append_left xs (n ∷ []) 0 k (omega arith) in
      let b = get_or_push xs n 0 (k + 1) here in
      let c = below (get_or xs k 0) (Contains-get_or xs k 0 (omega arith)) in
      omega arith)
]

-- the least monitors below n that thread t holds
pub record AreLeastBelow (holds : ℕ → Hold) (t n : ℕ) (held : List ℕ) : Type 0 where
  pub rising : IsStrictlyIncreasing held
  pub below : (k : ℕ) → Contains held k → k < n
  pub owned : (m : ℕ) → Contains held m → is_held_by t (holds m) ≡ true
  pub few : length held ≤ HELD
  pub least : (m : ℕ) → m < n → is_held_by t (holds m) ≡ true → Contains held m
      ⊎ ((length held ≡ HELD) × ((k : ℕ) → Contains held k → k < m))

-- below 0 there is none
pub none_below : (holds : ℕ → Hold) (t : ℕ) → AreLeastBelow holds t 0 []
none_below holds t = record {
  rising = λ k n. absurd (omega arith);
  below = λ k c. absurd (let n = c.1 in omega arith);
  owned = λ m c. absurd (let n = c.1 in omega arith);
  few = omega arith;
  least = λ m n. absurd (omega arith);
}

module _ (holds : ℕ → Hold) (t n : ℕ) (held : List ℕ) (l : AreLeastBelow holds t n held) where
  -- what is below the next number is below n, or is n
  split_last : (m : ℕ) → m < n + 1 → (m < n) ⊎ (m ≡ n)
  split_last m less = elim (cases_lt m n) [ inl below ↦ inl below | inr over ↦ inr (omega arith) ]

  -- the thread does not hold the next
  pub not_next : is_held_by t (holds n) ≡ false → AreLeastBelow holds t (n + 1) held
  not_next none = record {
    rising = l.rising;
    below = λ k c. let b = l.below k c in omega arith;
    owned = l.owned;
    few = l.few;
    least = λ m less has. elim (split_last m less) [
      | inl below ↦ l.least m below has
      | inr same ↦ absurd (let z : is_held_by t (holds n) ≡ true = subst (λ k. is_held_by t (holds k) ≡ true) same has in cc)
    ];
  }

  -- where the thread holds n and there is room, n put last gives the least that it holds below the next
  pushed : is_held_by t (holds n) ≡ true → length held < HELD → AreLeastBelow holds t (n + 1) (held ++ n ∷ [])
  pushed has room = record {
    rising = increasing_push n held l.rising l.below;
    below = λ k c. elim (Contains-push_cases held n k c) [ inl old ↦ (let b = l.below k old in omega arith) | inr same ↦ omega arith ];
    owned = λ m c. elim (Contains-push_cases held n m c) [
      | inl old ↦ l.owned m old
      | inr same ↦ subst (λ k. is_held_by t (holds k) ≡ true) same has
    ];
    few = omega (arith, length_push held n);
    least = λ m less holds_it. elim (split_last m less) [
      | inl below ↦ elim (l.least m below holds_it) [
        | inl c ↦ inl (Contains-append_left held (n ∷ []) m c)
        | inr full ↦ absurd (let f = full.0 in omega arith)
      ]
      | inr same ↦ inl (subst (Contains (held ++ n ∷ [])) (sym same) (Contains-push held n))
    ];
  }

  -- where there is no room for more, the list stays that of the least below the next
  full : length held ≡ HELD → AreLeastBelow holds t (n + 1) held
  full all = record {
    rising = l.rising;
    below = λ k c. let b = l.below k c in omega arith;
    owned = l.owned;
    few = l.few;
    least = λ m less has. elim (split_last m less) [
      | inl below ↦ l.least m below has
      | inr same ↦ inr (all, λ k c. let b = l.below k c in omega arith)
    ];
  }

  -- it holds the next
  pub next : is_held_by t (holds n) ≡ true → AreLeastBelow holds t (n + 1) (take HELD (with_one n held))
  next has =
      let few = l.few in
      elim (cases_lt (length held) HELD) [
        | inl room ↦ subst (AreLeastBelow holds t (n + 1)) (sym (ap (take HELD) (with_one-last n held l.below)
            ∙ take_all HELD (held ++ n ∷ []) (omega (arith, length_push held n)))) (pushed has room)
        | inr at ↦ subst (AreLeastBelow holds t (n + 1)) (sym (ap (take HELD) (with_one-last n held l.below)
            ∙ take-append-le HELD held (n ∷ []) (omega arith) ∙ take_all HELD held (omega arith))) (full (omega arith))
      ]

-- the monitors that are held are those that are owned
held_parts : (t : ℕ) (hold : Hold) → is_held_by t hold ≡ true → (d : ℕ) × (monitor_of hold ≡ Owned t d)
held_parts t None e = absurd (cc)
held_parts t (Some (owner, depth)) e = (depth, ap (λ (o : ℕ). Owned o depth) (sym (eqb-true t owner e)))

-- an owned monitor has one owner
owner_is : (owner depth t d : ℕ) → Owned owner depth ≡ Owned t d → t ≡ owner
owner_is owner depth t d e = cc

-- what is owned is held
held_back : (t : ℕ) (hold : Hold) → (d : ℕ) × (monitor_of hold ≡ Owned t d) → is_held_by t hold ≡ true
held_back t None w = absurd (let k : Free ≡ Owned t w.0 = w.1 in cc)
held_back t (Some (owner, depth)) w = eq-eqb t owner (owner_is owner depth t w.0 w.1)

-- in the state behind the steps the least monitors that are held are the least that are owned
pub owned_held : (holds : ℕ → Hold) (steps : List Step) (now : State) (t : ℕ) (held : List ℕ) → ((m : ℕ) → holds m ≡ holder m steps)
    → IsStateOf steps now → AreLeastHeld holds t held → AreLeastOwned now t held
owned_held holds steps now t held same st l = record {
  rising = l.rising;
  owned = λ o c. let p = held_parts t (holds o) (l.owned o c)
      in (p.0, st.monitors o ∙ ap monitor_of (sym (same o)) ∙ p.1);
  at_most_four = l.few;
  least = λ o w. l.least o (held_back t (holds o) (w.0, ap monitor_of (same o) ∙ sym (st.monitors o) ∙ w.1));
}
