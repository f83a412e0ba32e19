-- The record of a sound trace is well formed, its numbers are each once, and the machine makes its events.
use Rattle.std.proofs.Common.{◌≡◌, ◌≢◌, ℕ, zero, suc, ◌+◌, ◌<◌, ◌≤◌, List, [], ◌∷◌, ◌++◌, length, refl, ap, subst, sym, ◌∙◌, inl, inr, arith, Some, true, false, Bool, not, add-one, length-append}
use Rattle.std.specs.Prelude.{◌⊎◌, ◌↔◌, pos}
use Rattle.std.proofs.lemmas.Bool.{cases_lt}
use Rattle.gl_model.specs.declared.event.Stamp.{Stamp}
use Rattle.gl_model.specs.declared.limits.TheConstants.{THREADS}
use Rattle.gl_model.specs.declared.record.Ending.TheVariants.{Halt}
use Rattle.gl_model.specs.Edges.{EventAt}
use Rattle.gl_model.specs.Entries.{Entry, Plain, Trim, Over}
use Rattle.gl_model.specs.Form.{At, Draws, EntryForm, IsTrim, IsBegin, IsEnd, IsOver, ListForm, Form, Numbered, IsMachineRun, value_of}
use Rattle.gl_model.specs.Machine.{Setting, State, Step, NeverForked, Ended, start, trace_setting}
use Rattle.gl_model.specs.Records.{Lists, IsEventList, position_of}
use Rattle.gl_model.specs.Trace.{is_empty}
use Rattle.gl_model.specs.TraceSteps.{is_started}
use Rattle.gl_draws.specs.Ties.{IsRepeat}
use Rattle.gl_lines.specs.Traced.{Traced, traced}
use Rattle.gl_lines.specs.TraceRecords.{RecordIsWhole}
use Rattle.gl_lines.specs.TraceStates.{steps_of, thread_of}
use Rattle.gl_draws.proofs.ClosedNumbers.{numbered_law}
use Rattle.gl_draws.proofs.Closing.{is_list}
use Rattle.gl_draws.proofs.Pushes.{at_new, at_cases, at_within}
use Rattle.gl_lines.proofs.TraceEndings.{endings_of, IsClosed, IsClosing, all_closed, whole_lists}
use Rattle.gl_lines.proofs.TraceEvents.{IsRecorded, RunsZero}
use Rattle.gl_lines.proofs.TraceRaces.{tied_of}
use Rattle.gl_lines.proofs.TraceShapes.{IsShaped, empty_is}

-- a Begin is no trim
begin_no_trim : (e : Entry) → IsBegin e → IsTrim e → ⊥
begin_no_trim (Trim low) b t = b
begin_no_trim _ b t = t

-- a list that has no entry, or that ends with Over behind an End
abbrev IsEnded : List Entry → Type 0
IsEnded es = (es ≡ []) ⊎ ((before : List Entry) × (es ≡ before ++ Over Halt ∷ []) × IsShaped true before × (is_empty before ≡ false))

module _ (t : ℕ) (before : List Entry) (k : IsShaped true before) (some : is_empty before ≡ false) where
  abbrev es : List Entry
  es = before ++ Over Halt ∷ []

  -- in a list of the shape of an ended thread's, with Over at its end, an entry that has nothing but Trims before it is Begin
  begins : (before' : List Entry) → IsShaped true before' → is_empty before' ≡ false → (i : ℕ) (e : Entry)
      → At (before' ++ Over Halt ∷ []) i e → ((j : ℕ) (f : Entry) → At (before' ++ Over Halt ∷ []) j f → j < i → IsTrim f) → IsBegin e
  begins [] k' some' i e a all = absurd (cc)
  begins (x ∷ rest) k' some' zero e a all = k'.first e a
  begins (x ∷ rest) k' some' (suc i) e a all = absurd (begin_no_trim x (k'.first x refl) (all 0 x refl (omega arith)))

  -- an entry is End exactly where the one behind it is Over
  over_after : (i : ℕ) (e f : Entry) → At es i e → At es (i + 1) f → IsEnd e ↔ IsOver f
  over_after i e f a b = elim (at_cases before (Over Halt) f (i + 1) b) [
    | inl old ↦
        (let near = at_within before (i + 1) f old in (
          λ z. absurd (elim (at_cases before (Over Halt) e i a) [
            | inl was ↦ (let l = (k.end_last i e was z).1 in omega arith)
            | inr new ↦ (let l = new.0 in omega arith)
          ]),
          λ z. absurd (k.no_over (i + 1) f old z),
        ))
    | inr new ↦
        (let at = new.0 in (
          λ z. subst IsOver (sym new.1) tt,
          λ z. elim (at_cases before (Over Halt) e i a) [
            | inl was ↦ k.last_end refl i e was (omega arith)
            | inr also ↦ absurd (let l = also.0 in omega arith)
          ],
        ))
  ]

  -- Over is the last entry of the list
  over_last : (i : ℕ) (e : Entry) → At es i e → IsOver e → length es ≡ i + 1
  over_last i e a o = elim (at_cases before (Over Halt) e i a) [
    | inl old ↦ absurd (k.no_over i e old o)
    | inr new ↦ (let at = new.0 in omega (arith, length-append before (Over Halt ∷ [])))
  ]

  -- the list has no Trim
  no_trims : (i low : ℕ) → At es i (Trim low) → ⊥
  no_trims i low a = elim (at_cases before (Over Halt) (Trim low) i a) [
    | inl old ↦ k.no_trim i (Trim low) old tt
    | inr new ↦ (let z = new.1 in cc)
  ]

-- a list whose entries, positions and numbers are in order, without a repeat, and that has ended is well formed
pub list_form : (t : ℕ) (es : List Entry) → ((i : ℕ) (e : Entry) → At es i e → EntryForm t e)
    → ((i j p q : ℕ) (e f : Entry) → At es i e → At es j f → i < j → position_of e ≡ Some p → position_of f ≡ Some q → p < q) →
    ((x k m i j : ℕ) (e f : Entry) → At es i e → At es j f → i < j → Draws e x k → Draws f x m → k < m)
    → ((i : ℕ) (e : Entry) → At es i e → IsRepeat e → ⊥) → IsEnded es → ListForm t es
list_form t es formed positions numbers alone (inl none) = record {
  well_formed = formed;
  begins = λ i e a n b. absurd (nothing i e a);
  positions_rise = positions;
  numbers_rise = λ i j x k m e f a b lt d g. numbers x k m i j e f a b lt d g;
  lows_rise = λ i j low high a b lt. absurd (nothing i (Trim low) a);
  over_after_end = λ i e f a b. absurd (nothing i e a);
  nothing_after = λ i e a o. absurd (nothing i e a);
  cached = λ i x k w v a. absurd (nothing i (Plain x k true w v false) a);
}
  where
    nothing : (i : ℕ) (e : Entry) → At es i e → ⊥
    nothing i e a = let b : At [] i e = subst (λ l. At l i e) none a in cc
list_form t es formed positions numbers alone (inr c) = record {
  well_formed = formed;
  begins = λ i e a n b. begins t c.0 c.2 c.3 c.0 c.2 c.3 i e (there i e a) (λ j f at lt. b j f (back j f at) lt);
  positions_rise = positions;
  numbers_rise = λ i j x k m e f a b lt d g. numbers x k m i j e f a b lt d g;
  lows_rise = λ i j low high a b lt. absurd (no_trims t c.0 c.2 c.3 i low (there i (Trim low) a));
  over_after_end = λ i e f a b. over_after t c.0 c.2 c.3 i e f (there i e a) (there (i + 1) f b);
  nothing_after = λ i e a o. ap length c.1 ∙ over_last t c.0 c.2 c.3 i e (there i e a) o;
  cached = λ i x k w v a. absurd (alone i (Plain x k true w v false) a refl);
}
  where
    there : (i : ℕ) (e : Entry) → At es i e → At (c.0 ++ Over Halt ∷ []) i e
    there i e a = subst (λ l. At l i e) c.1 a

    back : (i : ℕ) (e : Entry) → At (c.0 ++ Over Halt ∷ []) i e → At es i e
    back i e a = subst (λ l. At l i e) (sym c.1) a

-- the states of a run in which all values are 0
record ZeroTrail (setting : Setting) (old : State) (h : List Stamp) (now : State) : Type 0 where
  at : ℕ → State
  first : at zero ≡ old
  last : at (length h) ≡ now
  steps : (p : ℕ) (s : Stamp) → EventAt h p s → Step setting (at p) s (pos 0) (at (suc p))

-- a first state, and then these
behind : State → (ℕ → State) → ℕ → State
behind old at zero = old
behind old at (suc p) = at p

-- a step to a state is a step by an equal event to an equal state
first_step : (setting : Setting) (old mid next : State) (x s : Stamp) → Step setting old x (pos 0) mid → x ≡ s → mid ≡ next
    → Step setting old s (pos 0) next
first_step setting old mid next x s step e f =
    subst (λ z. Step setting old s (pos 0) z) f (subst (λ z. Step setting old z (pos 0) mid) e step)

-- a run with values 0 has a state for each number of its events
zero_trail : (setting : Setting) (h : List Stamp) (old now : State) → RunsZero setting old h now → ZeroTrail setting old h now
unfolding behind
zero_trail setting [] old now r = record { at = λ p. old; first = refl; last = sym r; steps = λ p s e. absurd (cc) }
zero_trail setting (x ∷ h) old now r =
    let t : ZeroTrail setting r.0 h now = zero_trail setting h r.0 now r.2 in
    record { at = behind old t.at; first = refl; last = t.last; steps = steps t }
  where
    steps : (t : ZeroTrail setting r.0 h now) → (p : ℕ) (s : Stamp) → EventAt (x ∷ h) p s
        → Step setting (behind old t.at p) s (pos 0) (behind old t.at (suc p))
    steps t zero s e = first_step setting old r.0 (t.at zero) x s r.1 (let same : x ≡ s = cc in same) (sym t.first)
    steps t (suc p) s e = t.steps p s e

module _ (started : ℕ → Bool) (main : started 0 ≡ true) (s : Traced) (now : State) (k : IsClosing started THREADS s now) where
  abbrev R : Lists
  R = s.tracing.lists

  -- the record, the list of events and the draws belong together
  r : IsRecorded s now
  r = k.recorded

  -- a thread whose number is not below the greatest number of threads has an empty list
  empty_far : (u : ℕ) → THREADS ≤ u → s.tracing.lists u ≡ []
  empty_far u le = empty_is (s.tracing.lists u) ((k.open' u le).1 ∙ ap not (k.few u le))

  -- a list that was ended is empty or ends with Over behind an End, whether its thread was started or not
  closed_cases : (b : Bool) (u : ℕ) → IsClosed b (s.tracing.lists u) now u → IsEnded (s.tracing.lists u)
  closed_cases true u c = inr (c.0, c.1, c.2, c.3)
  closed_cases false u c = inl c.0

  -- each list is empty or ends with Over behind an End
  ended_of : (u : ℕ) → IsEnded (s.tracing.lists u)
  ended_of u = elim (cases_lt u THREADS) [ inl near ↦ closed_cases (started u) u (k.closed u near) | inr far ↦ inl (empty_far u far) ]

  -- a list with Over at its end is not empty
  not_empty : (before : List Entry) → before ++ Over Halt ∷ [] ≡ [] → ⊥
  not_empty [] e = cc
  not_empty (x ∷ before) e = cc

  -- the list of a thread that was started is not empty
  started_list : (u : ℕ) → started u ≡ true → s.tracing.lists u ≢ []
  started_list u e none = elim (cases_lt u THREADS) [
    | inl near ↦ (let c : IsClosed true (s.tracing.lists u) now u = subst (λ b. IsClosed b (s.tracing.lists u) now u) e (k.closed u near)
        in not_empty c.0 (sym c.1 ∙ none))
    | inr far ↦ (let f = k.few u far in let z : true ≡ false = sym e ∙ f in cc)
  ]

  -- the record is well formed
  form : Form s.tracing.lists
  form = record {
    main = started_list 0 main;
    formed = λ t. list_form t (s.tracing.lists t) (λ i e a. r.formed (record { thread = t; index = i }) e a) (r.events t).rise
        (r.drawn t).rise (λ i e a. r.alone (record { thread = t; index = i }) e a) (ended_of t);
    ends = λ t some. elim (ended_of t) [
      | inl none ↦ absurd (some none)
      | inr c ↦ (length c.0, (Over Halt, subst (λ es. At es (length c.0) (Over Halt)) (sym c.1) (at_new c.0 (Over Halt)), tt))
    ];
  }

  -- the record's numbers are those of each variable, each once
  numbered : Numbered s.tracing.lists
  numbered = numbered_law s.tracing.lists s.draws (tied_of s now r) r.formed

  -- there is a state for each number of the events, and each event is a step with the value 0 from one to the next
  trail : ZeroTrail trace_setting (start trace_setting) s.history now
  trail = zero_trail trace_setting s.history (start trace_setting) now r.zero_run

  -- a thread that was not started has not ended
  alive : (u : ℕ) → started u ≡ false → (b : Bool) → s.tracing.ended u ≡ b → b ≡ false
  alive u none true e = absurd (let z = k.began u e in cc)
  alive u none false e = refl

  -- a thread whose list was ended was never forked, or has ended
  over_cases : (b : Bool) (u : ℕ) → IsClosed b (s.tracing.lists u) now u → (now.threads u ≡ NeverForked) ⊎ (now.threads u ≡ Ended)
  over_cases true u c = inr c.4
  over_cases false u c = inl c.1

  -- the machine makes the record's events
  machine : IsMachineRun trace_setting s.tracing.lists s.history
  machine = record {
    at = trail.at;
    first = trail.first;
    steps = λ c p e ev.
        let here = (is_list s.tracing.lists s.history r.events).listed c p e ev in
        let zero' : value_of ev.entry ≡ pos 0 = r.zeros c ev.entry ev.there in
        subst (λ v. Step trace_setting (trail.at p) e v (trail.at (p + 1))) (sym zero')
        (subst (λ n. Step trace_setting (trail.at p) e (pos 0) (trail.at n)) (sym (add-one p)) (trail.steps p e here));
    lists = λ c p u f value there. started_list u (k.forks c.thread c.index p u f value there);
    ended = λ t. subst (λ (z : State). (z.threads t ≡ NeverForked) ⊎ (z.threads t ≡ Ended)) (sym trail.last) (elim (cases_lt t THREADS) [
      | inl near ↦ over_cases (started t) t (k.closed t near)
      | inr far ↦ (let none = k.few t far in inl ((k.open' t far).2 ∙ ap (λ b. thread_of b (s.tracing.ended t)) none
          ∙ ap (thread_of false) (alive t none (s.tracing.ended t) refl)))
    ]);
  }

  record Whole (S : Lists) : Type 0 where
    is_form : Form S
    is_numbered : Numbered S
    events : List Stamp
    listed : IsEventList events S
    made : IsMachineRun trace_setting S events

  -- the record is well formed, its numbers are each once, and the machine makes its events
  whole : Whole s.tracing.lists
  whole = record {
    is_form = form;
    is_numbered = numbered;
    events = s.history;
    listed = is_list s.tracing.lists s.history r.events;
    made = machine;
  }

-- the record of a sound trace is well formed, numbered, and a run of the machine
pub whole_law : RecordIsWhole
whole_law lines sound =
    let c = all_closed lines sound in
    let s = endings_of THREADS (traced lines) in
    let w = subst (λ S. Whole (is_started (steps_of lines)) refl s c.0 c.1 S) (whole_lists lines sound)
    (whole (is_started (steps_of lines)) refl s c.0 c.1) in
    record { form = w.is_form; numbered = w.is_numbered; events = w.events; listed = w.listed; machine = w.made }
