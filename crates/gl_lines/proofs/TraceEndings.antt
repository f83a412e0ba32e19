-- The end of a sound trace: each thread that runs makes its End, and each list ends with Over.
use Rattle.std.proofs.Common.{◌≡◌, ◌≢◌, ℕ, zero, suc, ◌<◌, ◌≤◌, ◌==◌, List, [], ◌∷◌, ◌++◌, refl, ap, subst, sym, ◌∙◌, inl, inr, arith, true, false, Bool, not, ne_eqb}
use Rattle.std.specs.Prelude.{if◌then◌else◌, ℤ, pos}
use Rattle.std.proofs.lemmas.Bool.{cases_lt}
use native.Mathlib.Decide.{ℕ_discrete}
use Rattle.gl_model.specs.declared.event.Act.TheVariants.{End, Fork}
use Rattle.gl_model.specs.declared.event.Event.TheVariants.{Act as Does}
use Rattle.gl_model.specs.declared.limits.TheConstants.{THREADS}
use Rattle.gl_model.specs.declared.record.Ending.TheVariants.{Halt}
use Rattle.gl_model.specs.Entries.{Entry, Sync, Over}
use Rattle.gl_model.specs.Form.{At}
use Rattle.gl_model.specs.Machine.{State, NeverForked, Running, Ended, Step, with_at, trace_setting}
use Rattle.gl_model.specs.Records.{Lists}
use Rattle.gl_model.specs.Trace.{Line, Tracing, with_entry, with_end, with_over, with_ending, with_endings, is_empty, trace_record}
use Rattle.gl_model.specs.TraceSteps.{is_started}
use Rattle.gl_draws.specs.Events.{AreEvents}
use Rattle.gl_draws.specs.Ties.{AreDrawn}
use Rattle.gl_lines.specs.Traced.{Traced, with_last, traced}
use Rattle.gl_lines.specs.TraceStates.{steps_of, AreSound, thread_of}
use Rattle.gl_draws.proofs.DrawTies.{drawn_push}
use Rattle.gl_draws.proofs.EventTies.{events_push}
use Rattle.gl_draws.proofs.Pushes.{at_cases}
use Rattle.gl_lines.proofs.TraceEvents.{IsRecorded, IsGoing, event_recorded, last_recorded, each_list, entry_own, entry_else, alone_push, formed_push, zeros_push}
use Rattle.gl_lines.proofs.TraceLawProofs.{each_tracing}
use Rattle.gl_lines.proofs.TraceLists.{lists_shaped}
use Rattle.gl_lines.proofs.TraceMachine.{with_at-here, with_at-else}
use Rattle.gl_lines.proofs.TracePlain.{going_push}
use Rattle.gl_lines.proofs.TraceShapes.{IsShaped, shaped_end, empty_is}
use Rattle.gl_lines.proofs.TraceSound.{sound_traced}

-- a list ends with Over
abbrev pub over_of : ℕ → Traced → Traced
over_of t s = record { tracing = with_over t s.tracing; history = s.history; draws = s.draws }

-- thread t, if it has begun, makes its End, if it has not, and its list is over
abbrev pub ending_of : ℕ → Traced → Traced
ending_of t s = if is_empty (s.tracing.lists t) then s else over_of t (if s.tracing.ended t then s else with_last t s)

-- so do the threads below n, by rising number
abbrev pub endings_of : ℕ → Traced → Traced
endings_of zero s = s
endings_of (suc n) s = ending_of n (endings_of n s)

-- with Over at the end of a list all belongs together still
over_recorded : (s : Traced) (now : State) (t : ℕ) → IsRecorded s now → IsRecorded (over_of t s) now
over_recorded s now t r = record {
  allowed = r.allowed;
  next = r.next;
  numbers = r.numbers;
  events = each_list (λ w es. AreEvents s.history w es) s.tracing.lists t (Over Halt)
      (events_push s.history t (s.tracing.lists t) (r.events t) (Over Halt) refl) (λ w other. r.events w);
  drawn = each_list (λ w es. AreDrawn s.draws w es []) s.tracing.lists t (Over Halt)
      (drawn_push s.draws t (s.tracing.lists t) [] (Over Halt) (λ x k d. elim d [ inl a ↦ a | inr a ↦ a ]) (r.drawn t))
      (λ w other. r.drawn w);
  going = each_list (λ w es. now.threads w ≡ Running → IsGoing s.history w es) s.tracing.lists t (Over Halt)
      (λ runs. going_push s.history t (s.tracing.lists t) (Over Halt) refl (r.going t runs)) (λ w other runs. r.going w runs);
  fit = r.fit;
  alone = alone_push s.tracing.lists t (Over Halt) r.alone (λ z. z);
  formed = formed_push s.tracing.lists t (Over Halt) r.formed tt;
  words = r.words;
  zeros = zeros_push s.tracing.lists t (Over Halt) r.zeros refl;
  quiet = r.quiet;
  zero_run = r.zero_run;
}

-- a thread whose list was not ended yet
abbrev IsOpen : (started : Bool) → (over : Bool) → List Entry → State → ℕ → Type 0
IsOpen started over es now u = IsShaped over es × (is_empty es ≡ not started) × (now.threads u ≡ thread_of started over)

-- and one whose list was
abbrev pub IsClosed : Bool → List Entry → State → ℕ → Type 0
IsClosed false es now u = (es ≡ []) × (now.threads u ≡ NeverForked)
IsClosed true es now u = (before : List Entry) × (es ≡ before ++ Over Halt ∷ []) × IsShaped true before × (is_empty before ≡ false)
    × (now.threads u ≡ Ended)

-- the lists of the threads below n have ended
pub record IsClosing (started : ℕ → Bool) (n : ℕ) (s : Traced) (now : State) : Type 0 where
  pub recorded : IsRecorded s now
  pub open' : (u : ℕ) → n ≤ u → IsOpen (started u) (s.tracing.ended u) (s.tracing.lists u) now u
  pub closed : (u : ℕ) → u < n → IsClosed (started u) (s.tracing.lists u) now u
  pub few : (u : ℕ) → THREADS ≤ u → started u ≡ false
  -- who ended was started
  pub began : (u : ℕ) → s.tracing.ended u ≡ true → started u ≡ true
  pub forks : (w i p u f : ℕ) (value : ℤ) → At (s.tracing.lists w) i (Sync p (Fork u f) value) → started u ≡ true

module _ (started : ℕ → Bool) (n : ℕ) (s : Traced) (now : State) (k : IsClosing started n s now) where
  -- where each thread that a Fork names was started, so it is with one more entry of thread n that is no Fork
  kept_by : (e : Entry) → ((p u f : ℕ) (value : ℤ) → e ≡ Sync p (Fork u f) value → ⊥) → (R : Lists)
      → ((w i p u f : ℕ) (value : ℤ) → At (R w) i (Sync p (Fork u f) value) → started u ≡ true) → (w i p u f : ℕ) (value : ℤ)
      → At (with_entry R n e w) i (Sync p (Fork u f) value) → started u ≡ true
  kept_by e no_fork R forks w i p u f value a = each_list (λ w es. (i : ℕ) → At es i (Sync p (Fork u f) value) → started u ≡ true) R n e
      (λ i a. elim (at_cases (R n) e (Sync p (Fork u f) value) i a) [
        | inl old ↦ forks n i p u f value old
        | inr new ↦ absurd (no_fork p u f value (sym new.1))
      ])
      (λ w other i a. forks w i p u f value a) w i a

  -- where thread n was never started, the lists of the threads below n + 1 have ended
  never : started n ≡ false → IsClosing started (suc n) s now
  never e = record {
    recorded = k.recorded;
    open' = λ u le. k.open' u (omega arith);
    closed = λ u lt. elim (cases_lt u n) [
      | inl less ↦ k.closed u less
      | inr ge ↦ (let same : n ≡ u = omega arith in subst (λ w. IsClosed (started w) (s.tracing.lists w) now w) same here)
    ];
    few = k.few;
    began = k.began;
    forks = k.forks;
  }
    where
      alive : (b : Bool) → s.tracing.ended n ≡ b → b ≡ false
      alive true z = absurd (let y = k.began n z in cc)
      alive false z = refl

      here : IsClosed (started n) (s.tracing.lists n) now n
      here =
          let o = k.open' n (omega arith) in
          let over = alive (s.tracing.ended n) refl in
          subst (λ b. IsClosed b (s.tracing.lists n) now n) (sym e) (
            empty_is (s.tracing.lists n) (o.1 ∙ ap not e),
            o.2
                ∙ ap (λ b. thread_of b (s.tracing.ended n)) e ∙ ap (thread_of false) over,
          )

  -- its list gets its Over, after its End
  shut : (s' : Traced) (new : State) → IsRecorded s' new → started n ≡ true → (before : List Entry) → s'.tracing.lists n ≡ before
      → IsShaped true before → is_empty before ≡ false → new.threads n ≡ Ended →
      ((u : ℕ) → u ≢ n → s'.tracing.lists u ≡ s.tracing.lists u) → ((u : ℕ) → u ≢ n → new.threads u ≡ now.threads u)
      → ((u : ℕ) → u ≢ n → s'.tracing.ended u ≡ s.tracing.ended u) →
      ((w i p u f : ℕ) (value : ℤ) → At (s'.tracing.lists w) i (Sync p (Fork u f) value) → started u ≡ true)
      → IsClosing started (suc n) (over_of n s') new
  shut s' new r there before is shape some over lists threads ends forks = record {
    recorded = over_recorded s' new n r;
    open' = λ u le.
        let other : u ≢ n = (λ z. omega arith) in
        let o = k.open' u (omega arith) in
        let list : with_entry s'.tracing.lists n (Over Halt) u ≡ s.tracing.lists u = entry_else s'.tracing.lists n u (Over Halt) other
        ∙ lists u other in (
          subst (λ b. IsShaped b (with_entry s'.tracing.lists n (Over Halt) u)) (sym (ends u other))
              (subst (IsShaped (s.tracing.ended u)) (sym list) o.0),
          ap is_empty list ∙ o.1,
          threads u other ∙ o.2
              ∙ ap (thread_of (started u)) (sym (ends u other)),
        );
    closed = λ u lt. elim (cases_lt u n) [
      | inl less ↦
          (let other : u ≢ n = (λ z. omega arith) in
          let list : with_entry s'.tracing.lists n (Over Halt) u ≡ s.tracing.lists u = entry_else s'.tracing.lists n u (Over Halt) other
          ∙ lists u other in
          moved (started u) u (sym list) (sym (threads u other)) (k.closed u less))
      | inr ge ↦ (let same : n ≡ u = omega arith
          in subst (λ w. IsClosed (started w) (with_entry s'.tracing.lists n (Over Halt) w) new w) same here)
    ];
    few = k.few;
    began = λ u z. elim (ℕ_discrete u n) [
      | yes same ↦ subst (λ w. started w ≡ true) (sym same) there
      | no other ↦ k.began u (sym (ends u other) ∙ z)
    ];
    forks = kept_by (Over Halt) (λ p u f v z. cc) s'.tracing.lists forks;
  }
    where
      moved : (b : Bool) (u : ℕ) {es fs : List Entry} → es ≡ fs → now.threads u ≡ new.threads u → IsClosed b es now u → IsClosed b fs new u
      moved false u same t c = (sym same ∙ c.0, sym t ∙ c.1)
      moved true u same t c = (c.0, sym same ∙ c.1, c.2, c.3, sym t ∙ c.4)

      here : IsClosed (started n) (with_entry s'.tracing.lists n (Over Halt) n) new n
      here = subst (λ b. IsClosed b (with_entry s'.tracing.lists n (Over Halt) n) new n) (sym there)
          (before, entry_own s'.tracing.lists n (Over Halt) ∙ ap (λ es. es ++ Over Halt ∷ []) is, shape, some, over)

  -- where thread n was started and has made its End, its Over ends its list, so that the lists of all threads below n + 1 have ended
  ended_before : started n ≡ true → s.tracing.ended n ≡ true → (new : State) × IsClosing started (suc n) (over_of n s) new
  ended_before there over =
      let o = k.open' n (omega arith) in (
        now,
        shut s now k.recorded there (s.tracing.lists n) refl (subst (λ b. IsShaped b (s.tracing.lists n)) over o.0) (o.1
            ∙ ap not there) (o.2 ∙ ap (thread_of (started n)) over) (λ u z. refl) (λ u z. refl) (λ u z. refl) k.forks,
      )

  -- where thread n was started and has not made its End, its End and its Over end its list, so that the lists of all threads below n + 1
  -- have ended
  runs_still : started n ≡ true → s.tracing.ended n ≡ false → (new : State) × IsClosing started (suc n) (over_of n (with_last n s)) new
  runs_still there alive = (
    new,
    shut (with_last n s) new recorded there (s.tracing.lists n ++ Sync s.tracing.next End (pos 0) ∷ [])
        (entry_own s.tracing.lists n (Sync s.tracing.next End (pos 0)))
        (shaped_end (s.tracing.lists n) s.tracing.next (subst (λ b. IsShaped b (s.tracing.lists n)) alive o.0) some)
        (some_more (s.tracing.lists n)) (with_at-here now.threads n Ended)
        (λ u other. entry_else s.tracing.lists n u (Sync s.tracing.next End (pos 0)) other)
        (λ u other. with_at-else now.threads n u Ended other) (λ u other. ended_else u other)
        (kept_by (Sync s.tracing.next End (pos 0)) (λ p u f v z. cc) s.tracing.lists k.forks),
  )
    where
      o : IsOpen (started n) (s.tracing.ended n) (s.tracing.lists n) now n
      o = k.open' n (omega arith)

      new : State
      new = record now { threads = with_at now.threads n Ended }

      some : is_empty (s.tracing.lists n) ≡ false
      some = o.1 ∙ ap not there

      some_more : (es : List Entry) → is_empty (es ++ Sync s.tracing.next End (pos 0) ∷ []) ≡ false
      some_more [] = refl
      some_more (x ∷ es) = refl

      running : now.threads n ≡ Running
      running = o.2 ∙ ap (λ b. thread_of b (s.tracing.ended n)) there ∙ ap (thread_of true) alive

      ended_else : (u : ℕ) → u ≢ n → (if u == n then true else s.tracing.ended u) ≡ s.tracing.ended u
      ended_else u other = let b : (u == n) ≡ false = ne_eqb u n other in rw b refl

      step : Step trace_setting now (record { thread = n; event = Does End }) (pos 0) (record now { threads = with_at now.threads n Ended })
      step = record { may = running; effect = refl }

      recorded : IsRecorded (with_last n s) (record now { threads = with_at now.threads n Ended })
      recorded = last_recorded s (record now { threads = with_at now.threads n Ended }) n
          (event_recorded s now k.recorded n End (record now { threads = with_at now.threads n Ended }) step k.recorded.quiet
          (λ r. absurd (let z : Ended ≡ Running = sym (with_at-here now.threads n Ended) ∙ r in cc))
          (λ w other r. sym (with_at-else now.threads n w Ended other) ∙ r))

  -- once thread n has been ended too, the lists of the threads below n + 1 have ended, in some state of the machine
  pub one_closed : (new : State) × IsClosing started (suc n) (ending_of n s) new
  one_closed = outer (started n) refl (is_empty (s.tracing.lists n)) ((k.open' n (omega arith)).1)
    where
      inner : started n ≡ true → (b : Bool) → s.tracing.ended n ≡ b → (new : State)
          × IsClosing started (suc n) (over_of n (if b then s else with_last n s)) new
      inner there true e = ended_before there e
      inner there false e = runs_still there e

      outer : (a : Bool) → started n ≡ a → (b : Bool) → b ≡ not (started n) → (new : State)
          × IsClosing started (suc n) (if b then s else over_of n (if s.tracing.ended n then s else with_last n s)) new
      outer false e true z = (now, never e)
      outer false e false z = absurd (let y : false ≡ true = z ∙ ap not e in cc)
      outer true e true z = absurd (let y : true ≡ false = z ∙ ap not e in cc)
      outer true e false z = inner e (s.tracing.ended n) refl

-- the record with its endings is that of the trace
ending_tracing : (t : ℕ) (s : Traced) → (ending_of t s).tracing ≡ with_ending t s.tracing
ending_tracing t s = outer (is_empty (s.tracing.lists t)) (s.tracing.ended t)
  where
    outer : (a b : Bool) → (if a then s else over_of t (if b then s else with_last t s)).tracing
        ≡ (if a then s.tracing else with_over t (if b then s.tracing else with_end t s.tracing))
    outer true b = refl
    outer false true = refl
    outer false false = refl

-- the record that these leave is the record with its endings
endings_tracing : (n : ℕ) (s : Traced) → (endings_of n s).tracing ≡ with_endings n s.tracing
endings_tracing zero s = refl
endings_tracing (suc n) s = ending_tracing n (endings_of n s) ∙ ap (with_ending n) (endings_tracing n s)

module _ (lines : List Line) (sound : AreSound lines) where
  -- with the endings of the threads below n, their lists have ended
  closing : (n : ℕ) → (now : State) × IsClosing (is_started (steps_of lines)) n (endings_of n (traced lines)) now
  closing zero =
      let t = sound_traced lines sound in
      let k = lists_shaped lines sound in (
        t.0,
        record {
          recorded = t.1.recorded;
          open' = λ u le. (k.shape u, k.begun u, t.1.state.threads u ∙ ap (thread_of (is_started (steps_of lines) u)) (sym (t.1.ended u)));
          closed = λ u lt. absurd (omega arith);
          few = k.few;
          began = λ u e. t.1.kept.started u (sym (t.1.ended u) ∙ e);
          forks = k.forks;
        },
      )
  closing (suc n) = let c = closing n in one_closed (is_started (steps_of lines)) n (endings_of n (traced lines)) c.0 c.1

  -- once all threads have been ended behind the trace, all their lists have, in some state of the machine
  pub all_closed : (now : State) × IsClosing (is_started (steps_of lines)) THREADS (endings_of THREADS (traced lines)) now
  all_closed = closing THREADS

  -- the lists are then those of the trace's record
  pub whole_lists : (endings_of THREADS (traced lines)).tracing.lists ≡ trace_record lines
  whole_lists = ap (λ (z : Tracing). z.lists) (endings_tracing THREADS (traced lines))
      ∙ ap (λ (z : Tracing). (with_endings THREADS z).lists) (each_tracing lines Rattle.gl_lines.specs.Traced.at_first)
