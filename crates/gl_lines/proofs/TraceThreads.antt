-- The machine allows a clean fork with the thread's Begin, and a clean join with the thread's End where that has not come.
use Rattle.std.proofs.Common.{◌≡◌, ◌≢◌, ℕ, ◌<◌, ◌==◌, List, [], ◌∷◌, ◌++◌, refl, ap, subst, sym, ◌∙◌, arith, Some, None, true, false, Bool, not, eq-eqb, ne_eqb}
use Rattle.std.specs.Prelude.{◌||◌, if◌then◌else◌, pos}
use native.Mathlib.Decide.{ℕ_discrete}
use Rattle.gl_model.specs.declared.event.Act.TheVariants.{Begin, End, Fork, Join}
use Rattle.gl_model.specs.declared.event.Event.TheVariants.{Act as Does}
use Rattle.gl_model.specs.declared.limits.TheConstants.{THREADS}
use Rattle.gl_model.specs.declared.row.Item.TheVariants.{Act as Acts}
use Rattle.gl_model.specs.declared.row.StepFault.TheVariants.{CannotFork, NotRunning, JoinSelf}
use Rattle.gl_model.specs.Machine.{NeverForked, Forked, Running, Ended, State, Step, with_at, trace_setting}
use Rattle.gl_model.specs.TraceSteps.{Step as Said, is_started, is_ended, act_fault}
use Rattle.gl_lines.specs.TraceStates.{thread_of, monitor_of, IsStateOf}
use Rattle.gl_lines.proofs.TraceMachine.{AreKept, started_push, ended_push, holder_push, or_false, with_at-here, with_at-else, if_none}

-- a thread that was not started is not thread 0
zero_started : (steps : List Said) (u : ℕ) → is_started steps u ≡ false → u ≢ 0
zero_started steps u e zero' = let b : (u == 0) ≡ true = eq-eqb u 0 zero' in let s : is_started steps u ≡ true = rw b refl in cc

-- a test or one that holds holds
or_true : (b : Bool) → (b || true) ≡ true
or_true true = refl
or_true false = refl

-- a join that is no fault is by a thread that runs, and of another
pub join_parts : (a b : Bool) → (if not a then Some NotRunning else if b then Some JoinSelf else None) ≡ None → (a ≡ true) × (b ≡ false)
join_parts true true e = absurd (cc)
join_parts true false e = (refl, refl)
join_parts false b e = absurd (cc)

module _ (steps : List Said) (t u : ℕ) (now : State) (k : IsStateOf steps now) (kept : AreKept steps) (running : now.threads t ≡ Running)
  where
    -- the fork's own step, and the first step of the new thread
    pub record ForkRun (f : ℕ) : Type 0 where
      pub mid : State
      pub new : State
      pub forks : Step trace_setting now (record { thread = t; event = Does (Fork u f) }) (pos 0) mid
      pub begins : Step trace_setting mid (record { thread = u; event = Does (Begin f) }) (pos 0) new
      pub state : IsStateOf (steps ++ (t, Acts (Fork u f)) ∷ []) new
      pub keeps : AreKept (steps ++ (t, Acts (Fork u f)) ∷ [])
      pub forked : mid.threads u ≡ Forked f (pos 0)
      pub others : (w : ℕ) → w ≢ u → mid.threads w ≡ now.threads w
      pub others_new : (w : ℕ) → w ≢ u → new.threads w ≡ mid.threads w
      pub calm : ((v : ℕ) → now.volatiles v ≡ pos 0) → (v : ℕ) → mid.volatiles v ≡ pos 0
      pub calm_new : ((v : ℕ) → now.volatiles v ≡ pos 0) → (v : ℕ) → new.volatiles v ≡ pos 0

    -- the machine allows a clean fork of a thread in range, and the new thread's Begin behind it
    pub run_fork : u < THREADS → act_fault steps t (Fork u 0) ≡ None → ForkRun 0
    run_fork near clean = record {
      mid = mid;
      new = new;
      forks = record { may = running; effect = ((some, near, never, (0, omega arith, refl), λ e. absurd (cc)), refl) };
      begins = record { may = with_at-here now.threads u (Forked 0 (pos 0)); effect = refl };
      state = record { threads = threads; monitors = λ m. k.monitors m ∙ ap monitor_of (sym (holder_push steps (t, Acts (Fork u 0)) m)) };
      keeps = record {
        started = started;
        entered_once = λ m o d e. kept.entered_once m o d (sym (holder_push steps (t, Acts (Fork u 0)) m) ∙ e);
      };
      forked = with_at-here now.threads u (Forked 0 (pos 0));
      others = λ w other. with_at-else now.threads u w (Forked 0 (pos 0)) other;
      others_new = λ w other. with_at-else (with_at now.threads u (Forked 0 (pos 0))) u w Running other;
      calm = λ q. q;
      calm_new = λ q. q;
    }
      where
        mid : State
        mid = record now { threads = with_at now.threads u (Forked 0 (pos 0)) }

        new : State
        new = record now { threads = with_at (with_at now.threads u (Forked 0 (pos 0))) u Running }

        unstarted : is_started steps u ≡ false
        unstarted = if_none (is_started steps u) CannotFork clean

        unended : is_ended steps u ≡ false
        unended = by (is_ended steps u) refl
          where
            by : (b : Bool) → is_ended steps u ≡ b → b ≡ false
            by true e = absurd (let s = kept.started u e in let z = unstarted in cc)
            by false e = refl

        some : 0 < u
        some = let n = zero_started steps u unstarted in omega arith

        never : now.threads u ≡ NeverForked
        never = k.threads u ∙ ap (λ z. thread_of z (is_ended steps u)) unstarted ∙ ap (thread_of false) unended

        ended_same : (w : ℕ) → is_ended (steps ++ (t, Acts (Fork u 0)) ∷ []) w ≡ is_ended steps w
        ended_same w = ended_push steps (t, Acts (Fork u 0)) w ∙ or_false (is_ended steps w)

        started_here : is_started (steps ++ (t, Acts (Fork u 0)) ∷ []) u ≡ true
        started_here = started_push steps (t, Acts (Fork u 0)) u ∙ ap (λ b. is_started steps u || b) (eq-eqb u u refl)
            ∙ or_true (is_started steps u)

        started_else : (w : ℕ) → w ≢ u → is_started (steps ++ (t, Acts (Fork u 0)) ∷ []) w ≡ is_started steps w
        started_else w other = started_push steps (t, Acts (Fork u 0)) w
            ∙ ap (λ b. is_started steps w || b) (ne_eqb u w (λ e. other (sym e))) ∙ or_false (is_started steps w)

        threads : (w : ℕ) → new.threads w ≡ thread_of (is_started (steps ++ (t, Acts (Fork u 0)) ∷ []) w)
            (is_ended (steps ++ (t, Acts (Fork u 0)) ∷ []) w)
        threads w = elim (ℕ_discrete w u) [
          | yes e ↦ subst (λ z. new.threads z ≡ thread_of (is_started (steps ++ (t, Acts (Fork u 0)) ∷ []) z)
              (is_ended (steps ++ (t, Acts (Fork u 0)) ∷ []) z)) (sym e) here
          | no other ↦ with_at-else (with_at now.threads u (Forked 0 (pos 0))) u w Running other
              ∙ with_at-else now.threads u w (Forked 0 (pos 0)) other ∙ k.threads w
              ∙ ap (λ z. thread_of z (is_ended steps w)) (sym (started_else w other))
              ∙ ap (λ z. thread_of (is_started (steps ++ (t, Acts (Fork u 0)) ∷ []) w) z) (sym (ended_same w))
        ]
          where
            here : new.threads u ≡ thread_of (is_started (steps ++ (t, Acts (Fork u 0)) ∷ []) u)
                (is_ended (steps ++ (t, Acts (Fork u 0)) ∷ []) u)
            here = with_at-here (with_at now.threads u (Forked 0 (pos 0))) u Running
                ∙ sym (ap (λ z. thread_of z (is_ended (steps ++ (t, Acts (Fork u 0)) ∷ []) u)) started_here
                ∙ ap (thread_of true) (ended_same u ∙ unended))

        started : (w : ℕ) → is_ended (steps ++ (t, Acts (Fork u 0)) ∷ []) w ≡ true → is_started (steps ++ (t, Acts (Fork u 0)) ∷ []) w
            ≡ true
        started w e = started_push steps (t, Acts (Fork u 0)) w ∙ ap (λ b. b || (u == w)) (kept.started w (sym (ended_same w) ∙ e))

    -- by a join of u no other thread comes to have ended
    ended_else : (w : ℕ) → w ≢ u → is_ended (steps ++ (t, Acts (Join u)) ∷ []) w ≡ is_ended steps w
    ended_else w other = ended_push steps (t, Acts (Join u)) w ∙ ap (λ b. is_ended steps w || b) (ne_eqb u w (λ e. other (sym e)))
        ∙ or_false (is_ended steps w)

    -- behind the join the thread that is joined has ended
    pub ended_here : is_ended (steps ++ (t, Acts (Join u)) ∷ []) u ≡ true
    ended_here = ended_push steps (t, Acts (Join u)) u ∙ ap (λ b. is_ended steps u || b) (eq-eqb u u refl) ∙ or_true (is_ended steps u)

    -- by a join no thread comes to be started
    started_same : (w : ℕ) → is_started (steps ++ (t, Acts (Join u)) ∷ []) w ≡ is_started steps w
    started_same w = started_push steps (t, Acts (Join u)) w ∙ or_false (is_started steps w)

    -- a state in which u has ended, with the other threads and the monitors as before, is as the steps with the join of u leave it
    join_state : (new : State) → new.threads u ≡ Ended → ((w : ℕ) → w ≢ u → new.threads w ≡ now.threads w) → new.monitors ≡ now.monitors
        → IsStateOf (steps ++ (t, Acts (Join u)) ∷ []) new
    join_state new over others monitors = record {
      threads = threads;
      monitors = λ m. ap (λ f. f m) monitors ∙ k.monitors m
          ∙ ap monitor_of (sym (holder_push steps (t, Acts (Join u)) m));
    }
      where
        threads : (w : ℕ) → new.threads w ≡ thread_of (is_started (steps ++ (t, Acts (Join u)) ∷ []) w)
            (is_ended (steps ++ (t, Acts (Join u)) ∷ []) w)
        threads w = elim (ℕ_discrete w u) [
          | yes e ↦ subst (λ z. new.threads z ≡ thread_of (is_started (steps ++ (t, Acts (Join u)) ∷ []) z)
              (is_ended (steps ++ (t, Acts (Join u)) ∷ []) z)) (sym e) (over
              ∙ sym (ap (thread_of (is_started (steps ++ (t, Acts (Join u)) ∷ []) u)) ended_here))
          | no other ↦ others w other ∙ k.threads w ∙ ap (λ z. thread_of z (is_ended steps w)) (sym (started_same w))
              ∙ ap (λ z. thread_of (is_started (steps ++ (t, Acts (Join u)) ∷ []) w) z) (sym (ended_else w other))
        ]

    -- where u was started, behind its join each thread that has ended was started, and each monitor that is held has a depth above 0
    join_kept : is_started steps u ≡ true → AreKept (steps ++ (t, Acts (Join u)) ∷ [])
    join_kept there = record {
      started = started;
      entered_once = λ m o d e. kept.entered_once m o d (sym (holder_push steps (t, Acts (Join u)) m) ∙ e);
    }
      where
        started : (w : ℕ) → is_ended (steps ++ (t, Acts (Join u)) ∷ []) w ≡ true → is_started (steps ++ (t, Acts (Join u)) ∷ []) w ≡ true
        started w e = started_same w ∙ elim (ℕ_discrete w u) [
          | yes same ↦ subst (λ z. is_started steps z ≡ true) (sym same) there
          | no other ↦ kept.started w (sym (ended_else w other) ∙ e)
        ]

    -- the join of a thread that has ended
    pub record JoinRun : Type 0 where
      pub joins : Step trace_setting now (record { thread = t; event = Does (Join u) }) (pos 0) now
      pub state : IsStateOf (steps ++ (t, Acts (Join u)) ∷ []) now
      pub keeps : AreKept (steps ++ (t, Acts (Join u)) ∷ [])

    -- where that thread has ended before, the machine allows a clean join
    pub run_join : act_fault steps t (Join u) ≡ None → is_ended steps u ≡ true → JoinRun
    run_join clean over =
        let p = join_parts (is_started steps u) (u == t) clean in
        let ended : now.threads u ≡ Ended = k.threads u ∙ ap (thread_of (is_started steps u)) over in record {
          joins = record { may = running; effect = (ended, refl) };
          state = join_state now ended (λ w other. refl) refl;
          keeps = join_kept p.0;
        }

    -- the last step of the thread that is joined, and the join's own
    pub record EndRun : Type 0 where
      pub mid : State
      pub ends : Step trace_setting now (record { thread = u; event = Does End }) (pos 0) mid
      pub joins : Step trace_setting mid (record { thread = t; event = Does (Join u) }) (pos 0) mid
      pub state : IsStateOf (steps ++ (t, Acts (Join u)) ∷ []) mid
      pub keeps : AreKept (steps ++ (t, Acts (Join u)) ∷ [])
      pub over : mid.threads u ≡ Ended
      pub others : (w : ℕ) → w ≢ u → mid.threads w ≡ now.threads w
      pub calm : ((v : ℕ) → now.volatiles v ≡ pos 0) → (v : ℕ) → mid.volatiles v ≡ pos 0

    -- where it has not, the machine allows its End, and the clean join behind that
    pub run_end : act_fault steps t (Join u) ≡ None → is_ended steps u ≡ false → EndRun
    run_end clean alive =
        let p = join_parts (is_started steps u) (u == t) clean in
        let apart : t ≢ u = (λ e. let b : (u == t) ≡ true = eq-eqb u t (sym e) in let z : true ≡ false = sym b ∙ p.1 in cc) in
        let runs : now.threads u ≡ Running = k.threads u ∙ ap (λ z. thread_of z (is_ended steps u)) p.0 ∙ ap (thread_of true) alive
        in record {
          mid = record now { threads = with_at now.threads u Ended };
          ends = record { may = runs; effect = refl };
          joins = record { may = with_at-else now.threads u t Ended apart ∙ running; effect = (with_at-here now.threads u Ended, refl) };
          state = join_state (record now { threads = with_at now.threads u Ended }) (with_at-here now.threads u Ended)
              (λ w other. with_at-else now.threads u w Ended other) refl;
          keeps = join_kept p.0;
          over = with_at-here now.threads u Ended;
          others = λ w other. with_at-else now.threads u w Ended other;
          calm = λ q. q;
        }
