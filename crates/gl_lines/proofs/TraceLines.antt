-- Line by line: the record, the events, the draws, the machine's state and the steps of a trace belong together.
use Rattle.std.proofs.Common.{◌≡◌, ◌≢◌, ℕ, ◌==◌, List, [], ◌∷◌, ◌++◌, refl, ap, subst, sym, ◌∙◌, None, true, false, Bool, eq-eqb, ne_eqb}
use Rattle.std.specs.Prelude.{◌||◌, if◌then◌else◌}
use native.Mathlib.Decide.{ℕ_discrete}
use Rattle.gl_model.specs.declared.event.Act.{Act}
use Rattle.gl_model.specs.declared.event.Act.TheVariants.{Begin, End, Acq, Rel, VRead, VWrite, Fork, Join, Alloc, Print, Input, Fail}
use Rattle.gl_model.specs.declared.row.Item.{Item}
use Rattle.gl_model.specs.declared.row.Item.TheVariants.{Act as Acts, Access, Commit as CommitsOn}
use Rattle.gl_model.specs.declared.row.Judged.{Judged}
use Rattle.gl_model.specs.declared.row.Judged.TheVariants.{NoAccess, Performed, Raised}
use Rattle.gl_model.specs.Machine.{State, Running}
use Rattle.gl_model.specs.Trace.{Line}
use Rattle.gl_model.specs.TraceSteps.{Step as Said, IsStep, IsLineItem, item_forks, item_joins, is_ended, is_running, Hold, item_leaves, is_too_wide, item_fault, act_fault, step_fault}
use Rattle.gl_lines.specs.Traced.{Traced, with_event, with_last, after_act, after_item, after_line}
use Rattle.gl_lines.specs.TraceStates.{IsStateOf}
use Rattle.gl_lines.proofs.TraceAttempts.{commit_recorded, refused_recorded}
use Rattle.gl_lines.proofs.TraceEvents.{IsRecorded, event_recorded, last_recorded}
use Rattle.gl_lines.proofs.TraceMachine.{AreKept, ActRun, or_false, ended_push, clean_parts, runs, quiet_state, quiet_kept, run_acq, run_rel, run_vread, run_vwrite}
use Rattle.gl_lines.proofs.TracePlain.{plain_recorded}
use Rattle.gl_lines.proofs.TraceThreads.{ForkRun, run_fork, JoinRun, run_join, EndRun, run_end}

-- what the trace left belongs to these steps
pub record IsTraced (steps : List Said) (s : Traced) (now : State) : Type 0 where
  pub recorded : IsRecorded s now
  pub state : IsStateOf steps now
  pub kept : AreKept steps
  pub ended : (u : ℕ) → s.tracing.ended u ≡ is_ended steps u

module _ (steps : List Said) (s : Traced) (now : State) (k : IsTraced steps s now) (t : ℕ) where
  -- where a step joins no thread, the threads that are marked as ended are those that have ended by the steps with it
  ended_same : (item : Item) → ((u : ℕ) → item_joins u item ≡ false) → (u : ℕ) → s.tracing.ended u ≡ is_ended (steps ++ (t, item) ∷ []) u
  ended_same item none u = k.ended u ∙ sym (ended_push steps (t, item) u ∙ ap (λ b. is_ended steps u || b) (none u)
      ∙ or_false (is_ended steps u))

  -- a step that leaves the machine's state as it was
  access_traced : (item : Item) (new : Traced) → ((u : ℕ) → item_forks u item ≡ false) → ((u : ℕ) → item_joins u item ≡ false)
      → ((m : ℕ) (held : Hold) → item_leaves m t item held ≡ held) →
      IsRecorded new now → ((u : ℕ) → new.tracing.ended u ≡ s.tracing.ended u) → IsTraced (steps ++ (t, item) ∷ []) new now
  access_traced item new forks joins leaves r same = record {
    recorded = r;
    state = quiet_state steps (t, item) now now k.state forks joins leaves (λ u. refl) (λ m. refl);
    kept = quiet_kept steps (t, item) k.kept joins leaves;
    ended = λ u. same u ∙ ended_same item joins u;
  }

  -- one step of the machine
  act_traced : (act : Act) → (act ≡ End → ⊥) → ((u : ℕ) → item_joins u (Acts act) ≡ false) → ActRun steps t act now → (new : State)
      × IsTraced (steps ++ (t, Acts act) ∷ []) (with_event t act s) new
  act_traced act goes joins run = (
    run.new,
    record {
      recorded = event_recorded s now k.recorded t act run.new run.step (run.calm k.recorded.quiet) (λ r e. goes e)
          (λ w other r. sym (run.same w) ∙ r);
      state = run.state;
      kept = run.kept;
      ended = ended_same (Acts act) joins;
    },
  )

  module _ (running : now.threads t ≡ Running) where
    -- a fork, with the Begin of its thread, leaves a trace that belongs to the steps with the fork
    fork_traced : (u : ℕ) → ForkRun steps t u now k.state k.kept running 0 → (new : State)
        × IsTraced (steps ++ (t, Acts (Fork u 0)) ∷ []) (with_event u (Begin 0) (with_event t (Fork u 0) s)) new
    fork_traced u run = (
      run.new,
      record {
        recorded = event_recorded (with_event t (Fork u 0) s) run.mid first u (Begin 0) run.new run.begins (run.calm_new k.recorded.quiet)
            (λ r e. cc) (λ w other r. sym (run.others_new w other) ∙ r);
        state = run.state;
        kept = run.keeps;
        ended = ended_same (Acts (Fork u 0)) (λ w. refl);
      },
    )
      where
        before : (w : ℕ) → w ≢ t → run.mid.threads w ≡ Running → now.threads w ≡ Running
        before w other r = elim (ℕ_discrete w u) [
          | yes same ↦ absurd (let f = run.forked in let g : run.mid.threads u ≡ Running = subst (λ z. run.mid.threads z ≡ Running) same r
              in cc)
          | no apart ↦ sym (run.others w apart) ∙ r
        ]

        first : IsRecorded (with_event t (Fork u 0) s) run.mid
        first = event_recorded s now k.recorded t (Fork u 0) run.mid run.forks (run.calm k.recorded.quiet) (λ r e. cc) before

    -- the join of a thread that has ended leaves a trace that belongs to the steps with the join
    joined_traced : (u : ℕ) → is_ended steps u ≡ true → JoinRun steps t u now k.state k.kept running → (new : State)
        × IsTraced (steps ++ (t, Acts (Join u)) ∷ []) (with_event t (Join u) s) new
    joined_traced u over run = (
      now,
      record {
        recorded = event_recorded s now k.recorded t (Join u) now run.joins k.recorded.quiet (λ r e. cc) (λ w other r. r);
        state = run.state;
        kept = run.keeps;
        ended = ended;
      },
    )
      where
        ended : (w : ℕ) → s.tracing.ended w ≡ is_ended (steps ++ (t, Acts (Join u)) ∷ []) w
        ended w = k.ended w ∙ sym (ended_push steps (t, Acts (Join u)) w ∙ here (ℕ_discrete u w))
          where
            here : Dec (u ≡ w) → (is_ended steps w || (u == w)) ≡ is_ended steps w
            here (yes same) = let b : is_ended steps w ≡ true = subst (λ z. is_ended steps z ≡ true) same over in rw b refl
            here (no other) = ap (λ b. is_ended steps w || b) (ne_eqb u w other) ∙ or_false (is_ended steps w)

    -- the End of a thread that has not ended, with the join of it, leaves a trace that belongs to the steps with the join
    end_traced : (u : ℕ) → is_ended steps u ≡ false → EndRun steps t u now k.state k.kept running → (new : State)
        × IsTraced (steps ++ (t, Acts (Join u)) ∷ []) (with_event t (Join u) (with_last u s)) new
    end_traced u alive run = (
      run.mid,
      record {
        recorded = event_recorded (with_last u s) run.mid (last_recorded s run.mid u first) t (Join u) run.mid run.joins
            (run.calm k.recorded.quiet) (λ r e. cc) (λ w other r. r);
        state = run.state;
        kept = run.keeps;
        ended = ended;
      },
    )
      where
        first : IsRecorded (with_event u End s) run.mid
        first = event_recorded s now k.recorded u End run.mid run.ends (run.calm k.recorded.quiet) (λ r e. let o = run.over in cc)
            (λ w other r. sym (run.others w other) ∙ r)

        ended : (w : ℕ) → (if w == u then true else s.tracing.ended w) ≡ is_ended (steps ++ (t, Acts (Join u)) ∷ []) w
        ended w = here (ℕ_discrete w u) ∙ sym (ended_push steps (t, Acts (Join u)) w)
          where
            true_or : (b : Bool) → (b || true) ≡ true
            true_or true = refl
            true_or false = refl

            here : Dec (w ≡ u) → (if w == u then true else s.tracing.ended w) ≡ (is_ended steps w || (u == w))
            here (yes same) = let b : (w == u) ≡ true = eq-eqb w u same in let c : (u == w) ≡ true = eq-eqb u w (sym same)
                in rw (b, c) (sym (true_or (is_ended steps w)))
            here (no other) = let b : (w == u) ≡ false = ne_eqb w u other in let c : (u == w) ≡ false = ne_eqb u w (λ e. other (sym e))
                in rw (b, c) (k.ended w ∙ sym (or_false (is_ended steps w)))

    -- one line that is no access
    line_traced : (act : Act) → IsLineItem (Acts act) → act_fault steps t act ≡ None → (new : State)
        × IsTraced (steps ++ (t, Acts act) ∷ []) (after_act t act s) new
    line_traced (Begin f) is clean = absurd is
    line_traced End is clean = absurd is
    line_traced (Acq o) is clean = act_traced (Acq o) (λ e. cc) (λ u. refl) (run_acq steps t now k.state k.kept running o clean)
    line_traced (Rel o) is clean = act_traced (Rel o) (λ e. cc) (λ u. refl) (run_rel steps t now k.state k.kept running o clean)
    line_traced (VRead v) is clean = act_traced (VRead v) (λ e. cc) (λ u. refl)
        (run_vread steps t now k.state k.kept running v (k.recorded.quiet v))
    line_traced (VWrite v) is clean = act_traced (VWrite v) (λ e. cc) (λ u. refl) (run_vwrite steps t now k.state k.kept running v)
    line_traced (Fork u f) is clean = subst (λ g. (new : State)
        × IsTraced (steps ++ (t, Acts (Fork u g)) ∷ []) (with_event u (Begin g) (with_event t (Fork u g) s)) new) (sym is.1)
        (fork_traced u (run_fork steps t u now k.state k.kept running is.0 clean))
    line_traced (Join u) is clean = here (s.tracing.ended u) refl
      where
        here : (b : Bool) → s.tracing.ended u ≡ b → (new : State)
            × IsTraced (steps ++ (t, Acts (Join u)) ∷ []) (if b then with_event t (Join u) s else with_event t (Join u) (with_last u s)) new
        here true e = let over = sym (k.ended u) ∙ e in joined_traced u over (run_join steps t u now k.state k.kept running clean over)
        here false e = let alive = sym (k.ended u) ∙ e in end_traced u alive (run_end steps t u now k.state k.kept running clean alive)
    line_traced (Alloc c) is clean = absurd is
    line_traced Print is clean = absurd is
    line_traced Input is clean = absurd is
    line_traced (Fail c) is clean = absurd is

    -- one line
    pub item_traced : (item : Item) (judged : Judged) → IsLineItem item → item_fault steps t item ≡ None → (new : State)
        × IsTraced (steps ++ (t, item) ∷ []) (after_item t item judged s) new
    item_traced (Acts act) judged is clean = line_traced act is clean
    item_traced (Access x write) (Raised var) is clean = (
      now,
      access_traced (Access x write) (after_item t (Access x write) (Raised var) s) (λ u. refl) (λ u. refl) (λ m h. refl)
          (plain_recorded s now k.recorded t running x write true) (λ u. refl),
    )
    item_traced (Access x write) NoAccess is clean = (
      now,
      access_traced (Access x write) (after_item t (Access x write) NoAccess s) (λ u. refl) (λ u. refl) (λ m h. refl)
          (plain_recorded s now k.recorded t running x write false) (λ u. refl),
    )
    item_traced (Access x write) Performed is clean = (
      now,
      access_traced (Access x write) (after_item t (Access x write) Performed s) (λ u. refl) (λ u. refl) (λ m h. refl)
          (plain_recorded s now k.recorded t running x write false) (λ u. refl),
    )
    item_traced (CommitsOn reads writes) (Raised var) is clean = (
      now,
      access_traced (CommitsOn reads writes) (after_item t (CommitsOn reads writes) (Raised var) s) (λ u. refl) (λ u. refl)
          (λ m h. refl) (refused_recorded s now k.recorded t running reads writes var) (λ u. refl),
    )
    item_traced (CommitsOn reads writes) NoAccess is clean = (
      now,
      access_traced (CommitsOn reads writes) (after_item t (CommitsOn reads writes) NoAccess s) (λ u. refl) (λ u. refl) (λ m h. refl)
          (commit_recorded s now k.recorded t running reads writes) (λ u. refl),
    )
    item_traced (CommitsOn reads writes) Performed is clean = (
      now,
      access_traced (CommitsOn reads writes) (after_item t (CommitsOn reads writes) Performed s) (λ u. refl) (λ u. refl)
          (λ m h. refl) (commit_recorded s now k.recorded t running reads writes) (λ u. refl),
    )

-- a clean line behind what was traced
pub next_traced : (steps : List Said) (s : Traced) (now : State) → IsTraced steps s now → (l : Line) → IsStep (l.thread, l.item)
    → step_fault steps l.thread l.item ≡ None → (new : State) × IsTraced (steps ++ (l.thread, l.item) ∷ []) (after_line l s) new
next_traced steps s now k l is clean =
    let p = clean_parts (is_too_wide l.item) (is_running steps l.thread) (item_fault steps l.thread l.item) clean in
    item_traced steps s now k l.thread (runs steps now k.state l.thread p.1) l.item l.judged is.1 p.2
