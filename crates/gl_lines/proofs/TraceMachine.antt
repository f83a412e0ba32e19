-- The machine allows the step of a clean line, and its state is then as the steps leave it.
use Rattle.std.proofs.Common.{◌≡◌, ◌≢◌, ℕ, zero, suc, ◌+◌, ◌-◌, ◌<◌, ◌==◌, List, [], ◌∷◌, ◌++◌, refl, ap, subst, sym, ◌∙◌, inl, inr, arith, Some, None, true, false, Bool, not, eq-eqb, ne_eqb}
use Rattle.std.specs.Prelude.{◌⊎◌, ◌||◌, ◌&&◌, if◌then◌else◌, Option, pos, is_some}
use Rattle.std.specs.List.{list_any}
use Rattle.std.proofs.lemmas.Bool.{eqb-true}
use Rattle.std.proofs.lemmas.List.Folds.{list_any-append}
use Rattle.std.proofs.lemmas.List.Sums.{fold-append}
use native.Mathlib.Decide.{ℕ_discrete}
use Rattle.gl_model.specs.declared.event.Act.{Act}
use Rattle.gl_model.specs.declared.event.Act.TheVariants.{Acq, Rel, VRead, VWrite}
use Rattle.gl_model.specs.declared.event.Event.TheVariants.{Act as Does}
use Rattle.gl_model.specs.declared.row.Item.TheVariants.{Act as Acts}
use Rattle.gl_model.specs.declared.row.StepFault.{StepFault}
use Rattle.gl_model.specs.declared.row.StepFault.TheVariants.{BadSet, NotRunning}
use Rattle.gl_model.specs.Machine.{Running, MonitorState, Free, Owned, State, Step, with_at, left_once, trace_setting}
use Rattle.gl_model.specs.TraceSteps.{Step as Said, Hold, act_forks, item_forks, act_joins, item_joins, is_started, is_ended, is_running, entered, left, act_leaves, item_leaves, holder, is_held_by, act_fault}
use Rattle.gl_lines.specs.TraceStates.{thread_of, monitor_of, IsStateOf}

-- a test or one that fails is the test
pub or_false : (b : Bool) → (b || false) ≡ b
or_false true = refl
or_false false = refl

-- of three tests, which two are asked first does not matter
or_assoc : (a b c : Bool) → (a || (b || c)) ≡ ((a || b) || c)
or_assoc true b c = refl
or_assoc false b c = refl

-- with one step more a thread was started exactly where it was before or the step forks it
pub started_push : (steps : List Said) (s : Said) (u : ℕ) → is_started (steps ++ s ∷ []) u ≡ (is_started steps u || item_forks u s.1)
started_push steps s u =
    let one : list_any (λ (r : Said). item_forks u r.1) (s ∷ []) ≡ item_forks u s.1 = or_false (item_forks u s.1) in
    ap (λ b. (u == 0) || b) (list_any-append (λ (r : Said). item_forks u r.1) steps (s ∷ [])
    ∙ ap (λ b. list_any (λ (r : Said). item_forks u r.1) steps || b) one)
    ∙ or_assoc (u == 0) (list_any (λ (r : Said). item_forks u r.1) steps) (item_forks u s.1)

-- with a step more a thread has ended where it had, or where the step joins it
pub ended_push : (steps : List Said) (s : Said) (u : ℕ) → is_ended (steps ++ s ∷ []) u ≡ (is_ended steps u || item_joins u s.1)
ended_push steps s u =
    let one : list_any (λ (r : Said). item_joins u r.1) (s ∷ []) ≡ item_joins u s.1 = or_false (item_joins u s.1) in
    list_any-append (λ (r : Said). item_joins u r.1) steps (s ∷ []) ∙ ap (λ b. list_any (λ (r : Said). item_joins u r.1) steps || b) one

-- with a step more a monitor is held as the step leaves it
pub holder_push : (steps : List Said) (s : Said) (m : ℕ) → holder m (steps ++ s ∷ []) ≡ item_leaves m s.0 s.1 (holder m steps)
holder_push steps s m = fold-append (λ held (r : Said). item_leaves m r.0 r.1 held) None steps (s ∷ [])

-- a step that forks and joins no thread, and enters and leaves no monitor
record IsQuiet (s : Said) : Type 0 where
  forks : (u : ℕ) → item_forks u s.1 ≡ false
  joins : (u : ℕ) → item_joins u s.1 ≡ false

-- a step that forks and joins no thread leaves each thread as it was
threads_push : (steps : List Said) (s : Said) → IsQuiet s → (u : ℕ)
    → thread_of (is_started (steps ++ s ∷ []) u) (is_ended (steps ++ s ∷ []) u) ≡ thread_of (is_started steps u) (is_ended steps u)
threads_push steps s q u =
    let a : is_started (steps ++ s ∷ []) u ≡ is_started steps u = started_push steps s u ∙ ap (λ b. is_started steps u || b) (q.forks u)
    ∙ or_false (is_started steps u) in
    let b : is_ended (steps ++ s ∷ []) u ≡ is_ended steps u = ended_push steps s u ∙ ap (λ b. is_ended steps u || b) (q.joins u)
    ∙ or_false (is_ended steps u) in
    ap (λ z. thread_of z (is_ended (steps ++ s ∷ []) u)) a ∙ ap (λ z. thread_of (is_started steps u) z) b

-- what the steps so far keep to: who has ended was started, and a monitor with an owner was entered
pub record AreKept (steps : List Said) : Type 0 where
  pub started : (u : ℕ) → is_ended steps u ≡ true → is_started steps u ≡ true
  pub entered_once : (m owner depth : ℕ) → holder m steps ≡ Some (owner, depth) → 0 < depth

-- no steps keep to all that
pub none_kept : AreKept []
none_kept = record { started = λ u e. absurd (cc); entered_once = λ m o d e. absurd (cc) }

-- the parts of a clean step
pub clean_parts : (b r : Bool) (o : Option StepFault) → (if b then Some BadSet else if r then o else Some NotRunning) ≡ None → (b ≡ false)
    × (r ≡ true) × (o ≡ None)
clean_parts true r o e = absurd (cc)
clean_parts false true o e = (refl, refl, e)
clean_parts false false o e = absurd (cc)

-- who runs was started and has not ended
pub running_parts : (a b : Bool) → (a && not b) ≡ true → (a ≡ true) × (b ≡ false)
running_parts true true e = absurd (cc)
running_parts true false e = (refl, refl)
running_parts false b e = absurd (cc)

-- the thread runs exactly where the steps say so
pub runs : (steps : List Said) (now : State) → IsStateOf steps now → (t : ℕ) → is_running steps t ≡ true → now.threads t ≡ Running
runs steps now k t r =
    let p = running_parts (is_started steps t) (is_ended steps t) r in
    k.threads t ∙ ap (λ z. thread_of z (is_ended steps t)) p.0 ∙ ap (thread_of true) p.1

-- a thread whose state is running was started and has not ended
running_only : (a b : Bool) → thread_of a b ≡ Running → (a && not b) ≡ true
running_only a true e = absurd (cc)
running_only true false e = refl
running_only false false e = absurd (cc)

-- a thread that runs in the state runs by the steps
pub runs_back : (steps : List Said) (now : State) → IsStateOf steps now → (t : ℕ) → now.threads t ≡ Running → is_running steps t ≡ true
runs_back steps now k t r = running_only (is_started steps t) (is_ended steps t) (sym (k.threads t) ∙ r)

-- a step of the machine for thread t's act, after which its state is as the steps leave it
pub record ActRun (steps : List Said) (t : ℕ) (act : Act) (now : State) : Type 0 where
  pub new : State
  pub step : Step trace_setting now (record { thread = t; event = Does act }) (pos 0) new
  pub calm : ((v : ℕ) → now.volatiles v ≡ pos 0) → (v : ℕ) → new.volatiles v ≡ pos 0
  pub state : IsStateOf (steps ++ (t, Acts act) ∷ []) new
  pub same : (u : ℕ) → new.threads u ≡ now.threads u
  pub kept : AreKept (steps ++ (t, Acts act) ∷ [])

-- a step that changes no monitor
kept_quiet : (steps : List Said) (s : Said) → AreKept steps → ((u : ℕ) → item_joins u s.1 ≡ false)
    → ((m : ℕ) (held : Hold) → item_leaves m s.0 s.1 held ≡ held) → AreKept (steps ++ s ∷ [])
kept_quiet steps s k joins leaves = record {
  started = started;
  entered_once = λ m o d e. k.entered_once m o d (sym (holder_push steps s m ∙ leaves m (holder m steps)) ∙ e);
}
  where
    started : (u : ℕ) → is_ended (steps ++ s ∷ []) u ≡ true → is_started (steps ++ s ∷ []) u ≡ true
    started u e =
        let was : is_ended steps u ≡ true = sym (ended_push steps s u ∙ ap (λ b. is_ended steps u || b) (joins u)
        ∙ or_false (is_ended steps u)) ∙ e in
        started_push steps s u ∙ ap (λ b. b || item_forks u s.1) (k.started u was)

-- a step that joins none and leaves monitors as they are keeps to it
pub quiet_kept : (steps : List Said) (s : Said) → AreKept steps → ((u : ℕ) → item_joins u s.1 ≡ false)
    → ((m : ℕ) (held : Hold) → item_leaves m s.0 s.1 held ≡ held) → AreKept (steps ++ s ∷ [])
quiet_kept = kept_quiet

-- a state with the same threads and monitors is that after a step that changes neither
pub quiet_state : (steps : List Said) (s : Said) (now new : State) → IsStateOf steps now → ((u : ℕ) → item_forks u s.1 ≡ false)
    → ((u : ℕ) → item_joins u s.1 ≡ false) → ((m : ℕ) (held : Hold) → item_leaves m s.0 s.1 held ≡ held) →
    ((u : ℕ) → new.threads u ≡ now.threads u) → ((m : ℕ) → new.monitors m ≡ now.monitors m) → IsStateOf (steps ++ s ∷ []) new
quiet_state steps s now new k forks joins leaves threads monitors = record {
  threads = λ u. threads u ∙ k.threads u ∙ sym (threads_push steps s (record { forks = forks; joins = joins }) u);
  monitors = λ m. monitors m ∙ k.monitors m ∙ ap monitor_of (sym (holder_push steps s m ∙ leaves m (holder m steps)));
}

-- a monitor that its owner has entered so many times
abbrev owned_by : ℕ → ℕ → Hold
owned_by owner depth = Some (owner, depth)

-- equal holds are of one depth
same_depth : (o d p e : ℕ) → owned_by o d ≡ owned_by p e → d ≡ e
same_depth o d p e h = let pair : ◌≡◌ {A = ℕ × ℕ} (o, d) (p, e) = cc in ap (λ (z : ℕ × ℕ). z.1) pair

-- a monitor that no other thread than t holds is held by none, or by t at some depth
enter_parts : (t : ℕ) (held : Hold) → (is_some held && not (is_held_by t held)) ≡ false → (held ≡ None)
    ⊎ ((depth : ℕ) × (held ≡ Some (t, depth)))
enter_parts t None e = inl refl
enter_parts t (Some (owner, depth)) e = inr (depth, here (t == owner) refl e)
  where
    here : (b : Bool) → (t == owner) ≡ b → not b ≡ false → owned_by owner depth ≡ owned_by t depth
    here true is e = ap (λ (o : ℕ). owned_by o depth) (sym (eqb-true t owner is))
    here false is e = absurd (cc)

-- a monitor that t holds is held by t at some depth
leave_parts : (t : ℕ) (held : Hold) → is_held_by t held ≡ true → (depth : ℕ) × (held ≡ Some (t, depth))
leave_parts t None e = absurd (cc)
leave_parts t (Some (owner, depth)) e = (depth, ap (λ (o : ℕ). owned_by o depth) (sym (eqb-true t owner e)))

-- where the test gives no fault, it fails
pub if_none : (b : Bool) (f : StepFault) → (if b then Some f else None) ≡ None → b ≡ false
if_none true f e = absurd (cc)
if_none false f e = refl

-- where its other branch gives no fault, the test holds
else_none : (b : Bool) (f : StepFault) → (if b then None else Some f) ≡ None → b ≡ true
else_none true f e = refl
else_none false f e = absurd (cc)

-- at the place that was changed stands the new value
pub with_at-here : {A : Type 0} (f : ℕ → A) (k : ℕ) (a : A) → with_at f k a k ≡ a
with_at-here f k a = let b : (k == k) ≡ true = eq-eqb k k refl in rw b refl

-- at any other place stands what stood there
pub with_at-else : {A : Type 0} (f : ℕ → A) (k j : ℕ) (a : A) → j ≢ k → with_at f k a j ≡ f j
with_at-else f k j a other = let b : (j == k) ≡ false = ne_eqb j k other in rw b refl

-- the monitors after one of them changed
monitors_at : (steps : List Said) (t o : ℕ) (act : Act) (now : State) (m : MonitorState) → IsStateOf steps now →
    (act_leaves o t act (holder o steps) ≡ act_leaves o t act (holder o steps)) → m ≡ monitor_of (act_leaves o t act (holder o steps)) →
    ((j : ℕ) → j ≢ o → (held : Hold) → act_leaves j t act held ≡ held) → (j : ℕ) → with_at now.monitors o m j
    ≡ monitor_of (holder j (steps ++ (t, Acts act) ∷ []))
monitors_at steps t o act now m k trivial is others j = elim (ℕ_discrete j o) [
  | yes e ↦ subst (λ z. with_at now.monitors o m z ≡ monitor_of (holder z (steps ++ (t, Acts act) ∷ []))) (sym e)
      (with_at-here now.monitors o m ∙ is ∙ ap monitor_of (sym (holder_push steps (t, Acts act) o)))
  | no other ↦ with_at-else now.monitors o j m other ∙ k.monitors j
      ∙ ap monitor_of (sym (holder_push steps (t, Acts act) j ∙ others j other (holder j steps)))
]

module _ (steps : List Said) (t : ℕ) (now : State) (k : IsStateOf steps now) (kept : AreKept steps) (running : now.threads t ≡ Running)
  where
    -- an acquire of the monitor o leaves each other monitor as it is held
    other_acq : (o j : ℕ) → j ≢ o → (held : Hold) → act_leaves j t (Acq o) held ≡ held
    other_acq o j other held = let b : (o == j) ≡ false = ne_eqb o j (λ e. other (sym e)) in rw b refl

    -- a release of the monitor o leaves each other monitor as it is held
    other_rel : (o j : ℕ) → j ≢ o → (held : Hold) → act_leaves j t (Rel o) held ≡ held
    other_rel o j other held = let b : (o == j) ≡ false = ne_eqb o j (λ e. other (sym e)) in rw b refl

    -- an acquire of the monitor o by t leaves o entered once more by t
    own_acq : (o : ℕ) (held : Hold) → act_leaves o t (Acq o) held ≡ entered t held
    own_acq o held = let b : (o == o) ≡ true = eq-eqb o o refl in rw b refl

    -- a release of the monitor o leaves o left once
    own_rel : (o : ℕ) (held : Hold) → act_leaves o t (Rel o) held ≡ left held
    own_rel o held = let b : (o == o) ≡ true = eq-eqb o o refl in rw b refl

    -- with the monitor o entered once more by t, the state is as the steps with the acquire of o leave it
    acq_state : (o : ℕ) (m : MonitorState) → m ≡ monitor_of (entered t (holder o steps))
        → IsStateOf (steps ++ (t, Acts (Acq o)) ∷ []) (record now { monitors = with_at now.monitors o m })
    acq_state o m is = record {
      threads = λ u. k.threads u ∙ sym (threads_push steps (t, Acts (Acq o)) (record { forks = λ w. refl; joins = λ w. refl }) u);
      monitors = monitors_at steps t o (Acq o) now m k refl (is ∙ ap monitor_of (sym (own_acq o (holder o steps))))
          (λ j other held. other_acq o j other held);
    }

    -- with the monitor o left once, the state is as the steps with the release of o leave it
    rel_state : (o : ℕ) (m : MonitorState) → m ≡ monitor_of (left (holder o steps))
        → IsStateOf (steps ++ (t, Acts (Rel o)) ∷ []) (record now { monitors = with_at now.monitors o m })
    rel_state o m is = record {
      threads = λ u. k.threads u ∙ sym (threads_push steps (t, Acts (Rel o)) (record { forks = λ w. refl; joins = λ w. refl }) u);
      monitors = monitors_at steps t o (Rel o) now m k refl (is ∙ ap monitor_of (sym (own_rel o (holder o steps))))
          (λ j other held. other_rel o j other held);
    }

    -- behind an act that joins no thread, each thread that has ended was started
    joins_none : (act : Act) → ((u : ℕ) → act_joins u act ≡ false) → (u : ℕ) → is_ended (steps ++ (t, Acts act) ∷ []) u ≡ true
        → is_started (steps ++ (t, Acts act) ∷ []) u ≡ true
    joins_none act joins u e =
        let was : is_ended steps u ≡ true = sym (ended_push steps (t, Acts act) u ∙ ap (λ b. is_ended steps u || b) (joins u)
        ∙ or_false (is_ended steps u)) ∙ e in
        started_push steps (t, Acts act) u ∙ ap (λ b. b || act_forks u act) (kept.started u was)

    -- where a monitor has a depth above 0 if it is held, it has one when t has entered it
    deep_entered : (held : Hold) → ((owner depth : ℕ) → held ≡ Some (owner, depth) → 0 < depth) → (owner depth : ℕ) → entered t held
        ≡ Some (owner, depth) → 0 < depth
    deep_entered None was o d e = let same : 1 ≡ d = same_depth t 1 o d e in omega arith
    deep_entered (Some (owner, depth)) was o d e = let same : depth + 1 ≡ d = same_depth owner (depth + 1) o d e in omega arith

    -- where a monitor has a depth above 0 if it is held, it has one when it was left once, if it is still held
    deep_left : (held : Hold) → ((owner depth : ℕ) → held ≡ Some (owner, depth) → 0 < depth) → (owner depth : ℕ) → left held
        ≡ Some (owner, depth) → 0 < depth
    deep_left None was o d e = absurd (cc)
    deep_left (Some (owner, depth)) was o d e = here (depth == 1) refl e
      where
        here : (b : Bool) → (depth == 1) ≡ b → (if b then None else owned_by owner (depth - 1)) ≡ owned_by o d → 0 < d
        here true is e = absurd (cc)
        here false is e =
            let same : depth - 1 ≡ d = same_depth owner (depth - 1) o d e in
            let above = was owner depth refl in
            let other : depth ≢ 1 = (λ one. let b : (depth == 1) ≡ true = eq-eqb depth 1 one in let z : true ≡ false = sym b ∙ is in cc) in
            omega arith

    -- where an act changes how o is held, by f, and no other monitor, and f leaves a depth above 0, each monitor that is held behind the
    -- act has a depth above 0
    deep_at : (o : ℕ) (act : Act) (f : Hold → Hold) → ((held : Hold) → act_leaves o t act held ≡ f held)
        → ((j : ℕ) → j ≢ o → (held : Hold) → act_leaves j t act held ≡ held) →
        ((held : Hold) → ((owner depth : ℕ) → held ≡ Some (owner, depth) → 0 < depth) → (owner depth : ℕ) → f held ≡ Some (owner, depth)
        → 0 < depth) →
        (m owner depth : ℕ) → holder m (steps ++ (t, Acts act) ∷ []) ≡ Some (owner, depth) → 0 < depth
    deep_at o act f own others deep m owner depth e = elim (ℕ_discrete m o) [
      | yes same ↦ deep (holder o steps) (kept.entered_once o) owner depth (sym (holder_push steps (t, Acts act) o ∙ own (holder o steps))
          ∙ subst (λ z. holder z (steps ++ (t, Acts act) ∷ []) ≡ Some (owner, depth)) same e)
      | no other ↦ kept.entered_once m owner depth (sym (holder_push steps (t, Acts act) m ∙ others m other (holder m steps)) ∙ e)
    ]

    -- behind an acquire, too, each thread that has ended was started, and each monitor that is held has a depth above 0
    acq_kept : (o : ℕ) → AreKept (steps ++ (t, Acts (Acq o)) ∷ [])
    acq_kept o = record {
      started = joins_none (Acq o) (λ u. refl);
      entered_once = deep_at o (Acq o) (entered t) (λ held. own_acq o held) (λ j other held. other_acq o j other held) deep_entered;
    }

    -- behind a release, too, each thread that has ended was started, and each monitor that is held has a depth above 0
    rel_kept : (o : ℕ) → AreKept (steps ++ (t, Acts (Rel o)) ∷ [])
    rel_kept o = record {
      started = joins_none (Rel o) (λ u. refl);
      entered_once = deep_at o (Rel o) left (λ held. own_rel o held) (λ j other held. other_rel o j other held) deep_left;
    }

    -- the machine allows a clean acquire, and is then as the steps leave it
    pub run_acq : (o : ℕ) → act_fault steps t (Acq o) ≡ None → ActRun steps t (Acq o) now
    run_acq o clean = from (enter_parts t (holder o steps)
        (if_none (is_some (holder o steps) && not (is_held_by t (holder o steps)))
        Rattle.gl_model.specs.declared.row.StepFault.TheVariants.MonitorOwned clean))
      where
        from : (holder o steps ≡ None) ⊎ ((depth : ℕ) × (holder o steps ≡ Some (t, depth))) → ActRun steps t (Acq o) now
        from (inl free) =
            let was : now.monitors o ≡ Free = k.monitors o ∙ ap monitor_of free in record {
              new = record now { monitors = with_at now.monitors o (Owned t 1) };
              step = record {
                may = running;
                effect = (
                  Owned t 1,
                  subst (λ z. Rattle.gl_model.specs.Machine.Entered t z (Owned t 1))
                      (sym was) refl,
                  refl,
                );
              };
              state = acq_state o (Owned t 1) (ap (λ z. monitor_of (entered t z)) (sym free));
              calm = λ q. q;
              same = λ u. refl;
              kept = acq_kept o;
            }
        from (inr own) =
            let was : now.monitors o ≡ Owned t own.0 = k.monitors o ∙ ap monitor_of own.1 in record {
              new = record now { monitors = with_at now.monitors o (Owned t (own.0 + 1)) };
              step = record {
                may = running;
                effect = (
                  Owned t (own.0 + 1),
                  subst
                      (λ z. Rattle.gl_model.specs.Machine.Entered t z (Owned t (own.0 + 1))) (sym was) (refl, refl),
                  refl,
                );
              };
              state = acq_state o (Owned t (own.0 + 1)) (ap (λ z. monitor_of (entered t z)) (sym own.1));
              calm = λ q. q;
              same = λ u. refl;
              kept = acq_kept o;
            }

    -- a monitor that t owns at a depth of one more than this is, when t leaves it once, in the state that the steps leave it in
    left_owned : (depth : ℕ) → left_once t depth ≡ monitor_of (left (Some (t, depth + 1)))
    left_owned zero = refl
    left_owned (suc d) =
        let more : (suc d + 1 == 1) ≡ false = ne_eqb (suc d + 1) 1 (λ e. omega arith) in
        let some : (suc d == 0) ≡ false = ne_eqb (suc d) 0 (λ e. omega arith) in
        let back : suc d + 1 - 1 ≡ suc d = omega arith in
        rw (more, some, back) refl

    -- so it does a clean release
    pub run_rel : (o : ℕ) → act_fault steps t (Rel o) ≡ None → ActRun steps t (Rel o) now
    run_rel o clean = from (leave_parts t (holder o steps)
        (else_none (is_held_by t (holder o steps)) Rattle.gl_model.specs.declared.row.StepFault.TheVariants.MonitorNotOwned clean))
      where
        from : (depth : ℕ) × (holder o steps ≡ Some (t, depth)) → ActRun steps t (Rel o) now
        from own =
            let above = kept.entered_once o t own.0 own.1 in
            let one : own.0 ≡ (own.0 - 1) + 1 = omega arith in
            let is : holder o steps ≡ Some (t, (own.0 - 1) + 1) = own.1 ∙ ap (λ (d : ℕ). owned_by t d) one in
            let was : now.monitors o ≡ Owned t ((own.0 - 1) + 1) = k.monitors o ∙ ap monitor_of is in record {
              new = record now { monitors = with_at now.monitors o (left_once t (own.0 - 1)) };
              step = record { may = running; effect = (own.0 - 1, was, refl) };
              state = rel_state o (left_once t (own.0 - 1)) (left_owned (own.0 - 1) ∙ ap (λ z. monitor_of (left z)) (sym is));
              calm = λ q. q;
              same = λ u. refl;
              kept = rel_kept o;
            }

    -- a step by an act that forks no thread, joins none and leaves all monitors, and that keeps the threads, the monitors and volatiles
    -- that are 0, is a run of that act
    quiet_run : (act : Act) (new : State) → (((v : ℕ) → now.volatiles v ≡ pos 0) → (v : ℕ) → new.volatiles v ≡ pos 0)
        → ((u : ℕ) → act_forks u act ≡ false) → ((u : ℕ) → act_joins u act ≡ false)
        → ((m : ℕ) (held : Hold) → act_leaves m t act held ≡ held)
        → new.threads ≡ now.threads → new.monitors ≡ now.monitors →
        Step trace_setting now (record { thread = t; event = Does act }) (pos 0) new → ActRun steps t act now
    quiet_run act new calm forks joins leaves threads monitors step = record {
      new = new;
      step = step;
      calm = calm;
      state = quiet_state steps (t, Acts act) now new k forks joins leaves (λ u. ap (λ f. f u) threads) (λ m. ap (λ f. f m) monitors);
      same = λ u. ap (λ f. f u) threads;
      kept = kept_quiet steps (t, Acts act) kept joins leaves;
    }

    -- so it does a read of a volatile that has the value 0
    pub run_vread : (v : ℕ) → now.volatiles v ≡ pos 0 → ActRun steps t (VRead v) now
    run_vread v word = quiet_run (VRead v) now (λ q. q) (λ u. refl) (λ u. refl) (λ m held. refl) refl refl
        (record { may = running; effect = (sym word, refl) })

    -- so it does a write of a volatile
    pub run_vwrite : (v : ℕ) → ActRun steps t (VWrite v) now
    run_vwrite v = quiet_run (VWrite v) (record now { volatiles = with_at now.volatiles v (pos 0) }) (λ q w. written w (w == v) (q w))
        (λ u. refl) (λ u. refl) (λ m held. refl) refl refl (record { may = running; effect = refl })
      where
        written : (w : ℕ) (b : Bool) → now.volatiles w ≡ pos 0 → (if b then pos 0 else now.volatiles w) ≡ pos 0
        written w true e = refl
        written w false e = e
