-- Entering a monitor is a step of the machine.
use Rattle.std.proofs.Common.{◌≡◌, ◌≢◌, ℕ, zero, suc, ◌<◌, List, [], ◌∷◌, length, refl, sym, ap, subst, arith, ◌∙◌, Some, None}
use Rattle.std.specs.Prelude.{pos, slice_index_or, slice_set, Option}
use native.Mathlib.Decide.{ℕ_discrete}
use Rattle.gl_model.specs.declared.event.Act.TheVariants.{Acq}
use Rattle.gl_model.specs.declared.event.Event.TheVariants.{Act as Does}
use Rattle.gl_model.specs.Machine.{Setting, State, Step, Running, MonitorState, Owned, Entered, with_at}
use Rattle.gl_draws.proofs.DrawTies.{with_here, with_else}
use Rattle.gl_state.specs.Entering.{EnteredAs, monitor_of, Enters}
use Rattle.gl_state.specs.ListView.{ListView}
use Rattle.gl_state.specs.States.{IsStateOf, monitor_state}

-- what was set at a place is what stands there
index_here : (l : List (Option (ℕ × ℕ))) (o : ℕ) (x : Option (ℕ × ℕ)) → o < length l → slice_index_or (slice_set l o x) o None ≡ x
index_here [] o x near = absurd (omega arith)
index_here (y ∷ l) zero x near = refl
index_here (y ∷ l) (suc o) x near = index_here l o x (omega arith)

-- setting one place leaves another as it was
index_else : (l : List (Option (ℕ × ℕ))) (o k : ℕ) (x : Option (ℕ × ℕ)) → k ≢ o → slice_index_or (slice_set l o x) k None
    ≡ slice_index_or l k None
index_else [] o k x ne = refl
index_else (y ∷ l) zero zero x ne = absurd (ne refl)
index_else (y ∷ l) zero (suc k) x ne = refl
index_else (y ∷ l) (suc o) zero x ne = refl
index_else (y ∷ l) (suc o) (suc k) x ne = index_else l o k x (λ e. ne (ap suc e))

-- a monitor that was entered in the list's state was entered in the machine's, by the same thread
entered_state : (t : ℕ) (old : Option (ℕ × ℕ)) (m : ℕ × ℕ) → EnteredAs t old m → (Entered t (monitor_state old) (Owned m.0 m.1)) × (m.0 ≡ t)
entered_state t None m e = (ap (λ (n : ℕ × ℕ). Owned n.0 n.1) e, ap (λ (n : ℕ × ℕ). n.0) e)
entered_state t (Some o) m e = ((e.0, ap (λ (n : ℕ × ℕ). Owned n.0 n.1) e.1), ap (λ (n : ℕ × ℕ). n.0) e.1)

-- entering a monitor is a step of the machine, for a running thread
pub enters_step : (setting : Setting) (t o : ℕ) (l l' : ListView) (now : State) → now.threads t ≡ Running → IsStateOf l now
    → Enters t o l l'
    → (new : State) × Step setting now (record { thread = t; event = Does (Acq o) }) (pos 0) new × IsStateOf l' new
enters_step setting t o l l' now runs is e =
    let m : MonitorState = Owned e.next.0 e.next.1 in
    let new : State = record now { monitors = with_at now.monitors o m } in
    let q = entered_state t (monitor_of l o) e.next e.entered in (
      new,
      record { may = runs; effect = (m, subst (λ z. Entered t z m) (sym (is.monitors o)) q.0, refl) },
      subst (λ z. IsStateOf z new) (sym e.is) (record {
        threads = is.threads;
        monitors = λ k. elim (ℕ_discrete k o) [
          | yes same ↦ subst (λ z. with_at now.monitors o m z
              ≡ monitor_state (slice_index_or (slice_set l.monitors o (Some e.next)) z None)) (sym same) (with_here now.monitors o m
              ∙ ap monitor_state (sym (index_here l.monitors o (Some e.next) e.near)))
          | no ne ↦ with_else now.monitors o k m ne ∙ is.monitors k ∙ ap monitor_state (sym (index_else l.monitors o k (Some e.next) ne))
        ];
        volatiles = is.volatiles;
        next_object = is.next_object;
        next_variable = is.next_variable;
        next_volatile = is.next_volatile;
        inputs_taken = is.inputs_taken;
      }),
    )
