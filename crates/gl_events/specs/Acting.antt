-- What a state of the list allows, and what it becomes.
use Rattle.std.specs.Prelude.{◌≡◌, ◌≢◌, ◌⊎◌, ℕ, ℤ, pos, ◌+◌, ◌<◌, length, slice_get, Contains, Some, None}
use Rattle.gl_model.specs.declared.event.Act.{Act}
use Rattle.gl_model.specs.declared.event.Act.TheVariants as act
use Rattle.gl_model.specs.declared.limits.TheConstants.{THREADS, FUNCTIONS, CLASSES, MONITORS, VOLATILES}
use Rattle.gl_model.specs.Machine.{Setting}
use Rattle.gl_state.specs.declared.state.Stage.TheVariants as stage
use Rattle.gl_state.specs.Acts.{stage_of, word_in, IsLeastNew, HasRoom, reference_in, with_stage, with_word, with_object, with_input, Leaves}
use Rattle.gl_state.specs.Entering.{monitor_of, IsShallow, Enters}
use Rattle.gl_state.specs.ListView.{ListView}
use Rattle.gl_events.specs.Calls.{IsFor, not_owner, heap_full, threads_full, input_end, bad_thread}
use Rattle.gl_events.specs.declared.call.Call.{Call}
use Rattle.gl_events.specs.declared.call.Plan.{Plan}

-- thread t is not in the monitor
abbrev pub IsOutside : ListView → ℕ → ℕ → Type 0
IsOutside l t o = (depth : ℕ) → monitor_of l o ≡ Some (t, depth) → ⊥

-- nobody but thread t is in the monitor
abbrev pub IsFreeFor : ListView → ℕ → ℕ → Type 0
IsFreeFor l t o = (m : ℕ × ℕ) → monitor_of l o ≡ Some m → m.0 ≡ t

-- the threads but 0 were all forked
abbrev pub AllForked : ListView → Type 0
AllForked l = (w : ℕ) → 0 < w → w < THREADS → stage_of l w ≢ stage.Never

-- no object of class c fits
abbrev pub IsFull : Setting → ListView → ℕ → Type 0
IsFull setting l c = (fields : ℕ × ℕ) × (slice_get setting.classes c ≡ Some fields) × (HasRoom l fields → ⊥)

-- the state refuses with this code and value what thread t asked for
abbrev pub MayFail : Setting → ℕ → ListView → ℕ → ℤ → Type 0
MayFail setting t l code value =
    ((code ≡ not_owner) × ((o : ℕ) × (value ≡ pos o) × (o < MONITORS) × IsOutside l t o))
    ⊎ ((code ≡ heap_full) × ((c : ℕ) × (value ≡ pos c) × IsFull setting l c))
    ⊎ ((code ≡ threads_full) × (value ≡ pos 0) × AllForked l)
    ⊎ ((code ≡ input_end) × (value ≡ pos 0) × (slice_get setting.inputs l.inputs_taken ≡ None))
    ⊎ ((code ≡ bad_thread) × ((u : ℕ) × (value ≡ pos u) × (u < THREADS) × (stage_of l u ≡ stage.Never)))

-- the state allows the act of thread t, with this value
abbrev pub MayAct : Setting → ℕ → ListView → Act → ℤ → Type 0
MayAct setting t l (act.Begin f) value = (f < FUNCTIONS) × (stage_of l t ≡ stage.Forked f value) × (t ≡ 0 → value ≡ pos 0)
MayAct setting t l act.End value = value ≡ pos 0
MayAct setting t l (act.Acq o) value = (o < MONITORS) × (value ≡ pos 0) × IsShallow l o × IsFreeFor l t o
MayAct setting t l (act.Rel o) value = (o < MONITORS) × (value ≡ pos 0) × ((depth : ℕ) × (monitor_of l o ≡ Some (t, depth + 1)))
MayAct setting t l (act.VRead v) value = (v < VOLATILES) × (value ≡ word_in l v)
MayAct setting t l (act.VWrite v) value = v < VOLATILES
MayAct setting t l (act.Fork u f) value = (f < FUNCTIONS) × IsLeastNew l u × Contains setting.forkable f
MayAct setting t l (act.Join u) value = (u < THREADS) × (value ≡ pos 0) × (stage_of l u ≡ stage.Ended)
MayAct setting t l (act.Alloc c) value =
    (c < CLASSES) × ((fields : ℕ × ℕ) × (slice_get setting.classes c ≡ Some fields) × HasRoom l fields × (value ≡ pos (reference_in l c)))
MayAct setting t l act.Print value = Unit {0}
MayAct setting t l act.Input value = slice_get setting.inputs l.inputs_taken ≡ Some value
MayAct setting t l (act.Fail k) value = MayFail setting t l k value

-- the state l becomes l' by the act of thread t, with this value
abbrev pub Becomes : Setting → ℕ → Act → ℤ → ListView → ListView → Type 0
Becomes setting t (act.Begin f) value l l' = (t < length l.threads) × (l' ≡ with_stage l t stage.Running)
Becomes setting t act.End value l l' = (t < length l.threads) × (l' ≡ with_stage l t stage.Ended)
Becomes setting t (act.Acq o) value l l' = Enters t o l l'
Becomes setting t (act.Rel o) value l l' = Leaves t o l l'
Becomes setting t (act.VRead v) value l l' = l' ≡ l
Becomes setting t (act.VWrite v) value l l' = (v < length l.volatiles) × (l' ≡ with_word l v value)
Becomes setting t (act.Fork u f) value l l' = (u < length l.threads) × (l' ≡ with_stage l u (stage.Forked f value))
Becomes setting t (act.Join u) value l l' = l' ≡ l
Becomes setting t (act.Alloc c) value l l' = (fields : ℕ × ℕ) × (slice_get setting.classes c ≡ Some fields) × (l' ≡ with_object l fields)
Becomes setting t act.Print value l l' = l' ≡ l
Becomes setting t act.Input value l l' = l' ≡ with_input l
Becomes setting t (act.Fail k) value l l' = l' ≡ l

-- a thread may begin with the function: it is main, or one that a thread may be forked with
abbrev pub MayStart : Setting → ℕ → Type 0
MayStart setting f = (f ≡ setting.main) ⊎ Contains setting.forkable f

-- what is known of each state of the list that is taken: what threads may begin with, and that monitors are entered at least once
-- and not too often to be counted
pub record IsSound (setting : Setting) (t : ℕ) (l : ListView) : Type 0 where
  pub forked : (f : ℕ) (value : ℤ) → stage_of l t ≡ stage.Forked f value → (f < FUNCTIONS) × (t ≡ 0 → value ≡ pos 0)
  pub entered : (o : ℕ) (m : ℕ × ℕ) → monitor_of l o ≡ Some m → 0 < m.1
  pub shallow : (o : ℕ) → IsShallow l o

-- the act is one of the call, and the state allows it
abbrev pub IsPlan : Call → Setting → ℕ → ListView → Plan → Type 0
IsPlan c setting t l p = IsFor c p.act p.value × MayAct setting t l p.act p.value
