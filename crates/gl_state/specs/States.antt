-- The list's state as the machine's.
use Rattle.std.specs.Prelude.{◌≡◌, ℕ, pos, Option, Some, None, slice_index_or, ◌⊎◌}
use Rattle.gl_model.specs.Machine.{ThreadState, NeverForked, Forked, Running, Ended, MonitorState, Free, Owned, State}
use Rattle.gl_state.specs.declared.state.Stage.{Stage}
use Rattle.gl_state.specs.declared.state.Stage.TheVariants as stage
use Rattle.gl_state.specs.ListView.{ListView}

abbrev pub thread_state : Stage → ThreadState
thread_state stage.Never = NeverForked
thread_state (stage.Forked func value) = Forked func value
thread_state stage.Running = Running
thread_state stage.Ended = Ended

abbrev pub monitor_state : Option (ℕ × ℕ) → MonitorState
monitor_state None = Free
monitor_state (Some o) = Owned o.0 o.1

-- the list's state is that of the machine, the output left out
pub record IsStateOf (l : ListView) (now : State) : Type 0 where
  pub threads : (t : ℕ) → now.threads t ≡ thread_state (slice_index_or l.threads t stage.Never)
  pub monitors : (o : ℕ) → now.monitors o ≡ monitor_state (slice_index_or l.monitors o None)
  pub volatiles : (x : ℕ) → now.volatiles x ≡ slice_index_or l.volatiles x (pos 0)
  pub next_object : now.next_object ≡ l.next_object
  pub next_variable : now.next_variable ≡ l.next_variable
  pub next_volatile : now.next_volatile ≡ l.next_volatile
  pub inputs_taken : now.inputs_taken ≡ l.inputs_taken

-- no thread is live
abbrev pub IsQuiet : State → Type 0
IsQuiet now = (t : ℕ) → (now.threads t ≡ NeverForked) ⊎ (now.threads t ≡ Ended)
