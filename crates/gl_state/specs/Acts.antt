-- What the list's state says of its threads, monitors, words and numbers, and what it becomes by an act.
use Rattle.std.specs.Prelude.{◌≡◌, ◌≢◌, ℕ, ℤ, pos, Bool, true, false, ◌+◌, ◌*◌, ◌^◌, ◌<◌, ◌≤◌, ◌==◌, if◌then◌else◌, length, Option, Some, None, slice_index_or, slice_set}
use Rattle.gl_model.specs.declared.limits.TheConstants.{THREADS, MONITORS, VOLATILES, VARIABLES}
use Rattle.gl_state.specs.declared.state.Stage.{Stage}
use Rattle.gl_state.specs.declared.state.Stage.TheVariants as stage
use Rattle.gl_state.specs.Entering.{monitor_of}
use Rattle.gl_state.specs.ListView.{ListView}

abbrev pub stage_of : ListView → ℕ → Stage
stage_of l t = slice_index_or l.threads t stage.Never

abbrev pub word_in : ListView → ℕ → ℤ
word_in l v = slice_index_or l.volatiles v (pos 0)

-- forked, and not ended
abbrev pub is_live : Stage → Bool
is_live stage.Never = false
is_live (stage.Forked func value) = true
is_live stage.Running = true
is_live stage.Ended = false

-- the least thread but 0 that was never forked
pub record IsLeastNew (l : ListView) (u : ℕ) : Type 0 where
  pub some : 0 < u
  pub near : u < THREADS
  pub new : stage_of l u ≡ stage.Never
  pub least : (w : ℕ) → 0 < w → w < u → stage_of l w ≢ stage.Never

-- an object with so many data fields and volatile fields can be made
pub record HasRoom (l : ListView) (fields : ℕ × ℕ) : Type 0 where
  pub object : l.next_object < MONITORS
  pub variables : l.next_variable + fields.0 ≤ VARIABLES
  pub volatiles : l.next_volatile + fields.1 ≤ VOLATILES

-- the reference of the next object, of class c
abbrev pub reference_in : ListView → ℕ → ℕ
reference_in l c = 1 + l.next_object + 2 ^ 8 * c + 2 ^ 16 * l.next_variable + 2 ^ 32 * l.next_volatile

-- thread t comes to this stage
abbrev pub with_stage : ListView → ℕ → Stage → ListView
with_stage l t s = record l { threads = slice_set l.threads t s }

-- the volatile has this word
abbrev pub with_word : ListView → ℕ → ℤ → ListView
with_word l v value = record l { volatiles = slice_set l.volatiles v value }

-- an object was made
abbrev pub with_object : ListView → ℕ × ℕ → ListView
with_object l fields = record l {
  next_object = l.next_object + 1;
  next_variable = l.next_variable + fields.0;
  next_volatile = l.next_volatile + fields.1;
}

-- a number was taken of the inputs
abbrev pub with_input : ListView → ListView
with_input l = record l { inputs_taken = l.inputs_taken + 1 }

-- owner and depth, left once
abbrev pub left_as : ℕ → ℕ → Option (ℕ × ℕ)
left_as t depth = if depth == 0 then None else Some (t, depth)

-- thread t leaves the monitor once
pub record Leaves (t o : ℕ) (l l' : ListView) : Type 0 where
  pub near : o < length l.monitors
  pub depth : ℕ
  pub owned : monitor_of l o ≡ Some (t, depth + 1)
  pub is : l' ≡ record l { monitors = slice_set l.monitors o (left_as t depth) }
