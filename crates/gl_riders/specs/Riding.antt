-- What holds of a thread's machine, its pass and its attempt while it runs.
use Rattle.std.specs.Prelude.{◌≡◌, ℕ, ℤ, ◌^◌, ◌<◌, List, [], map, is_some, Option, Some, None}
use Rattle.atomic_table.specs.Seated.{TableId}
use Rattle.gl_model.specs.Machine.{Setting, ThreadState, NeverForked, Forked, Running as IsRunning, Ended as HasEnded}
use Rattle.gl_bytecode.specs.declared.ask.Stage.{Stage}
use Rattle.gl_bytecode.specs.Fits.{Fits}
use Rattle.gl_bytecode.specs.Lawful.{setting_of}
use Rattle.gl_bytecode.specs.Machine.{Config, ask_of}
use Rattle.gl_bytecode.specs.Programs.{Bytecode}
use Rattle.gl_bytecode.specs.Runs.{Along, Progress}
use Rattle.gl_vm.specs.Asking.{AsksInRange, state_at}
use Rattle.gl_vm.specs.Orderly.{IsOrderly}
use Rattle.gl_rule.specs.Lives.{Life, Unbegun, Running, Ended, life_of}
use Rattle.gl_table.specs.PassView.{Own}
use Rattle.gl_txn.specs.Attempts.{Attempting}
use Rattle.gl_txn.specs.Trying.{Draws}
use Rattle.gl_rule.specs.Levels.{levels_of}
use Rattle.gl_riders.specs.Sparing.{Spares}

-- the words of an attempt as the definition of runs has them
abbrev pub looks_of : Option Attempting → List (ℕ × ℤ)
looks_of None = []
looks_of (Some a) = map (λ l. (l.var, l.value)) a.looks

abbrev pub writes_of : Option Attempting → List (ℕ × ℤ)
writes_of None = []
writes_of (Some a) = map (λ w. (w.var, w.value)) a.writes

-- what the pass drew is what the attempt's looks have, and nothing where none runs
abbrev pub DrawsFor : Option Attempting → Own → Type 0
DrawsFor None v = v.drawn ≡ []
DrawsFor (Some a) v = Draws a v

abbrev pub progress_of : Config → Option Attempting → Progress
progress_of c txn = record { config = c; looks = looks_of txn; writes = writes_of txn }

-- how far the list of a thread is whose machine is at this stage
abbrev pub life_of_state : ThreadState → Life
life_of_state NeverForked = Unbegun
life_of_state (Forked f a) = Unbegun
life_of_state IsRunning = Running
life_of_state HasEnded = Ended

abbrev pub life_at : Stage → Life
life_at stage = life_of_state (state_at 0 stage)

-- the table is set up for the program
abbrev pub IsSetFor : Bytecode → Setting → Type 0
IsSetFor P setting = setting ≡ setting_of P setting.inputs

-- the list so far is what the machine makes of the answers so far
pub record Rides (P : Bytecode) (id : TableId) (c : Config) (own : Own) (txn : Option Attempting) : Type 0 where
  pub along : Along P c.limit own.id own.mine (progress_of c txn)
  pub short : c.limit < 2 ^ 32
  pub fits : Fits P c
  pub orderly : IsOrderly P c
  pub in_range : AsksInRange P (ask_of c.stage)
  pub running : is_some txn ≡ is_some c.attempt
  pub life : life_of own.mine ≡ life_at c.stage
  pub levels : levels_of own.mine ≡ c.levels
  pub table : own.table ≡ id
  pub held : own.held ≡ []
  pub spares : Spares own.mine
  pub drawn : DrawsFor txn own
