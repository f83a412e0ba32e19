-- What a machine asks for is there, and its work comes to an end.
use Rattle.std.specs.Prelude.{◌≡◌, ℕ, pos, ◌+◌, ◌<◌, sum, List, length, Some}
use Rattle.gl_model.specs.declared.limits.TheConstants.{MONITORS, THREADS, VARIABLES, VOLATILES}
use Rattle.gl_bytecode.specs.declared.ask.Ask.{Ask}
use Rattle.gl_bytecode.specs.declared.ask.Ask.TheVariants.{Go, Begin, End, Over, Read, Write, VRead, VWrite, Enter, Exit, Fork, Join, Alloc, Print, Input, TxBegin, TxEnd}
use Rattle.gl_bytecode.specs.declared.ask.Failure.TheVariants.{Raises, Spends}
use Rattle.gl_bytecode.specs.declared.ask.Stage.{Stage}
use Rattle.gl_bytecode.specs.declared.ask.Stage.TheVariants.{New, Begins, Runs, Waits, Drops, Leaves, Ends, Over as IsOver}
use Rattle.gl_bytecode.specs.declared.ask.Reply.{Reply}
use Rattle.gl_bytecode.specs.declared.ask.Reply.TheVariants.{Go as Gone}
use Rattle.gl_bytecode.specs.Machine.{Config, levels_after}
use Rattle.gl_model.specs.Machine.{ThreadState, Forked, Running, Ended}
use Rattle.gl_bytecode.specs.Programs.{Bytecode, Function, function_at}

-- the variable, volatile, monitor, thread, class or function that the ask names is there
abbrev pub AsksInRange : Bytecode → Ask → Type 0
AsksInRange P (Read x) = x < VARIABLES
AsksInRange P (Write x a) = x < VARIABLES
AsksInRange P (VRead v) = v < VOLATILES
AsksInRange P (VWrite v a) = v < VOLATILES
AsksInRange P (Enter o) = o < MONITORS
AsksInRange P (Exit o) = o < MONITORS
AsksInRange P (Fork f a) = (F : Function) × (function_at P f ≡ Some F) × (F.args ≡ 1)
AsksInRange P (Join u) = u < THREADS
AsksInRange P (Alloc c) = c < length P.classes
AsksInRange P Go = Unit {0}
AsksInRange P Begin = Unit {0}
AsksInRange P End = Unit {0}
AsksInRange P (Over ending) = Unit {0}
AsksInRange P (Print a) = Unit {0}
AsksInRange P Input = Unit {0}
AsksInRange P TxBegin = Unit {0}
AsksInRange P (TxEnd keep) = Unit {0}

-- how many more answers a machine takes at most for what it has counted: one for each level that it has to leave, and
-- those that its stage leads to
abbrev pub stage_due : Stage → ℕ
stage_due New = 5
stage_due Begins = 4
stage_due Runs = 3
stage_due (Waits ask) = 5
stage_due (Drops (Raises code)) = 4
stage_due (Drops Spends) = 2
stage_due (Leaves ending o) = 1
stage_due (Ends ending) = 1
stage_due (IsOver ending) = 0

abbrev pub due : Config → ℕ
due c = sum c.levels + stage_due c.stage

-- the levels after a reply
abbrev pub levels_told : Ask → Reply → List ℕ → List ℕ
levels_told ask Gone levels = levels_after ask levels
levels_told ask _ levels = levels

-- what a thread is to the others while its machine is at this stage
abbrev pub state_at : ℕ → Stage → ThreadState
state_at main New = Forked main (pos 0)
state_at main Begins = Forked main (pos 0)
state_at main Runs = Running
state_at main (Waits ask) = Running
state_at main (Drops failure) = Running
state_at main (Leaves ending o) = Running
state_at main (Ends ending) = Running
state_at main (IsOver ending) = Ended

-- what it becomes by an answer to the ask
abbrev pub state_told : Ask → ThreadState → ThreadState
state_told Begin state = Running
state_told End state = Ended
state_told Go state = state
state_told (Over ending) state = state
state_told (Read x) state = state
state_told (Write x a) state = state
state_told (VRead v) state = state
state_told (VWrite v a) state = state
state_told (Enter o) state = state
state_told (Exit o) state = state
state_told (Fork f a) state = state
state_told (Join u) state = state
state_told (Alloc c) state = state
state_told (Print a) state = state
state_told Input state = state
state_told TxBegin state = state
state_told (TxEnd keep) state = state

-- the ask does not begin an attempt
abbrev pub BeginsNone : Ask → Type 0
BeginsNone TxBegin = ⊥
BeginsNone Go = Unit {0}
BeginsNone Begin = Unit {0}
BeginsNone End = Unit {0}
BeginsNone (Over ending) = Unit {0}
BeginsNone (Read x) = Unit {0}
BeginsNone (Write x a) = Unit {0}
BeginsNone (VRead v) = Unit {0}
BeginsNone (VWrite v a) = Unit {0}
BeginsNone (Enter o) = Unit {0}
BeginsNone (Exit o) = Unit {0}
BeginsNone (Fork f a) = Unit {0}
BeginsNone (Join u) = Unit {0}
BeginsNone (Alloc c) = Unit {0}
BeginsNone (Print a) = Unit {0}
BeginsNone Input = Unit {0}
BeginsNone (TxEnd keep) = Unit {0}
