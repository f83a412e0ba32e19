-- What holds of each machine that grew from a new one, whatever its program is.
use Rattle.std.specs.Prelude.{◌≡◌, ℕ, ◌<◌, ◌≤◌, true, is_some, length, List, slice_index, Option, Some}
use Rattle.gl_bytecode.specs.declared.ask.Ask.{Ask}
use Rattle.gl_bytecode.specs.declared.ask.Ask.TheVariants.{Go, Begin, End, Over, Read, Write, VRead, VWrite, Enter as AskEnter, Exit as AskExit, Fork as AskFork, Join as AskJoin, Alloc, Print as AskPrint, Input as AskInput, TxBegin, TxEnd}
use Rattle.gl_bytecode.specs.declared.ask.Stage.{Stage}
use Rattle.gl_bytecode.specs.declared.ask.Stage.TheVariants.{Waits, Drops, Leaves}
use Rattle.gl_bytecode.specs.declared.instr.Instr.{Instr}
use Rattle.gl_bytecode.specs.declared.instr.Instr.TheVariants.{Fork, Join, Txbegin, Commit}
use Rattle.gl_bytecode.specs.Machine.{Attempt, Config}
use Rattle.gl_bytecode.specs.Programs.{Bytecode, instr_at}

-- no instruction asks this but the one that is meant
abbrev pub IsAskedBy : Instr → Ask → Type 0
IsAskedBy i Go = ⊥
IsAskedBy i Begin = ⊥
IsAskedBy i End = ⊥
IsAskedBy i (Over ending) = ⊥
IsAskedBy i (Read x) = Unit {0}
IsAskedBy i (Write x a) = Unit {0}
IsAskedBy i (VRead v) = Unit {0}
IsAskedBy i (VWrite v a) = Unit {0}
IsAskedBy i (AskEnter o) = Unit {0}
IsAskedBy i (AskExit o) = Unit {0}
IsAskedBy i (AskFork f a) = i ≡ Fork f
IsAskedBy i (AskJoin u) = i ≡ Join
IsAskedBy i (Alloc c) = Unit {0}
IsAskedBy i (AskPrint a) = Unit {0}
IsAskedBy i AskInput = Unit {0}
IsAskedBy i TxBegin = i ≡ Txbegin
IsAskedBy i (TxEnd keep) = i ≡ Commit

-- an attempt that is asked to end runs
abbrev pub EndsWhatRuns : Ask → Option Attempt → Type 0
EndsWhatRuns (TxEnd keep) attempt = is_some attempt ≡ true
EndsWhatRuns Go attempt = Unit {0}
EndsWhatRuns Begin attempt = Unit {0}
EndsWhatRuns End attempt = Unit {0}
EndsWhatRuns (Over ending) attempt = Unit {0}
EndsWhatRuns (Read x) attempt = Unit {0}
EndsWhatRuns (Write x a) attempt = Unit {0}
EndsWhatRuns (VRead v) attempt = Unit {0}
EndsWhatRuns (VWrite v a) attempt = Unit {0}
EndsWhatRuns (AskEnter o) attempt = Unit {0}
EndsWhatRuns (AskExit o) attempt = Unit {0}
EndsWhatRuns (AskFork f a) attempt = Unit {0}
EndsWhatRuns (AskJoin u) attempt = Unit {0}
EndsWhatRuns (Alloc c) attempt = Unit {0}
EndsWhatRuns (AskPrint a) attempt = Unit {0}
EndsWhatRuns AskInput attempt = Unit {0}
EndsWhatRuns TxBegin attempt = Unit {0}

-- the monitor is there and was entered
pub record IsEntered (levels : List ℕ) (o : ℕ) : Type 0 where
  pub there : o < length levels
  pub entered : 0 < slice_index levels o

-- the instruction at the place has asked this
pub record WaitsRightly (P : Bytecode) (c : Config) (ask : Ask) : Type 0 where
  pub instr : Instr
  pub there : instr_at P c.frame.function c.frame.place ≡ Some instr
  pub asks : IsAskedBy instr ask
  pub attempt : EndsWhatRuns ask c.attempt

-- an instruction waits, an attempt runs, or a monitor is left that was entered
abbrev pub StageIsOrderly : Bytecode → Config → Stage → Type 0
StageIsOrderly P c (Waits ask) = WaitsRightly P c ask
StageIsOrderly P c (Drops failure) = is_some c.attempt ≡ true
StageIsOrderly P c (Leaves ending o) = IsEntered c.levels o
StageIsOrderly P c _ = Unit {0}

pub record IsOrderly (P : Bytecode) (c : Config) : Type 0 where
  pub within : c.counted ≤ c.limit
  pub stage : StageIsOrderly P c c.stage
