-- Which instruction made an entry of a thread's list.
use Rattle.std.specs.Prelude.{◌≡◌, ℕ, ◌⊎◌, List, take, Some}
use Rattle.gl_model.specs.Entries.{Entry}
use Rattle.gl_model.specs.Form.{IsOver, IsTrim}
use Rattle.gl_model.specs.Records.{At}
use Rattle.gl_bytecode.specs.declared.ask.Stage.{Stage}
use Rattle.gl_bytecode.specs.declared.ask.Stage.TheVariants.{New, Begins, Runs, Waits, Drops, Leaves, Ends, Over}
use Rattle.gl_bytecode.specs.Programs.{Bytecode}
use Rattle.gl_bytecode.specs.Runs.{Along, Made, Progress, told_one}

-- the machine of thread t has made the entries before place n and is at p, where the entry at n answers it
pub record IsAnswered (P : Bytecode) (steps t : ℕ) (list : List Entry) (n : ℕ) (p : Progress) : Type 0 where
  pub entry : Entry
  pub next : Progress
  pub there : At list n entry
  pub along : Along P steps t (take n list) p
  pub answered : told_one P (Made entry) p ≡ Some next

-- the instruction at the frame's place has asked, or ended the attempt that runs: it raised an exception, or no step was left for it
abbrev pub IsOfInstruction : Stage → Type 0
IsOfInstruction New = ⊥
IsOfInstruction Begins = ⊥
IsOfInstruction Runs = ⊥
IsOfInstruction (Waits ask) = Unit {0}
IsOfInstruction (Drops failure) = Unit {0}
IsOfInstruction (Leaves ending o) = ⊥
IsOfInstruction (Ends ending) = ⊥
IsOfInstruction (Over ending) = ⊥

-- the entry at n was made by the instruction at place i of function f
pub record IsMadeAt (P : Bytecode) (steps t : ℕ) (list : List Entry) (n f i : ℕ) : Type 0 where
  pub asking : Progress
  pub is : IsAnswered P steps t list n asking
  pub by : IsOfInstruction asking.config.stage
  pub function : asking.config.frame.function ≡ f
  pub place : asking.config.frame.place ≡ i

-- the thread's machine made the entry at n without an instruction: to begin, to leave a monitor at its end, or to end
pub record IsMadeByNone (P : Bytecode) (steps t : ℕ) (list : List Entry) (n : ℕ) : Type 0 where
  pub asking : Progress
  pub is : IsAnswered P steps t list n asking
  pub by_none : IsOfInstruction asking.config.stage → ⊥

-- the entry at n tells how far the list was trimmed, or how the thread ended: no machine made it
pub record IsNote (list : List Entry) (n : ℕ) : Type 0 where
  pub entry : Entry
  pub there : At list n entry
  pub note : IsTrim entry ⊎ IsOver entry
