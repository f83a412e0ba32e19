-- The longest beginning of a thread's list that its machine makes.
use Rattle.std.specs.Prelude.{◌≡◌, ◌≢◌, ℕ, ℤ, ◌<◌, ◌≤◌, List, [], length, take}
use Rattle.gl_model.specs.Entries.{Entry, Sync}
use Rattle.gl_model.specs.declared.event.Act.TheVariants.{Begin}
use Rattle.gl_model.specs.Records.{At, Lists, Place}
use Rattle.gl_bytecode.specs.declared.ask.Reply.TheVariants.{Start}
use Rattle.gl_bytecode.specs.Fits.{StartsRight}
use Rattle.gl_bytecode.specs.Programs.{Bytecode}
use Rattle.gl_bytecode.specs.Runs.{Along, Progress, Runs}

-- the machine of thread t makes the first n entries; a Trim is an entry too, though no machine makes it: it is passed over
abbrev pub IsMadeUpTo : Bytecode → ℕ → ℕ → List Entry → ℕ → Type 0
IsMadeUpTo P steps t es n = (p : Progress) × Along P steps t (take n es) p

-- the list is not what the machine makes, and this is how long its longest beginning is that it makes
pub record ProgramFails (P : Bytecode) (steps t : ℕ) (es : List Entry) (n : ℕ) : Type 0 where
  pub within : n ≤ length es
  pub made : IsMadeUpTo P steps t es n
  pub longest : (m : ℕ) → n < m → m ≤ length es → IsMadeUpTo P steps t es m → ⊥
  pub not_whole : Runs P steps t es → ⊥

-- the thread has a list, which fails the program at this place
abbrev pub ProgramFailsAt : Bytecode → ℕ → Lists → Place → Type 0
ProgramFailsAt P steps R c = (R c.thread ≢ []) × ProgramFails P steps c.thread (R c.thread) c.index

-- each thread begins in a function that is there and takes one argument at most, as the steps of the one-memory machine give it
abbrev pub BeginsAreRight : Bytecode → Lists → Type 0
BeginsAreRight P R = (t i at f : ℕ) (value : ℤ) → At (R t) i (Sync at (Begin f) value) → StartsRight P (Start f value)

-- a beginning of what the machine makes is made
abbrev pub BeginningsAreMade : Type 0
BeginningsAreMade =
    (P : Bytecode) (steps t : ℕ) (es : List Entry) (m n : ℕ) → m ≤ n → IsMadeUpTo P steps t es n → IsMadeUpTo P steps t es m

-- a list fails its program at one length
abbrev pub OneLength : Type 0
OneLength =
    (P : Bytecode) (steps t : ℕ) (es : List Entry) (m n : ℕ) → ProgramFails P steps t es m → ProgramFails P steps t es n → m ≡ n

-- no list is both what its machine makes and fails its program
abbrev pub RunsOrFails : Type 0
RunsOrFails = (P : Bytecode) (steps t : ℕ) (es : List Entry) (n : ℕ) → Runs P steps t es → ProgramFails P steps t es n → ⊥
