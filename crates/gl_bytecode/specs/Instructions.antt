-- The instruction table, first part: what an instruction takes off the stack, what it puts there, where it leads and what it names.
-- The validator and the machine both read it.
use Rattle.std.specs.Prelude.{ℕ, ◌+◌, Bool, true, false, List, [], ◌∷◌, Option, Some, None}
use Rattle.gl_bytecode.specs.Programs.{Bytecode, Function, function_at}
use Rattle.gl_bytecode.specs.declared.instr.Flow.{Flow}
use Rattle.gl_bytecode.specs.declared.instr.Flow.TheVariants.{Leaves, Next, Always, Either}
use Rattle.gl_bytecode.specs.declared.instr.Instr.{Instr}
use Rattle.gl_bytecode.specs.declared.instr.Instr.TheVariants.{Push, Pop, Dup, Swap, Load, Store, Inc, Add, Sub, Mul, Div, Rem, Neg, Eq, Lt, Le, Not, And, Or, Xor, Jump, Jz, Jnz, Call, Ret, Halt, Throw, Nop, New, Get, Put, Vget, Vput, Enter, Exit, Fork, Join, SelfId, Txbegin, Commit, Print, Input}

-- what is taken off the stack: so many values, or the arguments of a function
pub data Operands : Type 0 where
  Values : (n : ℕ) → Operands
  Arguments : (f : ℕ) → Operands

-- where it may be run: outside of transactions, in one, or in both
pub data Region : Type 0 where
  Anywhere : Region
  Outside : Region
  Inside : Region

-- what an instruction names: a local, a place of its function, a function, one with one argument, a class, or the code that it throws
pub data Named : Type 0 where
  Nothing : Named
  Local : (k : ℕ) → Named
  Place : (to : ℕ) → Named
  Called : (f : ℕ) → Named
  Forked : (f : ℕ) → Named
  Class : (c : ℕ) → Named
  Thrown : (code : ℕ) → Named

pub record Effect : Type 0 where
  pub takes : Operands
  -- how many values stand in their place afterwards
  pub leaves : ℕ
  -- how it goes on within its function
  pub onward : Flow
  pub region : Region
  pub names : Named

abbrev pub does : Operands → ℕ → Flow → Region → Named → Effect
does takes leaves onward region names = record { takes = takes; leaves = leaves; onward = onward; region = region; names = names }

-- what each takes off the stack and leaves there, how it goes on, where it may be run, and what it names
abbrev pub effect : Instr → Effect
effect (Push n) = does (Values 0) 1 Next Anywhere Nothing
effect Pop = does (Values 1) 0 Next Anywhere Nothing
effect Dup = does (Values 1) 2 Next Anywhere Nothing
effect Swap = does (Values 2) 2 Next Anywhere Nothing
effect (Load k) = does (Values 0) 1 Next Anywhere (Local k)
effect (Store k) = does (Values 1) 0 Next Anywhere (Local k)
effect (Inc k n) = does (Values 0) 0 Next Anywhere (Local k)
effect Add = does (Values 2) 1 Next Anywhere Nothing
effect Sub = does (Values 2) 1 Next Anywhere Nothing
effect Mul = does (Values 2) 1 Next Anywhere Nothing
effect Div = does (Values 2) 1 Next Anywhere Nothing
effect Rem = does (Values 2) 1 Next Anywhere Nothing
effect Neg = does (Values 1) 1 Next Anywhere Nothing
effect Eq = does (Values 2) 1 Next Anywhere Nothing
effect Lt = does (Values 2) 1 Next Anywhere Nothing
effect Le = does (Values 2) 1 Next Anywhere Nothing
effect Not = does (Values 1) 1 Next Anywhere Nothing
effect And = does (Values 2) 1 Next Anywhere Nothing
effect Or = does (Values 2) 1 Next Anywhere Nothing
effect Xor = does (Values 2) 1 Next Anywhere Nothing
effect (Jump to) = does (Values 0) 0 (Always to) Anywhere (Place to)
effect (Jz to) = does (Values 1) 0 (Either to) Anywhere (Place to)
effect (Jnz to) = does (Values 1) 0 (Either to) Anywhere (Place to)
effect (Call f) = does (Arguments f) 1 Next Anywhere (Called f)
effect Ret = does (Values 1) 0 Leaves Anywhere Nothing
effect Halt = does (Values 0) 0 Leaves Outside Nothing
effect (Throw code) = does (Values 0) 0 Leaves Anywhere (Thrown code)
effect Nop = does (Values 0) 0 Next Anywhere Nothing
effect (New c) = does (Values 0) 1 Next Outside (Class c)
effect (Get k) = does (Values 1) 1 Next Anywhere Nothing
effect (Put k) = does (Values 2) 0 Next Anywhere Nothing
effect (Vget k) = does (Values 1) 1 Next Outside Nothing
effect (Vput k) = does (Values 2) 0 Next Outside Nothing
effect Enter = does (Values 1) 0 Next Outside Nothing
effect Exit = does (Values 1) 0 Next Outside Nothing
effect (Fork f) = does (Values 1) 1 Next Outside (Forked f)
effect Join = does (Values 1) 0 Next Outside Nothing
effect SelfId = does (Values 0) 1 Next Anywhere Nothing
effect Txbegin = does (Values 0) 0 Next Outside Nothing
effect Commit = does (Values 0) 0 Next Inside Nothing
effect Print = does (Values 1) 0 Next Outside Nothing
effect Input = does (Values 0) 1 Next Outside Nothing

-- how many arguments a function has, where it is there
abbrev pub args_of : Option Function → ℕ
args_of (Some F) = F.args
args_of None = 0

-- how many values they are
abbrev pub number_taken : Bytecode → Operands → ℕ
number_taken P (Values n) = n
number_taken P (Arguments f) = args_of (function_at P f)

-- how many operands it takes
abbrev pub needs : Bytecode → Instr → ℕ
needs P i = number_taken P (effect i).takes

-- how many values stand in their place afterwards
abbrev pub gives : Instr → ℕ
gives i = (effect i).leaves

abbrev pub is_outside : Region → Bool
is_outside Anywhere = false
is_outside Outside = true
is_outside Inside = false

abbrev pub is_inside : Region → Bool
is_inside Anywhere = false
is_inside Outside = false
is_inside Inside = true

-- the instructions that a transaction refuses
abbrev pub is_barred : Instr → Bool
is_barred i = is_outside (effect i).region

-- those that are refused outside of one
abbrev pub wants_attempt : Instr → Bool
wants_attempt i = is_inside (effect i).region

-- how it goes on within its function
abbrev pub flow : Instr → Flow
flow i = (effect i).onward

-- what it names
abbrev pub named_by : Instr → Named
named_by i = (effect i).names

-- the places after a place, by how it goes on there
abbrev pub places_after : Flow → ℕ → List ℕ
places_after Leaves at = []
places_after Next at = (at + 1) ∷ []
places_after (Always to) at = to ∷ []
places_after (Either to) at = to ∷ (at + 1) ∷ []

-- where its function may go on after the instruction at a place
abbrev pub successors : Instr → ℕ → List ℕ
successors i at = places_after (flow i) at
