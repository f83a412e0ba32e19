-- What a valid program is.
use Rattle.std.specs.Prelude.{◌≡◌, ℕ, ◌+◌, ◌-◌, ◌<◌, ◌≤◌, length, slice_get, Option, Some}
use Rattle.std.specs.List.{AllByRecursion}
use Rattle.gl_bytecode.specs.declared.instr.Instr.{Instr}
use Rattle.gl_bytecode.specs.declared.limits.TheConstants.{CODE, LOCALS, OPERANDS}
use Rattle.gl_bytecode.specs.Instructions.{Named, Nothing, Local, Place, Called, Forked, Class, Thrown, gives, named_by, needs, successors}
use Rattle.gl_bytecode.specs.Programs.{Bytecode, Function, function_at}

-- the depth of the stack before the instruction of function f at a place, for those that are reached
abbrev pub Depths : Type 0
Depths = ℕ → ℕ → Option ℕ

-- the local, function or class that is named in function F is there; that a place is there follows from the depths
abbrev pub IsThere : Bytecode → Function → Named → Type 0
IsThere P F Nothing = Unit {0}
IsThere P F (Local k) = k < F.locals
IsThere P F (Place to) = Unit {0}
IsThere P F (Called f) = f < length P.functions
IsThere P F (Forked f) = (G : Function) × (function_at P f ≡ Some G) × (G.args ≡ 1)
IsThere P F (Class c) = c < length P.classes
IsThere P F (Thrown code) = Unit {0}

abbrev pub NamesWhatIs : Bytecode → Function → Instr → Type 0
NamesWhatIs P F i = IsThere P F (named_by i)

-- the instruction at a place that is reached at depth d
pub record Goes (P : Bytecode) (D : Depths) (f : ℕ) (F : Function) (at d : ℕ) : Type 0 where
  pub instr : Instr
  pub there : slice_get F.code at ≡ Some instr
  pub names : NamesWhatIs P F instr
  pub operands : needs P instr ≤ d
  pub room : (d - needs P instr) + gives instr ≤ OPERANDS
  pub onward : AllByRecursion (λ to. D f to ≡ Some ((d - needs P instr) + gives instr)) (successors instr at)

pub record IsSound (P : Bytecode) (D : Depths) : Type 0 where
  pub main : (F : Function) × (function_at P P.main ≡ Some F) × (F.args ≡ 0)
  pub short : (f : ℕ) (F : Function) → function_at P f ≡ Some F → length F.code ≤ CODE
  pub locals : (f : ℕ) (F : Function) → function_at P f ≡ Some F → (F.args ≤ F.locals) × (F.locals ≤ LOCALS)
  pub starts : (f : ℕ) (F : Function) → function_at P f ≡ Some F → D f 0 ≡ Some 0
  pub handles : (f : ℕ) (F : Function) → function_at P f ≡ Some F → AllByRecursion (λ c. D f c.target ≡ Some 1) F.catches
  pub goes : (f at d : ℕ) (F : Function) → function_at P f ≡ Some F → D f at ≡ Some d → Goes P D f F at d

-- depths can be given to all that is reached
abbrev pub IsValid : Bytecode → Type 0
IsValid P = (D : Depths) × IsSound P D
