-- The kind of each fault is one of those that there are.
use Rattle.std.proofs.Common.{arith, ◌≡◌, ℕ, ◌-◌, nat_lt, nat_le, Bool, true, false, if◌then◌else◌, ◌&&◌, Option, Some, None, length, slice_get, inl, inr, sym}
use Rattle.std.specs.Option.{IfSome, option_and_then}
use Rattle.gl_bytecode.specs.declared.fault.ProgFault.{ProgFault}
use Rattle.gl_bytecode.specs.declared.fault.TheConstants.{BAD_JUMP, BAD_FUNCTION, BAD_CLASS, BAD_LOCAL}
use Rattle.gl_bytecode.specs.declared.instr.Instr.{Instr}
use Rattle.gl_bytecode.specs.Faults.{IsFirstIn, IsFirstOfFunctions, IsKind, catch_fault, fault_at, has_args, instr_fault, named_fault, unless}
use Rattle.gl_bytecode.specs.Instructions.{Named, Nothing, Local, Place, Called, Forked, Class, Thrown, named_by}
use Rattle.gl_bytecode.specs.Programs.{Bytecode, Function, function_at}

-- a fault for want of a test is of its kind
of_unless : (b : Bool) (kind : ℕ) → IsKind kind → IfSome (unless b kind) IsKind
of_unless true kind is = tt
of_unless false kind is = is

-- the fault of what is named is of a kind
of_named : (P : Bytecode) (F : Function) (n : Named) → IfSome (named_fault P F n) IsKind
of_named P F Nothing = tt
of_named P F (Local k) = of_unless (nat_lt k F.locals) BAD_LOCAL (omega arith, omega arith)
of_named P F (Place to) = of_unless (nat_lt to (length F.code)) BAD_JUMP (omega arith, omega arith)
of_named P F (Called f) = of_unless (nat_lt f (length P.functions)) BAD_FUNCTION (omega arith, omega arith)
of_named P F (Forked f) = of_unless (has_args 1 (function_at P f)) BAD_FUNCTION (omega arith, omega arith)
of_named P F (Class c) = of_unless (nat_lt c (length P.classes)) BAD_CLASS (omega arith, omega arith)
of_named P F (Thrown code) = tt

-- and so is that of an instruction
of_instr : (P : Bytecode) (F : Function) (i : Instr) → IfSome (instr_fault P F i) IsKind
of_instr P F i = of_named P F (named_by i)

-- a fault of what may be there is of a kind, where each one is
of_option : {X : Type 0} (f : X → Option ℕ) (o : Option X) → ((x : X) → IfSome (f x) IsKind) → IfSome (option_and_then f o) IsKind
of_option f None all = tt
of_option f (Some x) all = all x

-- the fault at a place of a function is of a kind
of_place : (P : Bytecode) (F : Function) (at : ℕ) → IfSome (fault_at P F at) IsKind
of_place P F at = by_test (nat_lt at (length F.code)) where
  by_test :
      (b : Bool) →
      IfSome
      (if b then option_and_then (instr_fault P F) (slice_get F.code at)
      else option_and_then (catch_fault F) (slice_get F.catches (at - length F.code)))
      IsKind
  by_test true = of_option (instr_fault P F) (slice_get F.code at) (of_instr P F)
  by_test false =
      of_option (catch_fault F) (slice_get F.catches (at - length F.code))
      (λ c. of_unless (nat_lt c.target (length F.code) && nat_le c.from c.to && nat_le c.to (length F.code)) BAD_JUMP
      (omega arith, omega arith))

-- what is found is of a kind
of_some : (o : Option ℕ) (kind : ℕ) → o ≡ Some kind → IfSome o IsKind → IsKind kind
of_some None kind e is = cc
of_some (Some k) kind e is = (let same : k ≡ kind = cc in rw (sym same) is)

-- the first fault of a function is of a kind
of_function : (P : Bytecode) (F : Function) (kind at : ℕ) → IsFirstIn P F kind at → IsKind kind
of_function P F kind at (inl x) = of_some (fault_at P F at) kind x.wrong (of_place P F at)
of_function P F kind at (inr (inl x)) = rw x.kind_is (omega arith, omega arith)
of_function P F kind at (inr (inr x)) = rw x.kind_is (omega arith, omega arith)

-- and so is that of all functions
pub of_functions : (P : Bytecode) (x : ProgFault) → IsFirstOfFunctions P x → IsKind x.kind
of_functions P x r = of_function P r.function x.kind x.at r.first
