-- What a program has to be for its listing to be a program text again.
use Rattle.std.specs.Prelude.{◌≡◌, ◌≤◌, ◌≤ℤ◌, ℕ, ℤ, List, Some, slice_get}
use Rattle.gl_asm.specs.declared.limits.TheConstants.{LEAST_VALUE, MOST_INDEX, MOST_VALUE}
use Rattle.gl_asm.specs.declared.table.Operand.{Operand}
use Rattle.gl_asm.specs.declared.table.Operand.TheVariants.{Nothing, Value, Index, IndexAndValue, Code, Label, Function, Class}
use Rattle.gl_asm.specs.Code.{code_of}
use Rattle.gl_asm.specs.Words.{operand_of}
use Rattle.gl_bytecode.specs.declared.instr.Instr.{Instr}
use Rattle.gl_bytecode.specs.Programs.{Bytecode, function_at}

-- an integer of 64 bits
abbrev pub IsValue : ℤ → Type 0
IsValue z = (LEAST_VALUE ≤ℤ z) × (z ≤ℤ MOST_VALUE)

-- an operand is of its type; of the codes that are thrown AllThrowInRange says more
abbrev pub IsTyped : Operand → Type 0
IsTyped Nothing = Unit {0}
IsTyped (Value n) = IsValue n
IsTyped (Index k) = k ≤ MOST_INDEX
IsTyped (IndexAndValue k n) = (k ≤ MOST_INDEX) × IsValue n
IsTyped (Code code) = Unit {0}
IsTyped (Label to) = to ≤ MOST_INDEX
IsTyped (Function f) = f ≤ MOST_INDEX
IsTyped (Class c) = c ≤ MOST_INDEX

-- the operands of these instructions are of their types
abbrev pub AreTyped : List Instr → Type 0
AreTyped code = (at : ℕ) (i : Instr) → slice_get code at ≡ Some i → IsTyped (operand_of i)

-- the operands of a program are of their types
abbrev pub OperandsAreTyped : Bytecode → Type 0
OperandsAreTyped P = (f : ℕ) → AreTyped (code_of (function_at P f))
