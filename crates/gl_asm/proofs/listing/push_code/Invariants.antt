-- the lines of the instructions so far, whose operands are of their types
use Rattle.std.proofs.Common.{◌≡◌, ◌<◌, ◌++◌, ℕ, Some, slice_get, string_bytes, take}
use Rattle.gl_bytecode.specs.declared.instr.Instr.{Instr}
use Rattle.gl_asm.specs.Listable.{IsTyped}
use Rattle.gl_asm.specs.Listing.{each_from, code_line}
use Rattle.gl_asm.specs.Words.{operand_of}
use Rattle.gl_asm.proofs.listing.push_code.Given as goal

abbrev pub invariant-loop-at : goal.invariant-loop-at
invariant-loop-at l = (string_bytes l.out ≡ string_bytes l.initial.out
    ++ each_from (code_line l.main l.code l.catches) 0 (take l.at l.code))
    × ((k : ℕ) (i : Instr) → k < l.at → slice_get l.code k ≡ Some i → IsTyped (operand_of i))
