-- the instructions so far, which are there
use Rattle.std.proofs.Common.{◌≡◌, ◌≤◌, take, length}
use Rattle.gl_bytecode.specs.Programs.{function_at}
use Rattle.gl_asm.specs.Code.{code_of}
use Rattle.gl_asm.proofs.listing.code_of.Given as goal

abbrev pub invariant-loop-at : goal.invariant-loop-at
invariant-loop-at l = (l.at ≤ length (code_of (function_at l.program l.f)))
    × (l.code.items ≡ take l.at (code_of (function_at l.program l.f)))
