-- the catches so far, which are there
use Rattle.std.proofs.Common.{◌≡◌, ◌≤◌, take, length}
use Rattle.gl_bytecode.specs.Programs.{function_at}
use Rattle.gl_asm.specs.Code.{catches_of}
use Rattle.gl_asm.proofs.listing.catches_of.Given as goal

abbrev pub invariant-loop-i : goal.invariant-loop-i
invariant-loop-i l = (l.i ≤ length (catches_of (function_at l.program l.f)))
    × (l.catches.items ≡ take l.i (catches_of (function_at l.program l.f)))
