-- the functions so far, whose operands are of their types
use Rattle.std.proofs.Common.{◌≡◌, ◌<◌, ◌++◌, ℕ, string_bytes, take}
use Rattle.gl_bytecode.specs.Programs.{function_at}
use Rattle.gl_asm.specs.Code.{code_of}
use Rattle.gl_asm.specs.Listable.{AreTyped}
use Rattle.gl_asm.specs.Listing.{each_from, function_text}
use Rattle.gl_asm.proofs.listing.push_functions.Given as goal

abbrev pub invariant-loop-f : goal.invariant-loop-f
invariant-loop-f l = (string_bytes l.out ≡ string_bytes l.initial.out ++ each_from (function_text l.main) 0 (take l.f l.program.functions))
    × ((k : ℕ) → k < l.f → AreTyped (code_of (function_at l.program k)))
