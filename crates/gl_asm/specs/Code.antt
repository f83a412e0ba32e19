-- The parts of a program that are listed, and how many there are at most.
use Rattle.std.specs.Prelude.{◌≤◌, ℕ, List, [], Option, Some, None, length}
use Rattle.gl_bytecode.specs.declared.instr.Catch.{Catch}
use Rattle.gl_bytecode.specs.declared.instr.Instr.{Instr}
use Rattle.gl_bytecode.specs.declared.limits.TheConstants.{CATCHES, CODE}
use Rattle.gl_model.specs.declared.limits.TheConstants.{CLASSES}
use Rattle.gl_bytecode.specs.Programs.{Bytecode, Function, function_at}
use Rattle.gl_asm.specs.Listing.{function_text}

abbrev pub code_of : Option Function → List Instr
code_of None = []
code_of (Some F) = F.code

abbrev pub catches_of : Option Function → List Catch
catches_of None = []
catches_of (Some F) = F.catches

abbrev pub text_of : ℕ → ℕ → Option Function → List ℕ
text_of main f None = []
text_of main f (Some F) = function_text main f F

pub record IsShort (P : Bytecode) : Type 0 where
  pub classes : length P.classes ≤ CLASSES
  pub code : (f : ℕ) → length (code_of (function_at P f)) ≤ CODE
  pub catches : (f : ℕ) → length (catches_of (function_at P f)) ≤ CATCHES
