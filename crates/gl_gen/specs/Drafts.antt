-- Functions that are added to a program in the making.
use Rattle.std.specs.Prelude.{ℕ, Bool, true, false, List, [], ◌∷◌, ◌++◌}
use Rattle.gl_bytecode.specs.declared.instr.Instr.{Instr}
use Rattle.gl_bytecode.specs.declared.instr.Instr.TheVariants.{Throw}
use Rattle.gl_bytecode.specs.Programs.{Draft}
use Rattle.gl_gen.specs.Bank.{plain_function}

-- the draft with a function of this code more
abbrev pub with_function : ℕ → ℕ → List Instr → Draft → Draft
with_function args locals code D = record D { functions = D.functions ++ plain_function args locals code ∷ [] }

-- the instruction is no throw
abbrev pub is_no_throw : Instr → Bool
is_no_throw (Throw code) = false
is_no_throw _ = true
