-- What a lawful record of a program's run is.
use Rattle.std.specs.Prelude.{◌≢◌, ℕ, ℤ, ◌==◌, true, List, [], length, map, filter}
use Rattle.std.specs.List.{range_with_len}
use Rattle.gl_model.specs.Lawful.{IsLawful}
use Rattle.gl_model.specs.Machine.{Setting}
use Rattle.gl_model.specs.Records.{Lists}
use Rattle.gl_bytecode.specs.Instructions.{args_of}
use Rattle.gl_bytecode.specs.Programs.{Bytecode, function_at}
use Rattle.gl_bytecode.specs.Runs.{Runs}

-- the functions of one argument, which a thread may be forked with
abbrev pub forkable_of : Bytecode → List ℕ
forkable_of P = filter (λ f. args_of (function_at P f) == 1) (range_with_len 0 (length P.functions))

-- what the one-memory machine is set up with in a run of the program
abbrev pub setting_of : Bytecode → List ℤ → Setting
setting_of P inputs = record {
  classes = map (λ c. (c.plain, c.volatile)) P.classes;
  inputs = inputs;
  main = P.main;
  forkable = forkable_of P;
  takes_least = true;
}

-- the record of a run of the program, given these inputs, in which a thread starts so many instructions at most: it is well-formed,
-- listed and numbered, a run of the one-memory machine, and obeys the race law; and each list is what its thread's instructions
-- make of the answers in it
pub record Lawful (P : Bytecode) (inputs : List ℤ) (steps : ℕ) (R : Lists) : Type 0 where
  pub allowed : IsLawful (setting_of P inputs) R
  pub runs : (t : ℕ) → R t ≢ [] → Runs P steps t (R t)
