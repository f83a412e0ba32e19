-- A lawful record of a program's run, with the text of the program.
use Rattle.std.specs.Prelude.{ℕ, ℤ, List}
use Rattle.gl_asm.specs.Texts.{IsText}
use Rattle.gl_audited.specs.declared.reader.Audited.{Audited}
use Rattle.gl_bytecode.specs.Lawful.{Lawful}
use Rattle.gl_bytecode.specs.Programs.{Bytecode}
use Rattle.gl_bytecode.specs.Validity.{IsValid}
use Rattle.gl_model.specs.Entries.{Entry}
use Rattle.gl_model.specs.Lists.{lists_of}
use Rattle.gl_model.specs.Records.{Lists}
use Rattle.gl_sites.specs.declared.making.Maker.{Maker}
use Rattle.gl_sites.specs.Recorded.{AreMakersOf}

-- the text of a program, the program, how many instructions a thread starts at most, and the record
pub record LawfulRun : Type 0 where
  pub text : List ℕ
  pub program : Bytecode
  pub steps : ℕ
  pub made : List (ℕ × List Entry)

-- the lists of the record
abbrev pub lists_in : LawfulRun → Lists
lists_in run = lists_of run.made

-- that of a program's text and of what was read of an audit's text
abbrev pub run_of : List ℕ → Audited → LawfulRun
run_of text a = record { text = text; program = a.program; steps = a.steps; made = a.record }

-- the text says the program with some inputs, with which the record is lawful
pub record IsRun (run : LawfulRun) : Type 0 where
  pub inputs : List ℤ
  pub says : IsText run.text run.program inputs
  pub lawful : Lawful run.program inputs run.steps (lists_in run)

-- and these made its entries
pub record IsMade (run : LawfulRun) (makers : List (List Maker)) : Type 0 where
  pub is : IsRun run
  pub valid : IsValid run.program
  pub made : AreMakersOf run.program run.steps (lists_in run) makers
