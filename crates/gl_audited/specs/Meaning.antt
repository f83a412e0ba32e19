-- The meaning of the text of an audit: a program with its inputs, and a record with its steps; or its first fault.
use Rattle.std.specs.Prelude.{◌≡◌, ℕ, ℤ, ◌+◌, ◌<◌, ◌≤◌, ◌⊎◌, List, length, take, drop}
use Rattle.std.specs.Str.Lines.{lines}
use Rattle.gl_asm.specs.Texts.{IsFirstFault as IsFirstOfProgram, IsText}
use Rattle.gl_audited.specs.declared.limits.TheConstants.{AUDIT_BYTES}
use Rattle.gl_audited.specs.Cut.{IsCutAt}
use Rattle.gl_bytecode.specs.Programs.{Bytecode}
use Rattle.gl_journal.specs.Meaning.{IsFirstFault as IsFirstOfRecord, IsRecordText}
use Rattle.gl_model.specs.Entries.{Entry}
use Rattle.gl_text.specs.declared.fault.TextError.{TextError}
use Rattle.gl_text.specs.declared.fault.TextError.TheVariants.{Fault, Memory}
use Rattle.gl_text.specs.declared.kinds.TheConstants.{TOO_LONG}

-- the text means this program with these inputs, and this record of so many steps
pub record IsAuditText (text : List ℕ) (program : Bytecode) (inputs : List ℤ) (steps : ℕ) (R : List (ℕ × List Entry)) : Type 0 where
  pub within : length text ≤ AUDIT_BYTES
  pub at : ℕ
  pub cut : IsCutAt text at
  pub program_is : IsText (take at text) program inputs
  pub record_is : IsRecordText (drop at text) steps R

-- the text is too long as a whole
pub record IsTooLong (text : List ℕ) (line kind : ℕ) : Type 0 where
  pub long : AUDIT_BYTES < length text
  pub line_is : line ≡ 0
  pub kind_is : kind ≡ TOO_LONG

-- the first fault of its program part
pub record IsFaultOfProgram (text : List ℕ) (line kind : ℕ) : Type 0 where
  pub within : length text ≤ AUDIT_BYTES
  pub at : ℕ
  pub cut : IsCutAt text at
  pub fault : IsFirstOfProgram (take at text) line kind

-- the program part has none, and this is the first fault of the record part, whose lines are counted on
pub record IsFaultOfRecord (text : List ℕ) (line kind : ℕ) : Type 0 where
  pub within : length text ≤ AUDIT_BYTES
  pub at : ℕ
  pub cut : IsCutAt text at
  pub program : Bytecode
  pub inputs : List ℤ
  pub program_is : IsText (take at text) program inputs
  pub fault : IsFirstOfRecord (drop at text) (1 + length (lines (take at text))) line kind

-- the first fault of the text
abbrev pub IsFirstFault : List ℕ → ℕ → ℕ → Type 0
IsFirstFault text line kind = IsTooLong text line kind ⊎ (IsFaultOfProgram text line kind ⊎ IsFaultOfRecord text line kind)

-- an error that is not want of memory is the first fault
abbrev pub TellsFirst : List ℕ → TextError → Type 0
TellsFirst text (Fault f) = IsFirstFault text f.line f.kind
TellsFirst text (Memory e) = Unit {0}
