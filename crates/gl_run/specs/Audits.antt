-- What `audit` answers.
use Rattle.std.specs.Prelude.{◌≡◌, ◌⊎◌, ◌++◌, ℕ, ℤ, List, codes, Option, None}
use Rattle.std.specs.Fmt.{decimal}
use Rattle.gl_audit.specs.Findings.{IsFinding}
use Rattle.gl_audit.specs.declared.finding.Finding.{Finding}
use Rattle.gl_audit.specs.declared.finding.Finding.TheVariants.{Lawful, Not}
use Rattle.gl_audited.specs.Meaning.{IsAuditText, IsFirstFault}
use Rattle.gl_bytecode.specs.Programs.{Bytecode}
use Rattle.gl_model.specs.Entries.{Entry}
use Rattle.gl_model.specs.Kept.{IsRecord}
use Rattle.gl_run.specs.Listed.{Refuses}
use Rattle.gl_trace.specs.Verdicts.{line_end}
use Rattle.gl_run.specs.declared.kept.Kept.{Kept}
use Rattle.gl_run.specs.declared.status.TheConstants.{ALL_WELL, NOT_LAWFUL}

-- the record is lawful, or it is not
abbrev pub finding_status : Finding → ℕ
finding_status Lawful = ALL_WELL
finding_status (Not thread index clause) = NOT_LAWFUL

-- what is written of a finding: that the record is lawful; or the place where it is not, by thread and index in the thread's list, and
-- the clause that it fails there
abbrev pub finding_line : Finding → List ℕ
finding_line Lawful = codes "lawful" ++ line_end
finding_line (Not thread index clause) =
    codes "not " ++ (decimal thread ++ (codes " " ++ (decimal index ++ (codes " " ++ (decimal clause ++ line_end)))))

-- the status and the bytes for a text that says a program with its inputs, and a record with its steps: those of the right finding of
-- this record
pub record AcceptsAudit (input : List ℕ) (status : ℕ) (bytes : List ℕ) (kept : Option Kept) : Type 0 where
  pub program : Bytecode
  pub inputs : List ℤ
  pub steps : ℕ
  pub made : List (ℕ × List Entry)
  pub meaning : IsAuditText input program inputs steps made
  pub is : IsRecord made
  pub finding : Finding
  pub right : IsFinding program inputs steps made finding
  pub status_is : status ≡ finding_status finding
  pub bytes_are : bytes ≡ finding_line finding
  pub kept_is : kept ≡ None

-- the status and the bytes for a text that is refused
abbrev pub RefusesAudit : List ℕ → ℕ → List ℕ → Option Kept → Type 0
RefusesAudit input status bytes kept = Refuses (IsFirstFault input) status bytes kept

-- what a text is answered
abbrev pub AuditsText : List ℕ → ℕ → List ℕ → Option Kept → Type 0
AuditsText input status bytes kept = AcceptsAudit input status bytes kept ⊎ RefusesAudit input status bytes kept
