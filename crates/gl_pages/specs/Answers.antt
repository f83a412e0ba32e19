-- What the text of an audit is answered.
use Rattle.std.specs.Prelude.{◌≡◌, ◌⊎◌, ◌==◌, ℕ, ℤ, if◌then◌else◌, List, ◌++◌, codes, length}
use Rattle.std.specs.Fmt.{decimal}
use Rattle.std.specs.List.{flat_map}
use Rattle.gl_audit.specs.Findings.{IsFinding}
use Rattle.gl_audit.specs.declared.finding.Finding.TheVariants.{Not}
use Rattle.gl_audited.specs.Cut.{IsProgramText}
use Rattle.gl_audited.specs.Meaning.{IsAuditText, IsFirstFault}
use Rattle.gl_bytecode.specs.Lawful.{Lawful}
use Rattle.gl_bytecode.specs.Programs.{Bytecode}
use Rattle.gl_explain.specs.Answers.{refusal}
use Rattle.gl_explain.specs.Texts.{ending_text}
use Rattle.gl_model.specs.Entries.{Entry}
use Rattle.gl_model.specs.Kept.{IsRecord}
use Rattle.gl_names.specs.Names.{name_of}
use Rattle.gl_pages.specs.declared.facts.Explanation.{Explanation}
use Rattle.gl_pages.specs.Explained.{AreExplained}
use Rattle.gl_pages.specs.LawfulRun.{LawfulRun, lists_in}
use Rattle.gl_pages.specs.Texts.{explanation_text}

-- the text says this run: a program, whose text is that before the record, and a record that is lawful for it
pub record SaysRun (input : List ℕ) (run : LawfulRun) : Type 0 where
  pub inputs : List ℤ
  pub meaning : IsAuditText input run.program inputs run.steps run.made
  pub program_text : IsProgramText input run.text
  pub lawful : Lawful run.program inputs run.steps (lists_in run)

-- the status and the bytes for a text whose record is lawful: an explanation of each of its races, with the names that the text
-- gives, and the ending
pub record ExplainsRun (input : List ℕ) (status : ℕ) (bytes : List ℕ) : Type 0 where
  pub run : LawfulRun
  pub says : SaysRun input run
  pub explained : List Explanation
  pub are : AreExplained run explained
  pub status_is : status ≡ (if length explained == 0 then 0 else 6)
  pub bytes_are : bytes ≡ flat_map (explanation_text (name_of input)) explained ++ ending_text (length explained)

-- the place where a record is not lawful, and the clause that it fails there
abbrev pub finding_line : ℕ → ℕ → ℕ → List ℕ
finding_line thread index clause =
    codes "not " ++ (decimal thread ++ (codes " " ++ (decimal index ++ (codes " " ++ (decimal clause ++ codes "\n")))))

-- the status and the bytes for a text whose record is not lawful: those of `audit`
pub record FindsFault (input : List ℕ) (status : ℕ) (bytes : List ℕ) : Type 0 where
  pub program : Bytecode
  pub inputs : List ℤ
  pub steps : ℕ
  pub made : List (ℕ × List Entry)
  pub meaning : IsAuditText input program inputs steps made
  pub is : IsRecord made
  pub thread : ℕ
  pub index : ℕ
  pub clause : ℕ
  pub right : IsFinding program inputs steps made (Not thread index clause)
  pub status_is : status ≡ 8
  pub bytes_are : bytes ≡ finding_line thread index clause

-- the status and the bytes for a text that says no program and record: its first fault
pub record RefusesText (input : List ℕ) (status : ℕ) (bytes : List ℕ) : Type 0 where
  pub line : ℕ
  pub kind : ℕ
  pub fault : IsFirstFault input line kind
  pub status_is : status ≡ 4
  pub bytes_are : bytes ≡ refusal line kind

-- what a text is answered
abbrev pub ExplainsAudit : List ℕ → ℕ → List ℕ → Type 0
ExplainsAudit input status bytes =
    ExplainsRun input status bytes ⊎ (FindsFault input status bytes ⊎ RefusesText input status bytes)
