-- What `run` answers.
use Rattle.std.specs.Prelude.{◌≡◌, ◌⊎◌, ◌++◌, ℕ, ℤ, List, [], Bool, true, false, Option, Some, if◌then◌else◌}
use Rattle.std.specs.List.{list_any}
use Rattle.gl_asm.specs.Texts.{IsFirstFault, IsText}
use Rattle.gl_bytecode.specs.Lawful.{Lawful}
use Rattle.gl_bytecode.specs.Programs.{Bytecode}
use Rattle.gl_journal.specs.Meaning.{IsRecordText}
use Rattle.gl_journal.specs.Rows.{record_text}
use Rattle.gl_model.specs.Entries.{Entry, Sync, Commit, Plain, Abort, Trim, Over}
use Rattle.gl_model.specs.Form.{Sparing}
use Rattle.gl_model.specs.Kept.{IsRecord}
use Rattle.gl_model.specs.Lists.{lists_of}
use Rattle.gl_model.specs.Report.{all_entries, report_of}
use Rattle.gl_model.specs.declared.record.Ending.TheVariants.{Halt, Uncaught, Spent}
use Rattle.gl_report.specs.Lines.{is_raised}
use Rattle.gl_rule.specs.Objects.{Key}
use Rattle.gl_segments.specs.declared.Ring.{Ring}
use Rattle.gl_table.specs.Ending.{IsTrimmed}
use Rattle.gl_table.specs.SealedView.{SealedView}
use Rattle.gl_threads.specs.declared.options.Options.{Options}
use Rattle.gl_run.specs.Listed.{Refuses}
use Rattle.gl_run.specs.declared.kept.Kept.{Kept}
use Rattle.gl_run.specs.declared.options.RunOptions.{RunOptions}
use Rattle.gl_run.specs.declared.kept.Kept.TheVariants.{Run}
use Rattle.gl_run.specs.declared.status.TheConstants.{ALL_WELL, RACES, NOT_HALTED}

-- the end of a thread that did not halt
abbrev pub is_unhalted : Entry → Bool
is_unhalted (Sync at act value) = false
is_unhalted (Commit at tx) = false
is_unhalted (Plain var nth cached write value raised) = false
is_unhalted (Abort tx why) = false
is_unhalted (Trim low) = false
is_unhalted (Over Halt) = false
is_unhalted (Over (Uncaught code)) = true
is_unhalted (Over Spent) = true

-- whether something was refused for a race, else whether some thread did not halt
abbrev pub entries_status : List Entry → ℕ
entries_status es = if list_any is_raised es then RACES else if list_any is_unhalted es then NOT_HALTED else ALL_WELL

abbrev pub run_status : List (ℕ × List Entry) → ℕ
run_status made = entries_status (all_entries made)

-- the table was set up with this ring
abbrev pub HasRing : Ring → Key → Type 0
HasRing ring key = (key.segments ≡ ring.segments) × (key.cells ≡ ring.cells)

-- the closed table of a run of the program: its record is lawful and numbers no access that it may repeat; its ring is that of the
-- options, and its Trims are those of the ring
pub record IsRunOf (program : Bytecode) (inputs : List ℤ) (options : Options) (made : SealedView) : Type 0 where
  pub is : IsRecord made.entries
  pub lawful : Lawful program inputs options.steps (lists_of made.entries)
  pub sparing : Sparing (lists_of made.entries)
  pub ring : HasRing options.ring made.key
  pub trims : IsTrimmed made.key (lists_of made.entries)

-- the record of a run as a text, where it is asked for
abbrev pub journal_of : RunOptions → List (ℕ × List Entry) → List ℕ
journal_of asked made = if asked.journal then record_text asked.threads.steps made else []

-- the journal is read back as these steps and this record
abbrev pub IsReadBack : RunOptions → List (ℕ × List Entry) → Type 0
IsReadBack asked made = asked.journal ≡ true → IsRecordText (record_text asked.threads.steps made) asked.threads.steps made

-- what is written of a run: its report, and then its journal
abbrev pub run_text : RunOptions → List (ℕ × List Entry) → List ℕ
run_text asked made = report_of made ++ journal_of asked made

-- the status, the bytes and what is kept of a run of the program: those of one closed table
pub record AnswersRun (program : Bytecode) (inputs : List ℤ) (asked : RunOptions) (status : ℕ) (bytes : List ℕ) (kept : Option Kept) : Type
    0 where
  pub made : SealedView
  pub run : IsRunOf program inputs asked.threads made
  pub status_is : status ≡ run_status made.entries
  pub bytes_are : bytes ≡ run_text asked made.entries
  pub read_back : IsReadBack asked made.entries
  pub kept_is : kept ≡ Some (Run made)

-- the same for a text that is a program
pub record AcceptsRun (asked : RunOptions) (input : List ℕ) (status : ℕ) (bytes : List ℕ) (kept : Option Kept) : Type 0 where
  pub program : Bytecode
  pub inputs : List ℤ
  pub meaning : IsText input program inputs
  pub answer : AnswersRun program inputs asked status bytes kept

-- the status and the bytes for a text that is none
abbrev pub RefusesRun : List ℕ → ℕ → List ℕ → Option Kept → Type 0
RefusesRun input status bytes kept = Refuses (IsFirstFault input) status bytes kept

-- what a text is answered
abbrev pub RunsText : RunOptions → List ℕ → ℕ → List ℕ → Option Kept → Type 0
RunsText asked input status bytes kept = AcceptsRun asked input status bytes kept ⊎ RefusesRun input status bytes kept
