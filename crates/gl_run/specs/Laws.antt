-- That an answer is settled: by the words and the input, or by what is kept of a run.
use Rattle.std.specs.Prelude.{◌≡◌, ◌↔◌, ℕ, ℤ, List, [], Option, Some, None}
use Rattle.gl_asm.specs.Texts.{IsText}
use Rattle.gl_audited.specs.Meaning.{IsAuditText}
use Rattle.gl_bytecode.specs.Lawful.{Lawful}
use Rattle.gl_bytecode.specs.Programs.{Bytecode}
use Rattle.gl_gen.specs.Bank.{bank_program}
use Rattle.gl_model.specs.Entries.{Entry}
use Rattle.gl_model.specs.Lists.{lists_of}
use Rattle.gl_model.specs.Report.{summary_of}
use Rattle.gl_run.specs.Audits.{AcceptsAudit, AuditsText, RefusesAudit}
use Rattle.gl_run.specs.Check.{AcceptsTrace, ChecksText, RefusesTrace}
use Rattle.gl_run.specs.Command.{Replies}
use Rattle.gl_run.specs.Listed.{AcceptsProgram, ListsText, RefusesProgram}
use Rattle.gl_table.specs.SealedView.{SealedView}
use Rattle.gl_run.specs.Loads.{AnswersLoad, bank_options}
use Rattle.gl_run.specs.declared.options.LoadOptions.{LoadOptions}
use Rattle.gl_run.specs.declared.options.RunOptions.{RunOptions}
use Rattle.gl_run.specs.Runs.{AcceptsRun, IsReadBack, IsRunOf, RefusesRun, RunsText, run_status, run_text}
use Rattle.gl_run.specs.Words.{run_part}
use Rattle.gl_run.specs.declared.keep.Keep.{Keep}
use Rattle.gl_run.specs.declared.kept.Kept.{Kept}
use Rattle.gl_run.specs.declared.kept.Kept.TheVariants.{Run}
use Rattle.gl_run.specs.declared.status.TheConstants.{ALL_WELL}
use Rattle.gl_run.specs.declared.words.Command.{Command}

-- these answers are one: whatever is answered, the status, the bytes and what is kept are the same
abbrev pub IsOneAnswer : (ℕ → List ℕ → Option Kept → Type 0) → Type 0
IsOneAnswer answers = (s t : ℕ) (a b : List ℕ) (j k : Option Kept) → answers s a j → answers t b k → (s ≡ t) × (a ≡ b) × (j ≡ k)

-- what is kept settles the rest: where it is the same, the status and the bytes are
abbrev pub IsToldByKept : (ℕ → List ℕ → Option Kept → Type 0) → Type 0
IsToldByKept answers = (s t : ℕ) (a b : List ℕ) (kept : Option Kept) → answers s a kept → answers t b kept → (s ≡ t) × (a ≡ b)

-- ## Each command

abbrev pub ChecksAreOne : Type 0
ChecksAreOne = (keep : Keep) (input : List ℕ) → IsOneAnswer (ChecksText keep input)

-- no text is both accepted and refused
abbrev pub ChecksAreApart : Type 0
ChecksAreApart =
    (keep : Keep) (input : List ℕ) (s t : ℕ) (a b : List ℕ) (j k : Option Kept) → AcceptsTrace keep input s a j → RefusesTrace input t b k
    → ⊥

abbrev pub ListingsAreOne : Type 0
ListingsAreOne = (input : List ℕ) → IsOneAnswer (ListsText input)

abbrev pub ListingsAreApart : Type 0
ListingsAreApart = (input : List ℕ) (s t : ℕ) (a b : List ℕ) (j k : Option Kept) → AcceptsProgram input s a j → RefusesProgram input t b k
    → ⊥

abbrev pub AuditsAreOne : Type 0
AuditsAreOne = (input : List ℕ) → IsOneAnswer (AuditsText input)

abbrev pub AuditsAreApart : Type 0
AuditsAreApart = (input : List ℕ) (s t : ℕ) (a b : List ℕ) (j k : Option Kept) → AcceptsAudit input s a j → RefusesAudit input t b k → ⊥

-- the status is that of no fault exactly where the record that the text says is lawful for its program, its inputs and its steps
abbrev pub AuditsAreExact : Type 0
AuditsAreExact =
    (input : List ℕ) (P : Bytecode) (inputs : List ℤ) (steps : ℕ) (made : List (ℕ × List Entry)) (status : ℕ) (bytes : List ℕ)
    (kept : Option Kept) → IsAuditText input P inputs steps made → AuditsText input status bytes kept
    → (status ≡ ALL_WELL) ↔ Lawful P inputs steps (lists_of made)

abbrev pub RunsAreTold : Type 0
RunsAreTold = (asked : RunOptions) (input : List ℕ) → IsToldByKept (RunsText asked input)

abbrev pub RunsAreApart : Type 0
RunsAreApart = (asked : RunOptions) (input : List ℕ) (s t : ℕ) (a b : List ℕ) (j k : Option Kept) → AcceptsRun asked input s a j
    → RefusesRun input t b k → ⊥

-- what is kept of a run is the closed table of a run of the program and the inputs that the text says, with these options; the status and
-- the bytes are read off it
pub record IsKeptRun (asked : RunOptions) (input : List ℕ) (status : ℕ) (bytes : List ℕ) (made : SealedView) : Type 0 where
  pub program : Bytecode
  pub inputs : List ℤ
  pub meaning : IsText input program inputs
  pub run : IsRunOf program inputs asked.threads made
  pub status_is : status ≡ run_status made.entries
  pub bytes_are : bytes ≡ run_text asked made.entries
  pub read_back : IsReadBack asked made.entries

abbrev pub RunsAreLawful : Type 0
RunsAreLawful =
    (asked : RunOptions) (input : List ℕ) (status : ℕ) (bytes : List ℕ) (made : SealedView)
    → RunsText asked input status bytes (Some (Run made))
    → IsKeptRun asked input status bytes made

abbrev pub LoadsAreTold : Type 0
LoadsAreTold = (load : LoadOptions) → IsToldByKept (AnswersLoad load)

-- what is kept of a load is the closed table of a run of the bank of its size; the status and the bytes are read off it
pub record IsKeptLoad (load : LoadOptions) (status : ℕ) (bytes : List ℕ) (made : SealedView) : Type 0 where
  pub run : IsRunOf (bank_program load.size) [] (bank_options load) made
  pub status_is : status ≡ run_status made.entries
  pub bytes_are : bytes ≡ summary_of made.entries

abbrev pub LoadsAreLawful : Type 0
LoadsAreLawful =
    (load : LoadOptions) (status : ℕ) (bytes : List ℕ) (made : SealedView) → AnswersLoad load status bytes (Some (Run made))
    → IsKeptLoad load status bytes made

-- ## All commands

-- words that run no program have one answer for each input
abbrev pub RepliesAreOne : Type 0
RepliesAreOne = (keep : Keep) (asked : Option Command) (input : List ℕ) → run_part asked ≡ None → IsOneAnswer (Replies keep asked input)

-- whatever the words are, what is kept tells the rest of the answer
abbrev pub RepliesAreTold : Type 0
RepliesAreTold = (keep : Keep) (asked : Option Command) (input : List ℕ) → IsToldByKept (Replies keep asked input)
