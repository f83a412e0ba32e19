-- What `check` answers.
use Rattle.std.specs.Prelude.{◌≡◌, ◌⊎◌, ℕ, List, Option, Some, None, map, if◌then◌else◌}
use Rattle.std.specs.List.{list_any}
use Rattle.gl_model.specs.declared.row.Judged.{Judged}
use Rattle.gl_model.specs.Lists.{lists_of}
use Rattle.gl_model.specs.Trace.{Line, AreVerdicts, trace_record}
use Rattle.gl_model.specs.Kept.{IsRecord}
use Rattle.gl_trace.specs.Judging.{line_of}
use Rattle.gl_trace.specs.Trace.{IsTrace, IsFirstFault}
use Rattle.gl_trace.specs.TraceLine.{TraceLine}
use Rattle.gl_trace.specs.Verdicts.{is_race, said_text, verdicts_said}
use Rattle.gl_run.specs.Output.{refusal}
use Rattle.gl_run.specs.declared.keep.Keep.{Keep}
use Rattle.gl_run.specs.declared.keep.Keep.TheVariants.{Record, Nothing}
use Rattle.gl_run.specs.declared.kept.Kept.{Kept}
use Rattle.gl_run.specs.declared.kept.Kept.TheVariants.{Trace, Run}
use Rattle.gl_run.specs.declared.status.TheConstants.{ALL_WELL, REFUSED, RACES}

-- a line with what is said of it
abbrev pub Said : Type 0
Said = TraceLine × Judged

-- the lines alone
abbrev pub lines_said : List Said → List TraceLine
lines_said said = map (λ p. p.0) said

-- whether some access is raised
abbrev pub status_of : List Judged → ℕ
status_of judged = if list_any is_race judged then RACES else ALL_WELL

-- the record of these lines is kept, where one is to be kept
abbrev pub KeepsRecord : Keep → List Line → Option Kept → Type 0
KeepsRecord Nothing lines kept = kept ≡ None
KeepsRecord Record lines None = ⊥
KeepsRecord Record lines (Some (Run made)) = ⊥
KeepsRecord Record lines (Some (Trace made)) = IsRecord made × ((t : ℕ) → lists_of made t ≡ trace_record lines t)

-- the status, the bytes and what is kept for a trace: one thing is said of each of its lines, as the race law says it
pub record AnswersLines (keep : Keep) (trace : List TraceLine) (status : ℕ) (bytes : List ℕ) (kept : Option Kept) : Type 0 where
  pub said : List Said
  pub all : trace ≡ lines_said said
  pub right : AreVerdicts (map line_of said)
  pub status_is : status ≡ status_of (verdicts_said said)
  pub bytes_are : bytes ≡ said_text said
  pub kept_is : KeepsRecord keep (map line_of said) kept

-- the status and the bytes for a text that is a trace
pub record AcceptsTrace (keep : Keep) (input : List ℕ) (status : ℕ) (bytes : List ℕ) (kept : Option Kept) : Type 0 where
  pub trace : List TraceLine
  pub meaning : IsTrace input trace
  pub answer : AnswersLines keep trace status bytes kept

-- the status and the bytes for a text that is none
pub record RefusesTrace (input : List ℕ) (status : ℕ) (bytes : List ℕ) (kept : Option Kept) : Type 0 where
  pub line : ℕ
  pub kind : ℕ
  pub fault : IsFirstFault input line kind
  pub status_is : status ≡ REFUSED
  pub bytes_are : bytes ≡ refusal line kind
  pub kept_is : kept ≡ None

-- what a text is answered
abbrev pub ChecksText : Keep → List ℕ → ℕ → List ℕ → Option Kept → Type 0
ChecksText keep input status bytes kept = AcceptsTrace keep input status bytes kept ⊎ RefusesTrace input status bytes kept
