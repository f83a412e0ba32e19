-- The meaning of a trace text: its lines, or its first fault.
use Rattle.std.specs.Prelude.{◌≡◌, ℕ, ◌+◌, ◌<◌, ◌≤◌, List, [], ◌∷◌, ◌++◌, Option, Some, None, Result, Ok, Err, nat_lt, length, take, slice_index_or, All, ◌⊎◌, if◌then◌else◌}
use Rattle.std.specs.Option.{option_map}
use Rattle.std.specs.Str.Lines.{lines}
use Rattle.gl_model.specs.declared.row.StepFault.{StepFault}
use Rattle.gl_model.specs.declared.row.StepFault.TheVariants as faults
use Rattle.gl_model.specs.TraceSteps.{Step, IsStep, AreClean, step_fault}
use Rattle.gl_text.specs.Text.{is_bad, words}
use Rattle.gl_text.specs.declared.kinds.TheConstants.{TOO_LONG, BAD_BYTE, TOO_MANY_LINES, MONITOR_OWNED, MONITOR_NOT_OWNED, NOT_RUNNING, CANNOT_FORK, JOIN_SELF, BAD_SET}
use Rattle.gl_trace.specs.TraceLine.{TraceLine, steps_of}
use Rattle.gl_trace.specs.declared.limits.TheConstants.{TRACE_BYTES, TRACE_LINES}
use Rattle.gl_trace.specs.Kept.{IsItemKept}
use Rattle.gl_trace.specs.Phrase.{said}

-- the step of a line, if it makes one
abbrev pub made : ℕ → Result (Option Step) ℕ → List TraceLine
made n (Err kind) = []
made n (Ok None) = []
made n (Ok (Some s)) = (n, s.0, s.1) ∷ []

-- what the lines that are numbered from n on say
abbrev pub lines_from : ℕ → List (List ℕ) → List TraceLine
lines_from n [] = []
lines_from n (line ∷ rest) = made n (said (words line)) ++ lines_from (n + 1) rest

-- the kind of a fault behind earlier lines
abbrev pub kind_of : StepFault → ℕ
kind_of faults.BadSet = BAD_SET
kind_of faults.NotRunning = NOT_RUNNING
kind_of faults.CannotFork = CANNOT_FORK
kind_of faults.JoinSelf = JOIN_SELF
kind_of faults.MonitorOwned = MONITOR_OWNED
kind_of faults.MonitorNotOwned = MONITOR_NOT_OWNED

abbrev pub said_fault : List Step → Result (Option Step) ℕ → Option ℕ
said_fault before (Err kind) = Some kind
said_fault before (Ok None) = None
said_fault before (Ok (Some s)) = option_map kind_of (step_fault before s.0 s.1)

-- the fault of the line of this number, behind these steps
abbrev pub line_fault : List Step → ℕ → List ℕ → Option ℕ
line_fault before n line = if is_bad line then Some BAD_BYTE
    else (if nat_lt TRACE_LINES n then Some TOO_MANY_LINES else said_fault before (said (words line)))

-- the fault of the line at place i, behind the steps of the lines before it
abbrev pub fault_at : List (List ℕ) → ℕ → Option ℕ
fault_at ls i = line_fault (steps_of (lines_from 1 (take i ls))) (i + 1) (slice_index_or ls i [])

-- the text has no fault, and says this
pub record IsTrace (text : List ℕ) (trace : List TraceLine) : Type 0 where
  pub short : length text ≤ TRACE_BYTES
  pub clean : (i : ℕ) → i < length (lines text) → fault_at (lines text) i ≡ None
  pub all : trace ≡ lines_from 1 (lines text)

-- the line at place i is the first that has a fault
pub record IsFirst (ls : List (List ℕ)) (i kind : ℕ) : Type 0 where
  pub there : i < length ls
  pub fault : fault_at ls i ≡ Some kind
  pub before : (j : ℕ) → j < i → fault_at ls j ≡ None

-- the first fault of the text; one that is too long has it in line 0
abbrev pub IsFirstFault : List ℕ → ℕ → ℕ → Type 0
IsFirstFault text line kind =
    ((TRACE_BYTES < length text) × (line ≡ 0) × (kind ≡ TOO_LONG))
    ⊎ ((length text ≤ TRACE_BYTES) × ((i : ℕ) × (line ≡ i + 1) × IsFirst (lines text) i kind))

-- what the lines of each trace are: not too many, in range, and without a fault behind one another
pub record AreLines (ls : List TraceLine) : Type 0 where
  pub few : length ls ≤ TRACE_LINES
  pub range : All IsStep (steps_of ls)
  pub sets : All (λ l. IsItemKept l.2) ls
  pub clean : AreClean (steps_of ls)
