-- What is counted over a trace, and what is said of its lines.
use Rattle.std.specs.Prelude.{◌≡◌, ◌+◌, ◌-◌, ◌^◌, min, Bool, true, false, if◌then◌else◌, List, map, fold}
use Rattle.gl_model.specs.declared.row.Judged.{Judged}
use Rattle.gl_model.specs.declared.row.Judged.TheVariants.{NoAccess, Performed, Raised}
use Rattle.gl_model.specs.Trace.{Line, AreVerdicts}
use Rattle.gl_model.specs.TraceSteps.{Step}
use Rattle.gl_lines.specs.TraceStates.{steps_of}
use Rattle.gl_compare.specs.declared.compare.Tally.{Tally}

-- there is a verdict for each step of the trace, and they are right
abbrev pub AreJudged : List Step → List Judged → Type 0
AreJudged trace judged = (lines : List Line) × (steps_of lines ≡ trace) × (map (λ l. l.judged) lines ≡ judged) × AreVerdicts lines

abbrev pub is_raised : Judged → Bool
is_raised NoAccess = false
is_raised Performed = false
is_raised (Raised var) = true

-- one trace more, and one line more of which this is said; the counts end at the last u64
abbrev pub one_trace : Tally → Tally
one_trace t = record t { traces = min (t.traces + 1) (2 ^ 64 - 1) }

abbrev pub one_line : Tally → Judged → Tally
one_line t judged = record t {
  lines = min (t.lines + 1) (2 ^ 64 - 1);
  raised = if is_raised judged then min (t.raised + 1) (2 ^ 64 - 1)
      else t.raised;
}

-- a trace more, of whose lines this is said
abbrev pub counted : Tally → List Judged → Tally
counted t judged = fold one_line (one_trace t) judged
