-- What the explainer keeps, against the lines so far.
use Rattle.std.specs.Prelude.{◌≡◌, List, [], ◌∷◌, ◌++◌, Option, string_bytes}
use Rattle.gl_core.specs.Follows.{Follows, IsReady}
use Rattle.gl_model.specs.declared.row.Judged.{Judged}
use Rattle.gl_model.specs.Trace.{AreVerdicts}
use Rattle.gl_trace.specs.Trace.{AreLines}
use Rattle.gl_trace.specs.TraceLine.{TraceLine}
use Rattle.gl_names.specs.Names.{name_of}
use Rattle.gl_explain.specs.declared.told.Told.{Told}
use Rattle.gl_explain.specs.declared.told.Explanation.{Explanation}
use Rattle.gl_explain.specs.declared.explainer.Explainer.{Explainer}
use Rattle.gl_explain.specs.Explained.{Explains}
use Rattle.gl_explain.specs.Marks.{AreKept}
use Rattle.gl_explain.specs.Written.{IsWritten}
use Rattle.gl_explain.specs.Told.{lines_of, trace_of, told_of}

-- the explainer was given these lines, and what it said of them is right
pub record IsTold (done : List Told) (x : Explainer) : Type 0 where
  pub right : AreVerdicts (lines_of done)
  pub ready : IsReady x.detector
  pub follows : Follows (lines_of done) x.detector
  pub kept : told_of x.kept.items ≡ done
  pub are_kept : AreKept (lines_of done) x.kept.items
  pub written : IsWritten (name_of x.writer.names) done (string_bytes x.writer.text)

-- it is so of some lines, behind which this one stands in a trace
pub record Awaits (line : TraceLine) (x : Explainer) : Type 0 where
  pub done : List Told
  pub told : IsTold done x
  pub lines : AreLines (trace_of done ++ line ∷ [])

-- the line with what was said of it
abbrev pub told_as : TraceLine → Judged → Told
told_as line judged = record { line = line.0; thread = line.1; item = line.2; judged = judged }

-- something was said of this line too, and this explains it where it is a race
abbrev pub IsToldOn : List Told → TraceLine → Explainer → Option Explanation → Type 0
IsToldOn done line x found = (judged : Judged) × IsTold (done ++ told_as line judged ∷ []) x × Explains done (told_as line judged) found
