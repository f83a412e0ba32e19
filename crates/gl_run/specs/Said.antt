-- What was said of the lines of a trace so far.
use Rattle.std.specs.Prelude.{◌≡◌, List, [], ◌∷◌, ◌++◌, map, count_by, string_bytes}
use Rattle.std.specs.List.{flat_map}
use Rattle.gl_core.specs.Follows.{Follows, IsReady}
use Rattle.gl_model.specs.declared.row.Judged.{Judged}
use Rattle.gl_model.specs.Trace.{AreVerdicts}
use Rattle.gl_trace.specs.Judging.{line_of}
use Rattle.gl_trace.specs.Trace.{AreLines}
use Rattle.gl_trace.specs.TraceLine.{TraceLine}
use Rattle.gl_trace.specs.Verdicts.{is_race, verdict_line, verdicts_said}
use Rattle.gl_run.specs.Check.{Said, lines_said}
use Rattle.gl_run.specs.Recording.{IsRecorded}
use Rattle.gl_run.specs.declared.verdicts.Verdicts.{Verdicts}

-- what was said of these lines is right, and this is what is kept of it
pub record IsSaid (done : List Said) (v : Verdicts) : Type 0 where
  pub right : AreVerdicts (map line_of done)
  pub ready : IsReady v.detector
  pub follows : Follows (map line_of done) v.detector
  pub text : string_bytes v.text ≡ flat_map (λ p. verdict_line p.0.0 p.1) done
  pub races : v.races ≡ count_by is_race (verdicts_said done)
  pub recorded : IsRecorded (map line_of done) v.tracer

-- it is so of some lines, behind which this one stands in a trace
pub record Awaits (line : TraceLine) (v : Verdicts) : Type 0 where
  pub done : List Said
  pub said : IsSaid done v
  pub lines : AreLines (lines_said done ++ line ∷ [])

-- it is so of all lines of some trace
pub record Ends (v : Verdicts) : Type 0 where
  pub done : List Said
  pub said : IsSaid done v
  pub lines : AreLines (lines_said done)

-- something was said of this line too
abbrev pub IsSaidOn : List Said → TraceLine → Verdicts → Type 0
IsSaidOn done line v = (judged : Judged) × IsSaid (done ++ (line, judged) ∷ []) v
