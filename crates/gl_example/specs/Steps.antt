-- Steps that are handed to the detector, and what it said of them.
use Rattle.std.specs.Prelude.{◌≡◌, List, [], ◌∷◌, length, All}
use Rattle.gl_model.specs.declared.row.Judged.{Judged}
use Rattle.gl_model.specs.Trace.{Line, AreVerdicts}
use Rattle.gl_model.specs.TraceSteps.{Step, IsStep, AreClean}

-- each step is one that there is, and none has a fault behind those before it
pub record IsTrace (steps : List Step) : Type 0 where
  pub range : All IsStep steps
  pub clean : AreClean steps

-- the steps with what was said of them, as the definition of verdicts reads them
abbrev pub lines_of : List Step → List Judged → List Line
lines_of [] judged = []
lines_of (s ∷ steps) [] = []
lines_of (s ∷ steps) (j ∷ judged) = record { thread = s.0; item = s.1; judged = j } ∷ lines_of steps judged

-- one is said of each step, and it is what the race law says of it
pub record AreJudged (steps : List Step) (judged : List Judged) : Type 0 where
  pub count : length judged ≡ length steps
  pub right : AreVerdicts (lines_of steps judged)
