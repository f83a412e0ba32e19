-- A line of a trace that says something: its number, its thread, and what it says.
use Rattle.std.specs.Prelude.{ℕ, List, map}
use Rattle.gl_model.specs.declared.row.Item.{Item}
use Rattle.gl_model.specs.TraceSteps.{Step}

abbrev pub TraceLine : Type 0
TraceLine = ℕ × ℕ × Item

-- the steps of a trace
abbrev pub step_of : TraceLine → Step
step_of l = (l.1, l.2)

abbrev pub steps_of : List TraceLine → List Step
steps_of ls = map step_of ls
