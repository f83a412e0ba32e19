-- A trace with what was said of its lines.
use Rattle.std.specs.Prelude.{◌≡◌, ℕ, List, [], ◌∷◌, length, slice_get, Some, Contains, ◌⊎◌}
use Rattle.gl_model.specs.declared.row.Item.{Item}
use Rattle.gl_model.specs.declared.row.Item.TheVariants.{Act as Acts, Access, Commit as Commits}
use Rattle.gl_model.specs.declared.row.Judged.{Judged}
use Rattle.gl_model.specs.declared.row.Judged.TheVariants.{NoAccess, Performed, Raised}
use Rattle.gl_model.specs.Trace.{Line}
use Rattle.gl_trace.specs.TraceLine.{TraceLine}

-- nothing is said of an act alone, and a race is on a variable of the item
abbrev pub Suits : Item → Judged → Type 0
Suits (Acts act) NoAccess = Unit {0}
Suits (Acts act) Performed = ⊥
Suits (Acts act) (Raised var) = ⊥
Suits (Access x write) NoAccess = ⊥
Suits (Access x write) Performed = Unit {0}
Suits (Access x write) (Raised var) = var ≡ x
Suits (Commits reads writes) NoAccess = ⊥
Suits (Commits reads writes) Performed = Unit {0}
Suits (Commits reads writes) (Raised var) = Contains reads var ⊎ Contains writes var

-- one is said of each line, and suits it
pub record AreJudged (lines : List TraceLine) (judged : List Judged) : Type 0 where
  pub count : length judged ≡ length lines
  pub suits : (k : ℕ) (l : TraceLine) (j : Judged) → slice_get lines k ≡ Some l → slice_get judged k ≡ Some j → Suits l.2 j

-- each line with what was said of it
abbrev pub judged_lines : List TraceLine → List Judged → List (TraceLine × Judged)
judged_lines [] js = []
judged_lines (l ∷ ls) [] = []
judged_lines (l ∷ ls) (j ∷ js) = (l, j) ∷ judged_lines ls js

-- as the record of a trace reads it
abbrev pub line_of : TraceLine × Judged → Line
line_of p = record { thread = p.0.1; item = p.0.2; judged = p.1 }
