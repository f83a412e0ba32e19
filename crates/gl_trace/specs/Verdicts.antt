-- The text of the verdicts.
use Rattle.std.specs.Prelude.{ℕ, List, [], ◌∷◌, ◌++◌, Bool, true, false, codes, count_by, map}
use Rattle.std.specs.Fmt.{decimal}
use Rattle.std.specs.List.{flat_map}
use Rattle.gl_model.specs.declared.row.Judged.{Judged}
use Rattle.gl_model.specs.declared.row.Judged.TheVariants.{NoAccess, Performed, Raised}
use Rattle.gl_trace.specs.TraceLine.{TraceLine}
use Rattle.gl_trace.specs.Judging.{judged_lines}

abbrev pub line_end : List ℕ
line_end = 10 ∷ []

abbrev pub is_race : Judged → Bool
is_race NoAccess = false
is_race Performed = false
is_race (Raised var) = true

-- the line of a verdict; a line that is no access has none
abbrev pub verdict_line : ℕ → Judged → List ℕ
verdict_line line NoAccess = []
verdict_line line Performed = decimal line ++ (codes " ok" ++ line_end)
verdict_line line (Raised var) = decimal line ++ (codes " race" ++ line_end)

-- how many races there are
abbrev pub races_line : ℕ → List ℕ
races_line races = codes "races " ++ (decimal races ++ line_end)

-- what is said of the lines, alone
abbrev pub verdicts_said : List (TraceLine × Judged) → List Judged
verdicts_said said = map (λ p. p.1) said

-- the text of lines with what is said of each: a line for each access, and how many of them are races
abbrev pub said_text : List (TraceLine × Judged) → List ℕ
said_text said = flat_map (λ p. verdict_line p.0.0 p.1) said ++ races_line (count_by is_race (verdicts_said said))

-- the same, where the lines and what is said of them are two lists
abbrev pub verdict_text : List TraceLine → List Judged → List ℕ
verdict_text ls js = said_text (judged_lines ls js)
