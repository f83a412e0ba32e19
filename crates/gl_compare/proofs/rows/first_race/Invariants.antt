use Rattle.std.proofs.Common.{◌≡◌, ℕ, ◌<◌, Some, false}
use Rattle.std.specs.Prelude.{slice_get}
use Rattle.gl_compare.specs.Rows.{row_of, asked_part, Tells}
use Rattle.gl_compare.proofs.rows.first_race.Given as goal

-- the answer was no for each variable that was looked at
abbrev pub invariant-loop-var : goal.invariant-loop-var
invariant-loop-var l = (k y : ℕ) → k < l.var-index → slice_get l.var-items k ≡ Some y
    → Tells l.events (row_of l.rows y) (asked_part l.commit l.writes y) false
