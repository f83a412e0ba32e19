use Rattle.std.proofs.Common.{ℕ, ◌<◌, map}
use Rattle.std.specs.Prelude.{◌⊎◌, ◌↔◌}
use Rattle.gl_core.specs.Cells.{at}
use Rattle.gl_causes.specs.Stands.{stand_seen}
use Rattle.gl_causes.proofs.Walks.{IsLearnedBelow}
use Rattle.gl_causes.proofs.learn.learn.Given as goal

abbrev pub invariant-loop-place : goal.invariant-loop-place
invariant-loop-place l =
    (u n : ℕ) → (n < at l.known u) ↔ ((n < at l.fn.known u)
    ⊎ IsLearnedBelow l.rows (map stand_seen l.stands) l.later l.place-index u n)
