use Rattle.std.proofs.Common.{◌≡◌, drop}
use Rattle.std.specs.Prelude.{◌||◌}
use Rattle.gl_core.specs.Cells.{at}
use Rattle.gl_core.specs.Marks.{marks_fail}
use Rattle.gl_core.proofs.latest.any_fails.Given as goal

abbrev pub invariant-loop-u : goal.invariant-loop-u
invariant-loop-u l = (l.fails || marks_fail (at l.known) l.u (drop l.u l.marks)) ≡ marks_fail (at l.known) 0 l.marks
