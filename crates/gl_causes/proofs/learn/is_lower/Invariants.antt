use Rattle.std.proofs.Common.{◌≡◌, ◌≤◌, false, length, take}
use Rattle.gl_causes.specs.Learning.{is_lower}
use Rattle.gl_causes.proofs.learn.is_lower.Given as goal

abbrev pub invariant-loop-i : goal.invariant-loop-i
invariant-loop-i l = record { within : l.i ≤ length l.later; so_far : is_lower l.earlier (take l.i l.later) ≡ false }
