use Rattle.std.proofs.Common.{◌≡◌, length}
use Rattle.gl_reference.specs.Steps.{access_of, AreMarks}
use Rattle.gl_reference.proofs.reach.reached.Given as goal

abbrev pub invariant-loop-i : goal.invariant-loop-i
invariant-loop-i l = record { right : AreMarks l.events (access_of l.access) l.marks.items; long : length l.marks.items ≡ l.i }
