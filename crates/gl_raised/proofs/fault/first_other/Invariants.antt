use Rattle.gl_raised.specs.Sorted.{AreFound}
use Rattle.gl_raised.proofs.fault.first_other.Given as goal

abbrev pub invariant-loop-k : goal.invariant-loop-k
invariant-loop-k l = AreFound l.claims l.least l.k
