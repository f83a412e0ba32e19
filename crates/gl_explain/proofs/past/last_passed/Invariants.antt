use Rattle.gl_explain.specs.Races.{IsPassed}
use Rattle.gl_explain.proofs.Counting.{IsLastBelow}
use Rattle.gl_explain.proofs.past.last_passed.Given as goal

abbrev pub invariant-loop-i : goal.invariant-loop-i
invariant-loop-i l = IsLastBelow (IsPassed l.kept l.thread l.known) l.i l.place
