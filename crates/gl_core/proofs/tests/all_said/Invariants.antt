use Rattle.gl_core.specs.Follows.{IsReady}
use Rattle.gl_core.proofs.tests.all_said.Given as goal

abbrev pub invariant-loop-thread : goal.invariant-loop-thread
invariant-loop-thread l = IsReady l.judge
