use Rattle.std.proofs.Common.{take}
use Rattle.gl_model.specs.TraceSteps.{AreClean}
use Rattle.gl_core.specs.Follows.{Follows, IsReady}
use Rattle.gl_reference.specs.Follows.{Follows as FollowsPlainly}
use Rattle.gl_compare.proofs.Agreement.{AreGiven}
use Rattle.gl_compare.proofs.compare.agree.Given as goal

abbrev pub invariant-loop-thread : goal.invariant-loop-thread
invariant-loop-thread l = record {
  ready : IsReady l.detector;
  given : AreClean l.trace
      → AreGiven Follows FollowsPlainly (take l.thread-index l.trace) l.detector l.judge l.fn.tally l.tally;
}
