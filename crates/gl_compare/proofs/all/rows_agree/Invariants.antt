use Rattle.std.proofs.Common.{take}
use Rattle.gl_model.specs.TraceSteps.{AreClean}
use Rattle.gl_core.specs.Follows.{Follows, IsReady}
use Rattle.gl_compare.specs.Kept.{IsReady as AreRowsReady}
use Rattle.gl_compare.specs.RowsFollow.{Follows as FollowsRows}
use Rattle.gl_compare.proofs.Agreement.{AreGiven}
use Rattle.gl_compare.proofs.all.rows_agree.Given as goal

abbrev pub invariant-loop-thread : goal.invariant-loop-thread
invariant-loop-thread l = record {
  ready : IsReady l.detector;
  rows : AreRowsReady l.rows;
  given : AreClean l.trace
      → AreGiven FollowsRows Follows (take l.thread-index l.trace) l.rows l.detector l.fn.tally l.tally;
}
