use Rattle.std.proofs.Common.{length}
use Rattle.gl_trace.proofs.QuickLists.{IsListed}
use Rattle.gl_trace.proofs.quick.rising_before.Given as goal

abbrev pub invariant-loop-id : goal.invariant-loop-id
invariant-loop-id l = IsListed l.text l.kept l.rest

abbrev pub decreases-loop-id : goal.decreases-loop-id
decreases-loop-id l = length l.rest
