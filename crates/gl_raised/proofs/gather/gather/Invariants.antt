use Rattle.gl_model.specs.Lists.{lists_of}
use Rattle.gl_raised.specs.Gathers.{AreGathered}
use Rattle.gl_raised.proofs.gather.gather.Given as goal

abbrev pub invariant-loop-thread : goal.invariant-loop-thread
invariant-loop-thread l = AreGathered (lists_of l.made) (record { thread = l.thread; index = 0 }) l.all.claims.items l.all.accesses.items
