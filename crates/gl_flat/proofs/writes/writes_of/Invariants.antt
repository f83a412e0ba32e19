use Rattle.gl_model.specs.Lists.{lists_of}
use Rattle.gl_flat.proofs.Gathering.{AreWritesBelow}
use Rattle.gl_flat.proofs.writes.writes_of.Given as goal

-- those of the threads so far
abbrev pub invariant-loop-thread : goal.invariant-loop-thread
invariant-loop-thread l = AreWritesBelow (lists_of l.made) l.thread l.writes.items
