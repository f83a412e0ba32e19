use Rattle.std.proofs.Common.{map}
use Rattle.gl_model.specs.Lists.{lists_of}
use Rattle.gl_causes.specs.Stands.{AreStands, stand_seen}
use Rattle.gl_causes.proofs.stands.stands_of.Given as goal

abbrev pub invariant-loop-thread : goal.invariant-loop-thread
invariant-loop-thread l = AreStands (lists_of l.made) (record { thread = l.thread; index = 0 }) (map stand_seen l.stands.items)
