use Rattle.std.proofs.Common.{map}
use Rattle.gl_model.specs.Lists.{lists_of}
use Rattle.gl_sites.proofs.RecordMakers.{AreMadeBelow}
use Rattle.gl_sites.proofs.recorded.makers_of.Given as goal

abbrev pub invariant-loop-thread : goal.invariant-loop-thread
invariant-loop-thread l = AreMadeBelow l.program l.steps (lists_of l.made) l.thread (map (λ v. v.items) l.all.items)
