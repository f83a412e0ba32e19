use Rattle.gl_explain.proofs.Owning.{AreOwnedBelow}
use Rattle.gl_explain.proofs.owned.owned.Given as goal

abbrev pub invariant-loop-m : goal.invariant-loop-m
invariant-loop-m l = AreOwnedBelow l.holders l.thread l.m l.monitors.items
