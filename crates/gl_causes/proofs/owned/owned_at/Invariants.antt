use Rattle.gl_causes.proofs.Owning.{AreOwnedBelow}
use Rattle.gl_causes.proofs.owned.owned_at.Given as goal

abbrev pub invariant-loop-m : goal.invariant-loop-m
invariant-loop-m l = AreOwnedBelow l.depths l.m l.monitors.items
