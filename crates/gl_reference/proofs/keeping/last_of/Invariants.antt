use Rattle.std.proofs.Common.{◌≡◌}
use Rattle.std.specs.Prelude.{◌⊎◌}
use Rattle.gl_reference.proofs.Places.{Upto, IsOf}
use Rattle.gl_reference.proofs.keeping.last_of.Given as goal

abbrev pub invariant-loop-p : goal.invariant-loop-p
invariant-loop-p l = record { upto : Upto l.events l.thread l.p l.last; there : (l.last ≡ 0) ⊎ IsOf l.events l.thread l.last }
