use Rattle.std.proofs.Common.{ℕ, ◌<◌}
use Rattle.gl_reference.specs.Steps.{Leads, IsMarked}
use Rattle.gl_reference.proofs.reach.is_led_to.Given as goal

abbrev pub invariant-loop-p : goal.invariant-loop-p
invariant-loop-p l = (k : ℕ) → k < l.p → IsMarked l.events l.marks (λ r. Leads r l.s) k → ⊥
