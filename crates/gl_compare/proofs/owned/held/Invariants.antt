use Rattle.gl_compare.specs.Held.{hold_of}
use Rattle.gl_compare.proofs.Holding.{AreLeastBelow}
use Rattle.gl_compare.proofs.owned.held.Given as goal

-- the least of the monitors that were looked at
abbrev pub invariant-loop-monitor : goal.invariant-loop-monitor
invariant-loop-monitor l = AreLeastBelow (λ m. hold_of m l.events) l.thread l.monitor l.held
