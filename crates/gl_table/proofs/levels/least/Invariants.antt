use Rattle.gl_table.proofs.LeastEntered.{AreLeastBelow}
use Rattle.gl_table.proofs.levels.least.Given as goal

abbrev pub invariant-loop-monitor : goal.invariant-loop-monitor
invariant-loop-monitor l = AreLeastBelow l.counts l.monitor l.held
