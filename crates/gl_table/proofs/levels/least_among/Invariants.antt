-- those of the candidates that were looked at
use Rattle.std.proofs.Common.{get_or}
use Rattle.gl_model.specs.declared.limits.TheConstants.{MONITORS}
use Rattle.gl_table.proofs.LeastEntered.{AreLeastBelow}
use Rattle.gl_table.proofs.levels.least_among.Given as goal

abbrev pub invariant-loop-monitor : goal.invariant-loop-monitor
invariant-loop-monitor l = AreLeastBelow l.counts (get_or l.monitors l.monitor-index MONITORS) l.held
