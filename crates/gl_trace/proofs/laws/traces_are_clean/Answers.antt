use Rattle.gl_trace.proofs.WholeTraces.{trace_well}
use Rattle.gl_trace.proofs.laws.traces_are_clean.Goals as goal

pub returns-clause-range : goal.returns-clause-range
returns-clause-range c = λ text trace is. (trace_well text trace is).range

pub returns-clause-clean : goal.returns-clause-clean
returns-clause-clean c = λ text trace is. (trace_well text trace is).clean
