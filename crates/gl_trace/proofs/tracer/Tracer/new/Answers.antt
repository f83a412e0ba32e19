use Rattle.std.proofs.Common.{arith}
use Rattle.gl_trace.specs.Traced.{nothing}
use Rattle.gl_trace.proofs.tracer.Tracer.new.Goals as goal

pub returns-clause-traces : goal.returns-clause-traces
returns-clause-traces c = c.in_ok-act.ensures.traces nothing c.empty-tracer.ensures.traces

pub returns-clause-most : goal.returns-clause-most
returns-clause-most c = c.in_ok-act.ensures.most 0 1 (omega arith) c.empty-tracer.ensures.most
