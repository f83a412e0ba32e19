use Rattle.std.proofs.Common.{arith}
use Rattle.gl_trace.proofs.tracer.Tracer.line.Goals as goal

pub returns-in-Acq-clause-most : goal.returns-in-Acq-clause-most
returns-in-Acq-clause-most c = λ a b le h. c.act-in-Acq.ensures.most a b (omega arith) h

pub returns-in-Rel-clause-most : goal.returns-in-Rel-clause-most
returns-in-Rel-clause-most c = λ a b le h. c.act-in-Rel.ensures.most a b (omega arith) h

pub returns-in-VRead-clause-most : goal.returns-in-VRead-clause-most
returns-in-VRead-clause-most c = λ a b le h. c.act-in-VRead.ensures.most a b (omega arith) h

pub returns-in-VWrite-clause-most : goal.returns-in-VWrite-clause-most
returns-in-VWrite-clause-most c = λ a b le h. c.act-in-VWrite.ensures.most a b (omega arith) h
