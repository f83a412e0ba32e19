use Rattle.std.proofs.Common.{◌+◌, arith}
use Rattle.gl_model.specs.Trace.{with_act}
use Rattle.gl_model.specs.declared.event.Act.TheVariants.{Fork}
use Rattle.gl_trace.proofs.TracerLemmas.{grown_more}
use Rattle.gl_trace.proofs.tracer.Tracer.fork.Goals as goal

pub act-requires-2-clause-room : goal.act-requires-2-clause-room
act-requires-2-clause-room c = c.in_ok-act.ensures.most 18446744073709551613 18446744073709551614 (omega arith) c.requires.room

pub returns-clause-traces : goal.returns-clause-traces
returns-clause-traces c = λ s h.
    c.act-2.ensures.traces (with_act c.args.thread (Fork c.args.child c.args.func) s) (c.in_ok-act.ensures.traces s h)

pub returns-clause-most : goal.returns-clause-most
returns-clause-most c = λ a b le h. c.act-2.ensures.most (a + 1) b (omega arith) (c.in_ok-act.ensures.most a (a + 1) (omega arith) h)

pub returns-clause-kept : goal.returns-clause-kept
returns-clause-kept c = λ t. grown_more _ _ _ (c.in_ok-act.ensures.kept t) (c.act-2.ensures.kept t)
