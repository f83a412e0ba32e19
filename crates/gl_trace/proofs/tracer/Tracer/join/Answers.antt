use Rattle.std.proofs.Common.{◌≡◌, ◌+◌, false, OnOk, arith, subst, sym, rules}
use Rattle.gl_model.specs.Trace.{Tracing, with_end}
use Rattle.gl_trace.specs.Traced.{Traces}
use Rattle.gl_trace.proofs.TracerLemmas.{grown_more, join_late}
use Rattle.gl_trace.proofs.tracer.Tracer.join.Goals as goal

pub returns-then-self-from-clause-most : goal.returns-then-self-from-clause-most
returns-then-self-from-clause-most c = λ a b le h. c.act.ensures.most a b (omega arith) h

pub act-requires-2-clause-room : goal.act-requires-2-clause-room
act-requires-2-clause-room c = c.in_ok-end.ensures.most 18446744073709551613 18446744073709551614 (omega arith) c.requires.room

pub returns-clause-traces : goal.returns-clause-traces
returns-clause-traces c = λ s h.
    let on : s.ended c.args.other ≡ false = search rules in
    subst (λ (q : Tracing). OnOk c.act-2.result (Traces q c.act-2.new.self)) (sym (join_late c.args.thread c.args.other s on))
    (c.act-2.ensures.traces (with_end c.args.other s) (c.in_ok-end.ensures.traces s h))

pub returns-clause-most : goal.returns-clause-most
returns-clause-most c = λ a b le h. c.act-2.ensures.most (a + 1) b (omega arith) (c.in_ok-end.ensures.most a (a + 1) (omega arith) h)

pub returns-clause-kept : goal.returns-clause-kept
returns-clause-kept c = λ t. grown_more _ _ _ (c.in_ok-end.ensures.kept t) (c.act-2.ensures.kept t)
