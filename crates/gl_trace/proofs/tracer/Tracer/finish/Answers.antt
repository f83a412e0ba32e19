use Rattle.std.proofs.Common.{◌≡◌, ◌∙◌, true, false, OnOk, arith, subst, sym, rules}
use Rattle.std.proofs.lemmas.Bool.{not-true}
use Rattle.gl_model.specs.Trace.{Tracing, is_empty, with_end}
use Rattle.gl_trace.specs.Traced.{Traces}
use Rattle.gl_trace.proofs.TracerLemmas.{ending_over, ending_end, on_any, up_more}
use Rattle.gl_trace.proofs.tracer.Tracer.finish.Goals as goal

pub returns-then-self-from-clause-traces : goal.returns-then-self-from-clause-traces
returns-then-self-from-clause-traces c = λ s h.
    let has : c.has_begun.result ≡ true = search rules in
    let some : is_empty (s.lists c.args.thread)
    ≡ false = not-true (is_empty (s.lists c.args.thread)) (sym (c.has_begun.ensures s h) ∙ has) in
    let over : s.ended c.args.thread ≡ true = search rules in
    subst (λ (q : Tracing). OnOk c.close.result (Traces q c.close.new.self)) (sym (ending_over c.args.thread s some over))
    (c.close.ensures.traces s h)

pub returns-clause-traces : goal.returns-clause-traces
returns-clause-traces c = λ s h.
    let has : c.has_begun.result ≡ true = search rules in
    let some : is_empty (s.lists c.args.thread)
    ≡ false = not-true (is_empty (s.lists c.args.thread)) (sym (c.has_begun.ensures s h) ∙ has) in
    let on : s.ended c.args.thread ≡ false = search rules in
    subst (λ (q : Tracing). OnOk c.close-2.result (Traces q c.close-2.new.self)) (sym (ending_end c.args.thread s some on))
    (c.close-2.ensures.traces (with_end c.args.thread s) (c.in_ok-end.ensures.traces s h))

pub returns-then-self-from-clause-most : goal.returns-then-self-from-clause-most
returns-then-self-from-clause-most c = λ a b le h. on_any c.close.result
    (up_more c.close.new.self a b (omega arith) (c.close.ensures.most a h))

pub returns-clause-most : goal.returns-clause-most
returns-clause-most c = λ a b le h. on_any c.close-2.result (c.close-2.ensures.most b (c.in_ok-end.ensures.most a b le h))
