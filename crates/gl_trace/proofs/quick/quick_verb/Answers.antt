use Rattle.std.proofs.Common.{◌≡◌, ◌-◌, ◌∙◌, Ok, Some, sym, ap, subst}
use Rattle.gl_model.specs.declared.limits.TheConstants.{THREADS}
use Rattle.gl_trace.specs.Form.{most_of}
use Rattle.gl_trace.specs.Ids.{operand_of}
use Rattle.gl_trace.proofs.QuickLemmas.{usual_line}
use Rattle.gl_trace.proofs.quick.quick_verb.Goals as goal

pub returns-clause-said : goal.returns-clause-said
returns-clause-said c =
    let t = c.in_ok-thread.ensures.value in
    let v = c.in_ok-verb.ensures in
    let n = c.in_ok-operand.ensures.value in
    let first : operand_of (THREADS - 1) t.0 ≡ Ok c.in_ok-thread.thread =
    subst (λ k. operand_of (k - 1) t.0 ≡ Ok c.in_ok-thread.thread) c.from.ensures t.2 in
    let last : operand_of (most_of c.in_ok-verb.verb) n.0
    ≡ Ok c.in_ok-operand.operand = subst (λ k. operand_of k n.0 ≡ Ok c.in_ok-operand.operand) c.most.ensures n.2 in
    let line = usual_line c.args.text.now c.in_ok-thread.rest.now c.in_ok-verb.last.now c.in_ok-operand.behind.now t.0 v.0 n.0
    c.in_ok-thread.thread c.in_ok-operand.operand c.in_ok-verb.verb t.1 v.1 n.1 first v.2 last in
    (line.0, line.1, line.2 ∙ ap (λ i. Ok (Some (c.in_ok-thread.thread, i))) (sym c.with.ensures.value))
