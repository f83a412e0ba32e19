use Rattle.std.proofs.Common.{◌+◌, ◌*◌, ◌≤◌, ◌++◌, ◌∷◌, [], length, length-append, arith, OnOk, subst, sym}
use Rattle.gl_model.specs.Trace.{Line, after_lines, before_lines}
use Rattle.gl_trace.specs.Traced.{Traces}
use Rattle.gl_run.proofs.JudgedLines.{after_push}
use Rattle.gl_run.proofs.SaidLines.{both_on_ok}
use Rattle.gl_run.proofs.verdicts.record_line.Goals as goal

pub returns-in-Some-clause-recorded : goal.returns-in-Some-clause-recorded
returns-in-Some-clause-recorded c = λ lines recorded.
    let line : Line = record { thread = c.args.thread; item = c.args.item.now; judged = c.args.judged } in
    let more : (2 * length lines + 1) + 2 ≤ 2 * length (lines ++ line ∷ []) + 1 = omega (arith, length-append lines (line ∷ [])) in
    let is = rw c.in-Some.is at recorded in
    both_on_ok _ _ c.item.result
    (subst (λ s. OnOk c.item.result (Traces s c.item.new.self)) (sym (after_push lines line before_lines))
    (c.item.ensures.traces (after_lines lines before_lines) is.0))
    (c.item.ensures.most (2 * length lines + 1) (2 * length (lines ++ line ∷ []) + 1) more is.1)
