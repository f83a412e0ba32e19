use Rattle.std.proofs.Common.{◌∙◌, ◌++◌, ◌∷◌, [], sym, subst, inl}
use Rattle.gl_trace.specs.Reads.{IsReadTo}
use Rattle.gl_trace.specs.TraceLine.{TraceLine}
use Rattle.gl_trace.specs.Trace.{IsTrace}
use Rattle.gl_run.specs.Check.{AnswersLines, lines_said}
use Rattle.gl_run.proofs.SaidLines.{lines_push, more_if_ok}
use Rattle.gl_run.proofs.check.check.Goals as goal

pub take-requires-clause-awaits : goal.take-requires-clause-awaits
take-requires-clause-awaits g c =
    let before = c.loop-line.invariant.0 in
    let line : TraceLine = (c.in-Ok-Some.line, c.in-Ok-Some.thread, c.next_line.new.item) in
    let next : IsReadTo c.args.input.now (lines_said before.done ++ line ∷ []) c.next_line.new.self =
    rw c.in-Ok-Some.field-0-is at (c.in-Ok-Some.ensures.line c.args.input.now (lines_said before.done) before.read) in
    record { done = before.done; said = before.said; lines = next.reads.well }

pub loop-line-preserved : goal.loop-line-preserved
loop-line-preserved g c =
    let before = c.loop-line.invariant.0 in
    let line : TraceLine = (c.in-Ok-Some.line, c.in-Ok-Some.thread, c.next_line.new.item) in
    let next : IsReadTo c.args.input.now (lines_said before.done ++ line ∷ []) c.next_line.new.self =
    rw c.in-Ok-Some.field-0-is at (c.in-Ok-Some.ensures.line c.args.input.now (lines_said before.done) before.read) in
    let on = c.in_ok-take-in-Ok-Some.ensures.said before.done before.said next.reads.well in (
      record {
        done = before.done ++ (line, on.0) ∷ [];
        read = subst (λ x. IsReadTo c.args.input.now x c.next_line.new.self) (sym (lines_push before.done line on.0)) next;
        said = on.1;
      },
      c.in_ok-take-in-Ok-Some.ensures.keep ∙ c.loop-line.invariant.1,
    )

pub returns-in-Ok-None-clause-answer : goal.returns-in-Ok-None-clause-answer
returns-in-Ok-None-clause-answer g c =
    let before = c.loop-line.invariant.0 in
    let meaning : IsTrace c.args.input.now (lines_said before.done) =
    rw c.in-Ok-None.field-0-is at (c.in-Ok-None.ensures.line c.args.input.now (lines_said before.done) before.read) in
    more_if_ok _ _ c.page.result
    (λ p answer. inl (record {
      trace = lines_said before.done;
      meaning = meaning;
      answer = subst (λ k. AnswersLines k (lines_said before.done) p.status p.text.items p.kept) c.loop-line.invariant.1 answer;
    }))
    (c.page.ensures before.done before.said before.read.reads.well)
