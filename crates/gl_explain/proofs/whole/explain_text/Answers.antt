use Rattle.std.proofs.Common.{◌++◌, ◌∷◌, [], ◌∙◌, inl, subst}
use Rattle.gl_trace.specs.Reads.{IsReadTo}
use Rattle.gl_trace.specs.TraceLine.{TraceLine}
use Rattle.gl_trace.specs.Trace.{IsTrace}
use Rattle.gl_names.specs.Names.{name_of}
use Rattle.gl_explain.specs.Answers.{ExplainsLines}
use Rattle.gl_explain.specs.Told.{trace_of}
use Rattle.gl_explain.proofs.Reading.{taken_on, more_if_ok}
use Rattle.gl_explain.proofs.whole.explain_text.Goals as goal

pub take-requires-clause-awaits : goal.take-requires-clause-awaits
take-requires-clause-awaits g c =
    let before = c.loop-line.invariant in
    let line : TraceLine = (c.in-Ok-Some.line, c.in-Ok-Some.thread, c.next_line.new.item) in
    let next : IsReadTo c.args.input.now (trace_of before.done ++ line ∷ []) c.next_line.new.self =
    rw c.in-Ok-Some.field-0-is at (c.in-Ok-Some.ensures.line c.args.input.now (trace_of before.done) before.read) in
    record { done = before.done; told = before.told; lines = next.reads.well }

pub loop-line-preserved : goal.loop-line-preserved
loop-line-preserved g c =
    let before = c.loop-line.invariant in
    let line : TraceLine = (c.in-Ok-Some.line, c.in-Ok-Some.thread, c.next_line.new.item) in
    let next : IsReadTo c.args.input.now (trace_of before.done ++ line ∷ []) c.next_line.new.self =
    rw c.in-Ok-Some.field-0-is at (c.in-Ok-Some.ensures.line c.args.input.now (trace_of before.done) before.read) in
    taken_on c.args.input.now before.done line c.next_line.new.self c.take.new.self c.in_ok-take-in-Ok-Some.field-0 next
    (c.in_ok-take-in-Ok-Some.ensures.told before.done before.told next.reads.well) (c.in_ok-take-in-Ok-Some.ensures.names ∙ before.named)

pub loop-line-preserved-in_ok-take-in-Ok-Some : goal.loop-line-preserved-in_ok-take-in-Ok-Some
loop-line-preserved-in_ok-take-in-Ok-Some g c =
    let before = c.loop-line.invariant in
    let line : TraceLine = (c.in-Ok-Some.line, c.in-Ok-Some.thread, c.next_line.new.item) in
    let next : IsReadTo c.args.input.now (trace_of before.done ++ line ∷ []) c.next_line.new.self =
    rw c.in-Ok-Some.field-0-is at (c.in-Ok-Some.ensures.line c.args.input.now (trace_of before.done) before.read) in
    taken_on c.args.input.now before.done line c.next_line.new.self c.take.new.self c.in_ok-take-in-Ok-Some.field-0 next
    (c.in_ok-take-in-Ok-Some.ensures.told before.done before.told next.reads.well) (c.in_ok-take-in-Ok-Some.ensures.names ∙ before.named)

pub returns-in-Ok-None : goal.returns-in-Ok-None
returns-in-Ok-None g c =
    let before = c.loop-line.invariant in
    let meaning : IsTrace c.args.input.now (trace_of before.done) =
    rw c.in-Ok-None.field-0-is at (c.in-Ok-None.ensures.line c.args.input.now (trace_of before.done) before.read) in
    more_if_ok _ _ c.page.result (λ p answer. inl (record {
      told = before.done;
      meaning = meaning;
      answer = subst (λ text. ExplainsLines (name_of text) before.done p.status p.text.items) before.named answer;
    }))
    (c.page.ensures before.done before.told)
