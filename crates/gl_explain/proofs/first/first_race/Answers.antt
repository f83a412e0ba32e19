use Rattle.std.proofs.Common.{◌++◌, ◌∷◌, [], ◌∙◌}
use Rattle.gl_trace.specs.Reads.{IsReadTo}
use Rattle.gl_trace.specs.TraceLine.{TraceLine}
use Rattle.gl_explain.specs.Follows.{told_as}
use Rattle.gl_explain.specs.Told.{trace_of}
use Rattle.gl_explain.proofs.Seeking.{seen_none, seen_on}
use Rattle.gl_explain.proofs.first.first_race.Goals as goal

pub loop-line-init : goal.loop-line-init
loop-line-init g c = seen_none c.args.input.now c.in-Ok.reader c.in_ok-explainer.explainer c.in-Ok.ensures.reads
    c.in_ok-explainer.ensures.told c.in_ok-explainer.ensures.names

pub take-requires-clause-awaits : goal.take-requires-clause-awaits
take-requires-clause-awaits g c =
    let before = c.loop-line.invariant.taken in
    let line : TraceLine = (c.in-Ok-Some.line, c.in-Ok-Some.thread, c.next_line.new.item) in
    let next : IsReadTo c.args.input.now (trace_of before.done ++ line ∷ []) c.next_line.new.self =
    rw c.in-Ok-Some.field-0-is at (c.in-Ok-Some.ensures.line c.args.input.now (trace_of before.done) before.read) in
    record { done = before.done; told = before.told; lines = next.reads.well }

pub loop-line-preserved : goal.loop-line-preserved
loop-line-preserved g c =
    let before = c.loop-line.invariant.taken in
    let line : TraceLine = (c.in-Ok-Some.line, c.in-Ok-Some.thread, c.next_line.new.item) in
    let next : IsReadTo c.args.input.now (trace_of before.done ++ line ∷ []) c.next_line.new.self =
    rw c.in-Ok-Some.field-0-is at (c.in-Ok-Some.ensures.line c.args.input.now (trace_of before.done) before.read) in
    let on = c.in_ok-found-in-Ok-Some.ensures.told before.done before.told next.reads.well in
    seen_on c.args.input.now before.done line c.next_line.new.self c.take.new.self c.in_ok-found-in-Ok-Some.found
    c.earlier-first.result next
    on (c.in_ok-found-in-Ok-Some.ensures.names ∙ before.named)
    (c.earlier-first.ensures before.done (told_as line on.0) (c.count-race.ensures before.done before.told)
    c.loop-line.invariant.first_is on.2)
