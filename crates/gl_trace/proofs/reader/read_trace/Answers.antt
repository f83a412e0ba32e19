use Rattle.std.proofs.Common.{rules, ◌≡◌, ◌++◌, ◌∷◌, []}
use Rattle.gl_trace.specs.TraceLine.{TraceLine}
use Rattle.gl_trace.proofs.reader.read_trace.Goals as goal

pub loop-line-preserved : goal.loop-line-preserved
loop-line-preserved c =
    let line : TraceLine = (c.in-Ok-Some.line, c.in-Ok-Some.thread, c.next_line.new.item) in
    let items : c.push.new.self.items ≡ c.loop-line.kept.items ++ line ∷ [] = search rules in
    rw items (rw c.in-Ok-Some.field-0-is at (c.in-Ok-Some.ensures.line c.args.bytes.now c.loop-line.kept.items c.loop-line.invariant))
