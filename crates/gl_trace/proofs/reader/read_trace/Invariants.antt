use Rattle.std.proofs.Common.{length}
use Rattle.gl_trace.specs.Reads.{IsReadTo}
use Rattle.gl_trace.proofs.reader.read_trace.Given as goal

abbrev pub invariant-loop-line : goal.invariant-loop-line
invariant-loop-line l = IsReadTo l.bytes l.kept.items l.reader

abbrev pub decreases-loop-line : goal.decreases-loop-line
decreases-loop-line l = length l.reader.lines.left
