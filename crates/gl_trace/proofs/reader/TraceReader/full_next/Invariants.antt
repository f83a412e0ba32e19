use Rattle.std.proofs.Common.{◌≤◌, ℕ, List, length}
use Rattle.gl_trace.specs.Reads.{IsReadTo}
use Rattle.gl_trace.specs.TraceLine.{TraceLine}
use Rattle.gl_trace.proofs.reader.TraceReader.full_next.Given as goal

-- no line since said anything
abbrev pub invariant-loop-line : goal.invariant-loop-line
invariant-loop-line l =
    ((text : List ℕ) (made : List TraceLine) → IsReadTo text made l.fn.self → IsReadTo text made l.self)
    × (length l.self.lines.left ≤ length l.fn.self.lines.left)

abbrev pub decreases-loop-line : goal.decreases-loop-line
decreases-loop-line l = length l.self.lines.left
