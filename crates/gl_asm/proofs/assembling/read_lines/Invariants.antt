-- what there is behind the lines so far
use Rattle.std.proofs.Common.{length}
use Rattle.gl_asm.proofs.Reading.{Reads}
use Rattle.gl_asm.proofs.assembling.read_lines.Given as goal

abbrev pub invariant-loop-line : goal.invariant-loop-line
invariant-loop-line l = Reads l.table l.text l.parts l.inputs l.counts l.lines

abbrev pub decreases-loop-line : goal.decreases-loop-line
decreases-loop-line l = length l.lines.left
