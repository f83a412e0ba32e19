-- what the lines so far define, and the others
use Rattle.std.proofs.Common.{◌≡◌, ◌+◌, ◌++◌, length}
use Rattle.std.specs.Str.Lines.{lines}
use Rattle.gl_asm.specs.Definitions.{definitions, definitions_from}
use Rattle.gl_asm.proofs.definitions.definitions.Given as goal

abbrev pub invariant-loop-line : goal.invariant-loop-line
invariant-loop-line l = l.table ++ definitions_from l.counts (l.lines.given + 1) l.lines.left ≡ definitions (lines l.text)

abbrev pub decreases-loop-line : goal.decreases-loop-line
decreases-loop-line l = length l.lines.left
