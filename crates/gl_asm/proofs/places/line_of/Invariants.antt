-- the line is that of the lines that are left
use Rattle.std.proofs.Common.{◌≡◌, ◌+◌, length}
use Rattle.std.specs.Str.Lines.{lines}
use Rattle.gl_asm.specs.Texts.{line_from, line_of}
use Rattle.gl_asm.proofs.places.line_of.Given as goal

abbrev pub invariant-loop-line : goal.invariant-loop-line
invariant-loop-line l = line_from l.place l.counts (l.lines.given + 1) l.lines.left ≡ line_of (lines l.text) l.place

abbrev pub decreases-loop-line : goal.decreases-loop-line
decreases-loop-line l = length l.lines.left
