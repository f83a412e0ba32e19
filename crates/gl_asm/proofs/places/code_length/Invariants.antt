-- the instructions so far, and those of the lines that are left
use Rattle.std.proofs.Common.{◌≡◌, length}
use Rattle.std.specs.Str.Lines.{lines}
use Rattle.gl_asm.specs.Texts.{code_from, code_length}
use Rattle.gl_asm.proofs.places.code_length.Given as goal

abbrev pub invariant-loop-line : goal.invariant-loop-line
invariant-loop-line l = code_from l.function l.count l.counts l.lines.left ≡ code_length (lines l.text) l.function

abbrev pub decreases-loop-line : goal.decreases-loop-line
decreases-loop-line l = length l.lines.left
