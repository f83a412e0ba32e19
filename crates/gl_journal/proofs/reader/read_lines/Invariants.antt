use Rattle.std.proofs.Common.{◌<◌, length}
use Rattle.std.specs.Prelude.{IfSome}
use Rattle.gl_model.specs.declared.limits.TheConstants.{THREADS}
use Rattle.gl_journal.proofs.Reading.{Reads}
use Rattle.gl_journal.proofs.reader.read_lines.Given as goal

-- how far the text was read
abbrev pub invariant-loop-line : goal.invariant-loop-line
invariant-loop-line l = Reads l.bytes l.lines.given l.lines.left l.standing × IfSome l.standing.thread (λ t. t < THREADS)

abbrev pub decreases-loop-line : goal.decreases-loop-line
decreases-loop-line l = length l.lines.left
