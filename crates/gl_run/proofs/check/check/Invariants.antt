use Rattle.std.proofs.Common.{◌≡◌, length}
use Rattle.gl_run.specs.Recording.{keep_of}
use Rattle.gl_run.proofs.SaidLines.{AreChecked}
use Rattle.gl_run.proofs.check.check.Given as goal

abbrev pub invariant-loop-line : goal.invariant-loop-line
invariant-loop-line g l = AreChecked l.input l.reader l.verdicts × (keep_of l.verdicts.tracer ≡ l.fn.keep)

abbrev pub decreases-loop-line : goal.decreases-loop-line
decreases-loop-line g l = length l.reader.lines.left
