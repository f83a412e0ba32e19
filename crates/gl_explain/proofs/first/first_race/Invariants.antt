use Rattle.std.proofs.Common.{length}
use Rattle.gl_explain.proofs.Seeking.{AreSeen}
use Rattle.gl_explain.proofs.first.first_race.Given as goal

abbrev pub invariant-loop-line : goal.invariant-loop-line
invariant-loop-line g l = AreSeen l.input l.reader l.explainer l.first

abbrev pub decreases-loop-line : goal.decreases-loop-line
decreases-loop-line g l = length l.reader.lines.left
