use Rattle.std.proofs.Common.{length}
use Rattle.gl_explain.proofs.Reading.{AreTaken}
use Rattle.gl_explain.proofs.whole.explain_text.Given as goal

abbrev pub invariant-loop-line : goal.invariant-loop-line
invariant-loop-line g l = AreTaken l.input l.reader l.explainer

abbrev pub decreases-loop-line : goal.decreases-loop-line
decreases-loop-line g l = length l.reader.lines.left
