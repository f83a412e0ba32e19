use Rattle.std.proofs.Common.{length, ◌-◌}
use Rattle.gl_audited.proofs.CutLines.{IsCutSoFar}
use Rattle.gl_audited.proofs.cut.cut_text.Given as goal

abbrev pub invariant-loop-at : goal.invariant-loop-at
invariant-loop-at l = IsCutSoFar l.text l.at l.lines

abbrev pub decreases-loop-at : goal.decreases-loop-at
decreases-loop-at l = length l.text - l.at
