use Rattle.gl_reference.proofs.Truths.{negated, first_holds, first_fails}
use Rattle.gl_reference.proofs.races.races_with.Goals as goal

pub returns-then-not-conflicts : goal.returns-then-not-conflicts
returns-then-not-conflicts c = first_fails c.conflicts.result _ _ c.if-not-conflicts.true c.conflicts.ensures

pub returns : goal.returns
returns c = first_holds c.conflicts.result _ _ _ c.if-not-conflicts.false c.conflicts.ensures (negated _ _ c.in_ok-ordered.ensures)
