use Rattle.gl_reference.proofs.Truths.{eq_test, negated, truth, none_test, either, both}
use Rattle.gl_reference.proofs.races.conflicts.Goals as goal

pub returns : goal.returns
returns c =
    let p = c.args.earlier.now in
    let n = c.args.next.now in
    both _ _ _ _ (both _ _ _ _ (both _ _ _ _ (eq_test p.var n.var) (negated _ _ (eq_test p.access.thread n.thread)))
    (either _ _ _ _ (truth p.write) (truth n.write)))
    (either _ _ _ _ (none_test p.access.variables c.is_none.result c.is_none.ensures)
    (none_test n.variables c.is_none-2.result c.is_none-2.ensures))
