use Rattle.std.proofs.Common.{sym, ◌∙◌}
use Rattle.gl_txn.proofs.Changes.{at_item, first_here, unchanged_next, unchanged_all}
use Rattle.gl_txn.proofs.changing.first_change.Goals as goal

pub returns-then-is_some : goal.returns-then-is_some
returns-then-is_some c =
    first_here c.args.looks.now c.args.rows.now c.loop-taken.taken-index c.taken-item.result c.change_of-change.result
    (sym c.is_some.ensures ∙ c.if-is_some.true) c.change_of-change.ensures
    (at_item c.args.rows.now c.loop-taken.taken-index c.taken-item.result c.loop-taken-test.true c.taken-item.is) c.loop-taken.invariant

pub loop-taken-preserved : goal.loop-taken-preserved
loop-taken-preserved c =
    unchanged_next c.args.looks.now c.args.rows.now c.loop-taken.taken-index c.taken-item.result c.change_of-change.result
    (sym c.is_some.ensures ∙ c.if-is_some.false) c.change_of-change.ensures
    (at_item c.args.rows.now c.loop-taken.taken-index c.taken-item.result c.loop-taken-test.true c.taken-item.is) c.loop-taken.invariant

pub returns : goal.returns
returns c = unchanged_all c.args.looks.now c.args.rows.now c.loop-taken.taken-index c.loop-taken-test.false c.loop-taken.invariant
