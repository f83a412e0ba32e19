use Rattle.std.proofs.Common.{subst}
use Rattle.gl_rows.specs.Moving.{IsRowMovedTo}
use Rattle.gl_rows.proofs.Windows.{has_walked}
use Rattle.gl_rows.proofs.Moved.{row_lifted, row_above}
use Rattle.gl_rows.proofs.advancing.lift_row.Goals as goal

pub returns-clause-pass : goal.returns-clause-pass
returns-clause-pass c = has_walked c.args.row.now c.least-from.result c.args.to c.load.new.window.items c.args.pass.now c.load.new.pass
    c.load.ensures.pass c.load.ensures.ends c.least-from.ensures.named

pub returns-clause-moved : goal.returns-clause-moved
returns-clause-moved c = λ setting l f.
    row_lifted setting c.args.pass.now c.load.new.pass c.least-from.result c.args.to c.load.new.window.items c.args.row.now
    c.move_row.new.row c.load.ensures.pass c.load.ensures.ends c.requires.to c.least-from.ensures.below c.requires.within
    (subst (λ w. IsRowMovedTo c.least-from.result c.args.to w c.args.row.now c.move_row.new.row) c.as_slice.ensures.value
    c.move_row.ensures) l f

pub returns-clause-above : goal.returns-clause-above
returns-clause-above c = row_above c.least-from.result c.args.to _ c.args.row.now c.move_row.new.row c.move_row.ensures
