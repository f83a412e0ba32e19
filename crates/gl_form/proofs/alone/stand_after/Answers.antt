use Rattle.std.proofs.Common.{sym, arith, ◌≡◌}
use Rattle.gl_model.specs.declared.limits.TheConstants.{TX_VARIABLES}
use Rattle.gl_form.proofs.Parted.{AfterBelow, after_more, after_past, all_after, none_after, numbers_few}
use Rattle.gl_form.proofs.alone.stand_after.Goals as goal
use Rattle.gl_form.proofs.alone.stand_after.Goals.{in-Some+else-not-stands_after, in_default}

pub returns-then-not-stands_after : goal.returns-then-not-stands_after
returns-then-not-stands_after c = none_after c.args.tx.now c.loop-i.i c.in-Some.number (sym c.in-Some.ensures) c.if-not-stands_after.ensures

pub loop-i-preserved : goal.loop-i-preserved
loop-i-preserved c =
    elim c.match-at.branch [
      | in-Some+else-not-stands_after w ↦
          after_more c.args.tx.now c.loop-i.i w.in-Some.number c.loop-i.invariant (sym w.in-Some.ensures) w.if-not-stands_after.ensures
      | in_default w ↦ after_past c.args.tx.now c.loop-i.i c.loop-i.invariant (sym w.in_default.ensures)
    ]

pub returns : goal.returns
returns c =
    let all : c.loop-i.i ≡ TX_VARIABLES = omega arith in
    let below : AfterBelow c.args.tx.now TX_VARIABLES = rw (sym all) c.loop-i.invariant in
    all_after c.args.tx.now (numbers_few c.args.tx.now c.keeps.ensures) below
