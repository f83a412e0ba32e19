use Rattle.std.proofs.Common.{◌∙◌, refl}
use Rattle.gl_rows.proofs.Swept.{tried_none, tried_next}
use Rattle.gl_rows.proofs.sweeping.try_rows.Goals as goal

pub loop-var-init : goal.loop-var-init
loop-var-init c = (tried_none c.args.to c.args.pass.now, refl)

pub loop-var-preserved : goal.loop-var-preserved
loop-var-preserved c = (
  tried_next c.loop-var.var c.args.to c.args.pass.now c.loop-var.pass c.try_row.new.pass c.loop-var.invariant.0
      c.try_row.ensures.tried,
  c.try_row.ensures.window ∙ c.loop-var.invariant.1,
)
