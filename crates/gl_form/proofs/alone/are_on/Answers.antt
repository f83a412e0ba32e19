use Rattle.std.proofs.Common.{map, arith}
use Rattle.gl_model.specs.declared.limits.TheConstants.{TX_VARIABLES}
use Rattle.gl_model.specs.declared.tx.Number.{Number}
use Rattle.gl_form.proofs.Parted.{same_lists}
use Rattle.gl_form.proofs.alone.are_on.Goals as goal

pub returns : goal.returns
returns c =
    same_lists TX_VARIABLES (map (λ (n : Number). n.var) c.args.numbers.now) c.args.vars.now c.keeps.ensures.0 c.keeps-2.ensures.0
    (λ k less. c.loop-i.invariant k (omega arith))
