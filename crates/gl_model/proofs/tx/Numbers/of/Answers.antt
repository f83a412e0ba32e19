use Rattle.std.proofs.Common.{take}
use Rattle.std.specs.Prelude.{◌==◌}
use Rattle.std.proofs.Common.{eq-eqb}
use Rattle.gl_model.proofs.ListsOf.{other_false}
use Rattle.gl_model.proofs.Parts.{find_more, find_here}
use Rattle.gl_model.proofs.tx.Numbers.of.Goals as goal

pub loop-part-preserved : goal.loop-part-preserved
loop-part-preserved c = find_more (λ p. p.var == c.args.var) (take c.self.inside.len c.self.inside.parts) c.loop-part.part-index
    (record { var = 0; nth = 0 }) c.loop-part-test.true c.loop-part.invariant (other_false _ c.args.var c.if-part-var.false)

pub returns-then-part-var : goal.returns-then-part-var
returns-then-part-var c = rw (← c.self.view_is)
    (find_here (λ p. p.var == c.args.var) (take c.self.inside.len c.self.inside.parts) c.loop-part.part-index (record { var = 0; nth = 0 })
    c.loop-part-test.true c.loop-part.invariant (eq-eqb _ c.args.var c.if-part-var.true))
