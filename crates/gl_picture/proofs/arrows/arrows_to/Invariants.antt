use Rattle.gl_picture.specs.Arrows.{IsArrow, Selects}
use Rattle.gl_picture.proofs.arrows.arrows_to.Given as goal

abbrev pub invariant-loop-i : goal.invariant-loop-i
invariant-loop-i l = Selects (λ i. IsArrow l.rows i l.j) l.i l.from.items
