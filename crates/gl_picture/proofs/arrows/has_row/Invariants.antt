use Rattle.gl_picture.specs.Arrows.{HasRow}
use Rattle.gl_picture.proofs.arrows.has_row.Given as goal

abbrev pub invariant-loop-i : goal.invariant-loop-i
invariant-loop-i l = HasRow l.rows l.thread l.from l.i → ⊥
