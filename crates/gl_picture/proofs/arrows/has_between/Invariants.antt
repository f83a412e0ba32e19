use Rattle.std.proofs.Common.{◌≡◌, Some}
use Rattle.std.specs.Prelude.{slice_get}
use Rattle.gl_explain.specs.declared.told.Told.{Told}
use Rattle.gl_picture.proofs.Leading.{HasBetween}
use Rattle.gl_picture.proofs.arrows.has_between.Given as goal

abbrev pub invariant-loop-k : goal.invariant-loop-k
invariant-loop-k l = (a b : Told) → slice_get l.rows l.i ≡ Some a → slice_get l.rows l.j ≡ Some b → HasBetween l.rows a b l.i l.j l.k → ⊥
