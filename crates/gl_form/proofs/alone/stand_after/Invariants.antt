use Rattle.std.proofs.Common.{◌≡◌, ◌<◌, ℕ, Some}
use Rattle.std.specs.Prelude.{slice_get}
use Rattle.gl_model.specs.declared.tx.Number.{Number}
use Rattle.gl_form.specs.Passed.{OwnStandAfter}
use Rattle.gl_form.proofs.alone.stand_after.Given as goal

abbrev pub invariant-loop-i : goal.invariant-loop-i
invariant-loop-i l = (k : ℕ) (n : Number) → k < l.i → slice_get l.tx.numbers k ≡ Some n → OwnStandAfter l.tx.looks n.var n.nth
