use Rattle.std.proofs.Common.{◌≡◌, ◌<◌, ℕ, Some, false}
use Rattle.std.specs.Prelude.{slice_get}
use Rattle.gl_explain.specs.declared.told.Kept.{Kept}
use Rattle.gl_explain.specs.Explained.{is_handing}
use Rattle.gl_explain.proofs.past.first_handed.Given as goal

abbrev pub invariant-loop-i : goal.invariant-loop-i
invariant-loop-i l = (h : ℕ) (k : Kept) → l.place < h → h < l.i → slice_get l.kept h ≡ Some k → is_handing l.thread k.told ≡ false
