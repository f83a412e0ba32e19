use Rattle.std.proofs.Common.{◌≡◌, ℕ, Bool, length, slice_get, Some, None}
use Rattle.gl_raised.specs.Lasts.{mark_of}
use Rattle.gl_raised.specs.declared.lasts.Lasts.{Lasts}
use Rattle.gl_raised.proofs.judge.no_lasts.Given as goal

abbrev pub invariant-loop : goal.invariant-loop
invariant-loop l = record {
  long : length l.lasts.items ≡ l.counter;
  none : (x : ℕ) (a : Lasts) → slice_get l.lasts.items x ≡ Some a → (commit write : Bool) (t : ℕ) → mark_of a commit write t ≡ None;
}
