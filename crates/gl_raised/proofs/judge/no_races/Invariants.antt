use Rattle.std.proofs.Common.{◌≡◌, ℕ, length, slice_get, Some, None}
use Rattle.std.specs.Prelude.{Option}
use Rattle.gl_raised.proofs.judge.no_races.Given as goal

abbrev pub invariant-loop : goal.invariant-loop
invariant-loop l = record {
  long : length l.least.items ≡ l.counter;
  none : (k : ℕ) (o : Option ℕ) → slice_get l.least.items k ≡ Some o → o ≡ None;
}
