use Rattle.std.proofs.Common.{◌≡◌, ℕ, length}
use Rattle.gl_core.specs.Cells.{cell}
use Rattle.gl_raised.proofs.learn.no_clocks.Given as goal

abbrev pub invariant-loop : goal.invariant-loop
invariant-loop l = record {
  long : length l.table.items ≡ l.counter;
  zero : (x u : ℕ) → cell l.table.items x u ≡ 0;
}
