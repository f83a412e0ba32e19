use Rattle.std.proofs.Common.{◌≡◌, ℕ, length}
use Rattle.gl_compare.specs.Kept.{AreWithin}
use Rattle.gl_compare.specs.Rows.{row_of}
use Rattle.gl_compare.proofs.rows.make_rows.Given as goal

abbrev pub invariant-loop : goal.invariant-loop
invariant-loop l = record {
  count : length l.rows.items ≡ l.counter;
  within : (n : ℕ) → AreWithin n l.fn.rows.items → AreWithin n l.rows.items;
  same : (y : ℕ) → row_of l.rows.items y ≡ row_of l.fn.rows.items y;
}
