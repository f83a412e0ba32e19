use Rattle.std.proofs.Common.{◌≡◌, ℕ, length, Some}
use Rattle.std.specs.Prelude.{slice_get}
use Rattle.gl_picture.specs.Drawn.{IsRow}
use Rattle.gl_picture.specs.declared.picture.Row.{Row}
use Rattle.gl_picture.proofs.drawn.all_rows.Given as goal

abbrev pub invariant-loop-i : goal.invariant-loop-i
invariant-loop-i l = record {
  all : length l.drawn.items ≡ l.i;
  each : (i : ℕ) (r : Row) → slice_get l.drawn.items i ≡ Some r → IsRow l.rows l.left_out i r;
}
