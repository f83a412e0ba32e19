-- What a ring has to be.
use Rattle.std.specs.Prelude.{◌≤◌}
use Rattle.gl_segments.specs.declared.Ring.{Ring}
use Rattle.gl_segments.specs.declared.TheConstants.{LEAST_SEGMENTS, MOST_SEGMENTS, LEAST_CELLS, MOST_CELLS}

-- a ring that a table may have
pub record IsRing (ring : Ring) : Type 0 where
  pub some_segments : LEAST_SEGMENTS ≤ ring.segments
  pub segments : ring.segments ≤ MOST_SEGMENTS
  pub some_cells : LEAST_CELLS ≤ ring.cells
  pub cells : ring.cells ≤ MOST_CELLS
