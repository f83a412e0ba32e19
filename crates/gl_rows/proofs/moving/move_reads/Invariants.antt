-- the reads that were looked at are moved, and the others are as they were
use Rattle.std.proofs.Common.{◌≡◌, ℕ, ◌<◌, ◌≤◌}
use Rattle.gl_draws.specs.RowFacts.{read_of}
use Rattle.gl_rows.specs.Moving.{AreMovedTo}
use Rattle.gl_rows.proofs.moving.move_reads.Given as goal

abbrev pub invariant-loop-read : goal.invariant-loop-read
invariant-loop-read l =
    ((t : ℕ) → t < l.read-index → AreMovedTo l.from l.to l.window (read_of l.fn.reads t) (read_of l.reads t))
    × ((t : ℕ) → l.read-index ≤ t → read_of l.reads t ≡ read_of l.fn.reads t)
