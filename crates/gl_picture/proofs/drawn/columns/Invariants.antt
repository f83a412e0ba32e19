use Rattle.std.proofs.Common.{◌≡◌, ◌≤◌, length}
use Rattle.gl_picture.specs.Arrows.{HasRow}
use Rattle.gl_picture.specs.Drawn.{AreColumns}
use Rattle.gl_picture.proofs.drawn.columns.Given as goal

abbrev pub invariant-loop-thread : goal.invariant-loop-thread
invariant-loop-thread l = record {
  columns : AreColumns (λ t. HasRow l.rows t 0 (length l.rows)) l.thread l.columns.items;
  counted : l.at ≡ length l.columns.items;
  few : l.at ≤ l.thread;
}
