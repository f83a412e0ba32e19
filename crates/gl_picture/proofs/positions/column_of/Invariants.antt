use Rattle.std.proofs.Common.{◌≡◌, drop}
use Rattle.gl_picture.specs.Texts.{column_of}
use Rattle.gl_picture.proofs.positions.column_of.Given as goal

abbrev pub invariant-loop-column : goal.invariant-loop-column
invariant-loop-column l = column_of l.thread l.columns ≡ column_of l.thread (drop l.column-index l.columns)
