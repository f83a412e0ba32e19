use Rattle.std.proofs.Common.{◌≡◌, ◌++◌, take}
use Rattle.gl_explain.specs.Told.{told_of}
use Rattle.gl_picture.proofs.drawn.add.Given as goal

abbrev pub invariant-loop-k : goal.invariant-loop-k
invariant-loop-k l = l.rows.items ≡ l.fn.rows.items ++ told_of (take l.k-index l.lines)
