use Rattle.std.proofs.Common.{arith}
use Rattle.gl_table.proofs.Closings.{may_close}
use Rattle.gl_table.proofs.moves.load_last.Goals as goal

pub load-requires : goal.load-requires
load-requires g c = let long = c.requires.table.table.words
    in (c.requires.table.same, omega arith, may_close _ _ _ _ _ _ c.requires.told.0 c.requires.told.1)
