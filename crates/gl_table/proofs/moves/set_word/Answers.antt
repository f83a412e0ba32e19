use Rattle.std.proofs.Common.{arith}
use Rattle.gl_table.proofs.Calls.{may_set}
use Rattle.gl_table.proofs.moves.set_word.Goals as goal

pub store-requires : goal.store-requires
store-requires g c = let long = c.requires.table.table.words
    in (c.requires.table.same, omega arith, may_set _ _ _ _ _ _ _ c.requires.told c.requires.ready)
