use Rattle.std.proofs.Common.{arith}
use Rattle.gl_table.proofs.Calls.{may_event}
use Rattle.gl_table.proofs.moves.load_event.Goals as goal

pub load-requires : goal.load-requires
load-requires g c = let n = c.requires.near in let long = c.requires.table.table.words in let o = c.requires.told
    in (c.requires.table.same, omega arith, may_event _ _ _ _ _ _ _ o.0 c.requires.ready _ _ _ _ o.1 o.2 n.0 c.requires.may)
