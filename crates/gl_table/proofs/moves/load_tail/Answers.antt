use Rattle.std.proofs.Common.{arith, subst}
use Rattle.gl_table.proofs.Calls.{may_tail}
use Rattle.gl_rule.specs.Told.{SawTail}
use Rattle.gl_table.proofs.moves.load_tail.Goals as goal

pub load-requires : goal.load-requires
load-requires g c = let long = c.requires.table.table.words
    in (c.requires.table.same, omega arith, may_tail _ _ _ _ _ _ _ c.requires.told c.requires.ready)

pub returns-clause-saw : goal.returns-clause-saw
returns-clause-saw g c = subst (λ z. SawTail z c.args.seat.now.me.1 c.load.result c.load.new.seat.me) c.requires.told c.load.ensures.2
