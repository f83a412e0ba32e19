use Rattle.std.proofs.Common.{[], ◌∷◌}
use Rattle.gl_txn.specs.Holding.{undrawn}
use Rattle.gl_txn.proofs.Holdings.{lacks_list}
use Rattle.gl_txn.proofs.Stages.{reach_unused}
use Rattle.gl_txn.proofs.ending.end_clear.Goals as goal

pub put_rows-requires-clause-held : goal.put_rows-requires-clause-held
put_rows-requires-clause-held c = reach_unused c.args.shared.now c.in-Err.wait c.args.pass.now c.reach_list.new.pass c.args.rows.now.items
    c.args.tx.value c.requires.ready c.in-Err.ensures.stop

pub reach_list-requires-clause-free : goal.reach_list-requires-clause-free
reach_list-requires-clause-free c = lacks_list c.args.pass.now.own.held c.args.rows.now.items (c.args.pass.now.seen ∷ []) undrawn
    c.requires.ready.held
