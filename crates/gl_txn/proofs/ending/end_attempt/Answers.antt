use Rattle.std.proofs.Common.{subst}
use Rattle.gl_model.specs.declared.tx.Tx.{Tx}
use Rattle.gl_txn.specs.Holding.{HaveWrites}
use Rattle.gl_txn.proofs.Ready.{holds_rows}
use Rattle.gl_txn.proofs.ending.end_attempt.Goals as goal

pub end_taken-requires-clause-holds : goal.end_taken-requires-clause-holds
end_taken-requires-clause-holds g c =
    holds_rows c.args.shared.now c.args.pass.now c.take_rows.new.pass c.args.vars.now c.take_rows.new.rows.items c.args.tx.value
    c.requires.may c.requires.vars c.in-Ok.ensures.ok
    (subst (λ (t : Tx). HaveWrites t.writes c.take_rows.new.rows.items) c.deref.ensures c.in-Ok.ensures.writes)
