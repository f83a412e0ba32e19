use Rattle.std.proofs.Common.{sym, ap, subst}
use Rattle.gl_model.specs.declared.tx.Tx.{Tx}
use Rattle.gl_txn.specs.Attempts.{Attempting}
use Rattle.gl_txn.specs.Trying.{MayTry}
use Rattle.gl_txn.specs.TxnInside.{txn_view}
use Rattle.gl_txn.proofs.Ready.{may_try_writes}
use Rattle.gl_txn.proofs.attempt.Txn.commit.Goals as goal

pub end_attempt-requires-2-clause-may : goal.end_attempt-requires-2-clause-may
end_attempt-requires-2-clause-may g c =
    may_try_writes c.args.shared.now c.args.pass.now (txn_view c.self.inside)
    (record { looks = c.deref_mut.result.now.looks; writes = c.replace-writes.new.dest })
    (ap (λ (t : Tx). t.looks) c.deref_mut.ensures.value)
    (subst (λ (a : Attempting). MayTry c.args.shared.now c.args.pass.now a) (sym c.self.view_is) c.requires.may)
