use Rattle.std.proofs.Common.{ap}
use Rattle.gl_txn.specs.Attempts.{Attempting}
use Rattle.gl_txn.proofs.Ready.{may_try_writes}
use Rattle.gl_txn.proofs.tests.write.Goals as goal

pub returns-in-Ok : goal.returns-in-Ok
returns-in-Ok c = record {
  may = may_try_writes c.args.shared.now c.args.pass.now c.args.txn.now c.write.new.self
      (ap (λ (a : Attempting). a.looks) c.in-Ok.ensures.done)
      c.requires.may;
}
