use Rattle.std.proofs.Common.{◌<◌, sym, subst}
use Rattle.gl_txn.proofs.GoingOn.{may_read, same_spare}
use Rattle.gl_txn.proofs.tests.read.Goals as goal

pub returns-in-Ok : goal.returns-in-Ok
returns-in-Ok c = record {
  may = may_read c.args.shared.now c.args.pass.now c.read.new.pass c.args.txn.now c.read.new.self c.args.var c.in-Ok.value c.requires.may
      c.in-Ok.ensures.done;
  room = subst (λ n. 0 < n) (sym (same_spare c.args.txn.now c.args.var c.in-Ok.value c.args.pass.now c.read.new.pass c.in-Ok.ensures.looked))
      c.requires.room;
}
