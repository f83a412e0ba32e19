use Rattle.std.proofs.Common.{subst, arith, List}
use Rattle.gl_txn.specs.Holding.{AreUnused}
use Rattle.gl_txn.specs.declared.taken.TakenRow.{TakenRow}
use Rattle.gl_txn.proofs.TakeSteps.{puts_all, empty_of}
use Rattle.gl_txn.proofs.taken.put_rows.Goals as goal

pub returns-clause-pass : goal.returns-clause-pass
returns-clause-pass c =
    let inv = c.loop.invariant in
    let empty = empty_of c.loop.rows.items (let n = inv.2 in let e = c.loop-test.false in let f = c.len-end.ensures in omega arith) in
    puts_all c.args.pass.now c.loop.pass inv.0 (subst (λ (l : List TakenRow). AreUnused c.loop.pass.own.held l) empty inv.1)
