use Rattle.std.proofs.Common.{subst, arith, List}
use Rattle.gl_txn.specs.Noting.{AreCommitted}
use Rattle.gl_txn.specs.declared.taken.TakenRow.{TakenRow}
use Rattle.gl_txn.proofs.NotedRows.{noted_all}
use Rattle.gl_txn.proofs.TakeSteps.{empty_of}
use Rattle.gl_txn.proofs.noting.put_all_noted.Goals as goal

pub returns-clause-pass : goal.returns-clause-pass
returns-clause-pass c =
    let inv = c.loop.invariant in
    let empty = empty_of c.loop.rows.items (let n = inv.2 in let e = c.loop-test.false in let f = c.len-end.ensures in omega arith) in
    noted_all c.args.pass.now c.loop.pass c.args.base.now c.args.at inv.0
    (subst (λ (l : List TakenRow). AreCommitted c.loop.pass l c.args.base.now c.args.at) empty inv.1)
