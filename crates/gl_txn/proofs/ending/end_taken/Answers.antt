use Rattle.std.proofs.Common.{sym, subst, map, List}
use Rattle.gl_model.specs.declared.tx.Tx.{Tx}
use Rattle.gl_model.specs.declared.tx.Why.TheVariants.{Changed}
use Rattle.gl_model.specs.Kept.{AreVariables}
use Rattle.gl_table.specs.PassView.{shelf_of}
use Rattle.gl_txn.specs.Changing.{IsFirstChange}
use Rattle.gl_txn.specs.Drawing.{attempt_in}
use Rattle.gl_txn.specs.Ending.{IsCauseBy}
use Rattle.gl_txn.specs.declared.stops.TxEnd.{TxEnd}
use Rattle.gl_txn.specs.declared.taken.TakenRow.{TakenRow}
use Rattle.gl_txn.proofs.Ready.{changed_cause}
use Rattle.gl_txn.proofs.ending.end_taken.Goals as goal

pub returns-in-Some-clause-cause : goal.returns-in-Some-clause-cause
returns-in-Some-clause-cause g c =
    let p = c.args.pass.now in
    let rows = c.args.rows.now.items in
    let tx = c.args.tx.value in
    let k = c.in-Some.change in
    let looks = subst (λ (t : Tx). AreVariables (map (λ l. l.var) t.looks)) c.deref.ensures c.keeps.ensures in
    let f = subst (λ (rows : List TakenRow). IsFirstChange tx.looks rows k) c.as_slice.ensures.value
    (subst (λ (t : Tx). IsFirstChange t.looks c.as_slice.result.now k) c.deref-2.ensures c.in-Some.ensures) in
    subst (λ (f : TxEnd). IsCauseBy c.args.shared.now (attempt_in tx) f (shelf_of p) p.seen p.reads rows c.drop_changed.new.pass)
    (sym c.drop_changed.ensures.end)
    (changed_cause c.args.shared.now p c.drop_changed.new.pass rows tx c.requires.holds looks k f (Changed k.var k.read k.found)
    c.drop_changed.ensures.dropped)

pub drop_changed-requires-clause-of : goal.drop_changed-requires-clause-of
drop_changed-requires-clause-of g c = c.requires.holds.of

pub drop_changed-requires-clause-looks : goal.drop_changed-requires-clause-looks
drop_changed-requires-clause-looks g c = subst (λ (t : Tx). AreVariables (map (λ l. l.var) t.looks)) c.deref.ensures c.keeps.ensures
