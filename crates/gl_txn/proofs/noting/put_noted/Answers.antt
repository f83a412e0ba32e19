use Rattle.std.proofs.Common.{subst, List, ap}
use Rattle.gl_txn.specs.Noting.{AreCommitted, IsNotedRow}
use Rattle.gl_txn.specs.declared.taken.TakenRow.{TakenRow}
use Rattle.gl_txn.proofs.NotedRows.{may_put_noted, noted_near, noted_fewer}
use Rattle.gl_table.specs.PassView.{PassView}
use Rattle.gl_txn.proofs.Costs.{costs_steps}
use Rattle.gl_txn.proofs.noting.put_noted.Goals as goal

pub put_row-requires-clause-near : goal.put_row-requires-clause-near
put_row-requires-clause-near c =
    let held = subst (λ (l : List TakenRow). AreCommitted c.args.pass.now l c.args.base.now c.args.at) c.in-Some.ensures.items
    c.requires.held in
    noted_near c.args.shared.now.key.setting c.args.pass.now c.pop.new.self.items c.args.base.now c.args.at c.in-Some.taken held
    c.store.new.row

pub put_row-requires-clause-may : goal.put_row-requires-clause-may
put_row-requires-clause-may c =
    let held = subst (λ (l : List TakenRow). AreCommitted c.args.pass.now l c.args.base.now c.args.at) c.in-Some.ensures.items
    c.requires.held in
    may_put_noted c.args.shared.now.key.setting c.args.pass.now c.pop.new.self.items c.args.base.now c.args.at c.in-Some.taken held
    c.store.new.row
    (subst (λ r. IsNotedRow c.args.base.now c.args.at c.in-Some.taken.write r c.store.new.row) c.row_mut.ensures.value c.store.ensures)

pub returns-clause-held : goal.returns-clause-held
returns-clause-held c =
    let held = subst (λ (l : List TakenRow). AreCommitted c.args.pass.now l c.args.base.now c.args.at) c.in-Some.ensures.items
    c.requires.held in
    noted_fewer c.args.shared.now.key.setting c.args.pass.now c.pop.new.self.items c.args.base.now c.args.at c.in-Some.taken held
    c.store.new.row c.put_row.new.pass c.put_row.ensures

pub returns-clause-cost : goal.returns-clause-cost
returns-clause-cost c = costs_steps 2 c.args.pass.now c.put_row.new.pass (ap (λ (z : PassView). z.known) c.put_row.ensures)
    (ap (λ (z : PassView). z.moves) c.put_row.ensures)
