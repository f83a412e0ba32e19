use Rattle.std.proofs.Common.{sym, subst, ap}
use Rattle.std.specs.Prelude.{List}
use Rattle.gl_rule.specs.View.{Held}
use Rattle.gl_table.specs.PassView.{view_of, shelf_of}
use Rattle.gl_txn.specs.Holding.{AreUnused}
use Rattle.gl_txn.specs.declared.taken.TakenRow.{TakenRow}
use Rattle.gl_txn.proofs.Holdings.{last_near, may_put_unused, unused_fewer}
use Rattle.gl_txn.proofs.TakeSteps.{put_held, put_is}
use Rattle.gl_table.specs.PassView.{PassView}
use Rattle.gl_txn.proofs.Costs.{costs_steps}
use Rattle.gl_txn.proofs.taken.put_last.Goals as goal

pub put_row-requires-clause-near : goal.put_row-requires-clause-near
put_row-requires-clause-near c =
    last_near c.args.pass.now.own.held c.pop.new.self.items c.in-Some.taken
    (subst (λ (l : List TakenRow). AreUnused c.args.pass.now.own.held l) c.in-Some.ensures.items c.requires.held)

pub put_row-requires-clause-may : goal.put_row-requires-clause-may
put_row-requires-clause-may c =
    may_put_unused c.args.shared.now.key.setting (shelf_of c.args.pass.now) (view_of c.args.pass.now) c.pop.new.self.items c.in-Some.taken
    (subst (λ (l : List TakenRow). AreUnused c.args.pass.now.own.held l) c.in-Some.ensures.items c.requires.held)

pub returns-clause-pass : goal.returns-clause-pass
returns-clause-pass c = put_is c.args.pass.now c.put_row.new.pass c.in-Some.taken.var c.put_row.ensures

pub returns-clause-held : goal.returns-clause-held
returns-clause-held c =
    subst (λ (h : List Held). AreUnused h c.pop.new.self.items)
    (sym (put_held c.args.pass.now c.put_row.new.pass c.in-Some.taken.var c.put_row.ensures))
    (unused_fewer c.args.pass.now.own.held c.pop.new.self.items c.in-Some.taken
    (subst (λ (l : List TakenRow). AreUnused c.args.pass.now.own.held l) c.in-Some.ensures.items c.requires.held))

pub returns-clause-cost : goal.returns-clause-cost
returns-clause-cost c = costs_steps 2 c.args.pass.now c.put_row.new.pass (ap (λ (z : PassView). z.known) c.put_row.ensures)
    (ap (λ (z : PassView). z.moves) c.put_row.ensures)
