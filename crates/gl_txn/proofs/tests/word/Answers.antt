use Rattle.std.proofs.Common.{sym, subst, false, suc}
use Rattle.gl_rule.specs.declared.slot.Slot.TheVariants as slot
use Rattle.gl_table.specs.PassView.{PassView, view_of, shelf_of}
use Rattle.gl_table.specs.Putting.{MayPutBack}
use Rattle.gl_table.proofs.Doing.{may_put_row}
use Rattle.gl_txn.proofs.tests.word.Goals as goal

pub put_row-requires-clause-may : goal.put_row-requires-clause-may
put_row-requires-clause-may c = subst (λ (q : PassView). MayPutBack c.args.shared.now.key.setting (shelf_of q) (view_of q) (suc c.args.var)
    (slot.Row c.in-Ok.kept) false) (sym c.in-Ok.ensures.ok)
    (may_put_row c.args.shared.now.key.setting c.args.pass.now c.args.var c.in-Ok.kept)
