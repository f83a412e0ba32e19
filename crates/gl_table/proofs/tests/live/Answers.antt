use Rattle.std.proofs.Common.{sym, subst, false}
use Rattle.gl_rule.specs.declared.slot.Slot.TheVariants as slot
use Rattle.gl_table.specs.PassView.{PassView, view_of, shelf_of}
use Rattle.gl_table.specs.Putting.{MayPutBack}
use Rattle.gl_table.proofs.Doing.{may_put_back}
use Rattle.gl_table.proofs.tests.live.Goals as goal

pub put_list-requires-clause-may : goal.put_list-requires-clause-may
put_list-requires-clause-may c = subst (λ (q : PassView). MayPutBack c.args.shared.now.key.setting (shelf_of q) (view_of q) 0
    (slot.List c.in-Ok.state) false) (sym c.in-Ok.ensures.ok) (may_put_back c.args.shared.now.key.setting c.args.pass.now c.in-Ok.state)
