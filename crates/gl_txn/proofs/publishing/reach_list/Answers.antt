use Rattle.std.proofs.Common.{sym, ap, ◌∙◌, subst, false}
use Rattle.gl_rule.specs.declared.slot.Slot.TheVariants as slot
use Rattle.gl_rule.specs.View.{Hold, saw, saw_tail}
use Rattle.gl_table.specs.PassView.{PassView, view_of, shelf_of, after}
use Rattle.gl_table.specs.Putting.{MayPutBack}
use Rattle.gl_table.proofs.Doing.{may_put_full}
use Rattle.gl_txn.proofs.publishing.reach_list.Goals as goal

pub put_list-requires-clause-may : goal.put_list-requires-clause-may
put_list-requires-clause-may c =
    let is = c.tail-tail.ensures.pass ∙ ap (λ (q : PassView). after q (saw_tail (view_of q) c.tail-tail.result)) (c.low-low.ensures.pass
    ∙ ap (λ (q : PassView). after q (saw (view_of q) (Hold 0 c.low-low.result))) c.in-Ok.ensures.ok) in
    subst (λ (q : PassView). MayPutBack c.args.shared.now.key.setting (shelf_of q) (view_of q) 0 (slot.List c.in-Ok.state) false) (sym is)
    (may_put_full c.args.shared.now.key.setting c.args.pass.now c.in-Ok.state c.low-low.result c.tail-tail.result)
