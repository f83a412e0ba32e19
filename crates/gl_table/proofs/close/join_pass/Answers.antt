use Rattle.std.proofs.Common.{◌≡◌, ◌++◌, ◌∷◌, [], map, sym, ap, subst, ◌∙◌, arith}
use Rattle.atomic_table.specs.Table as table
use Rattle.gl_rule.specs.Closed.{IsDone}
use Rattle.gl_rule.specs.declared.slot.Slot.{Slot}
use Rattle.gl_rule.specs.View.{View, shelf, saw_tail, with_tail}
use Rattle.gl_table.specs.CaughtUp.{caught_up}
use Rattle.gl_table.specs.Ending.{IsRoot}
use Rattle.gl_table.specs.PassView.{PassView, shelf_of}
use Rattle.gl_table.proofs.Gathering.{joins_root, root_more}
use Rattle.gl_table.proofs.Out.{nothing_out}
use Rattle.gl_table.proofs.close.join_pass.Goals as goal

pub join_seat-requires : goal.join_seat-requires
join_seat-requires c =
    let t = c.requires.table in
    let long = t.1.words in
    let s = c.load_tail.ensures.seat in
    let l = c.load_tail.ensures.saw in
    let p = c.pass.invariant.pass in
    let d = c.requires.pass.1 in
    let u = caught_up c.pass.inside.seat.me.0 c.pass.inside.id c.pass.inside.mine.entries in
    let idle : u.held ≡ [] = ap (λ (v : PassView). v.own.held) c.pass.view_is ∙ d.held in
    let done : IsDone c.pass.inside.mine.entries u.quiet =
    subst (λ (v : PassView). IsDone v.own.mine v.quiet) (sym c.pass.view_is) d.done in
    let is : c.load_tail.new.seat.me.0 ≡ saw_tail u c.load_tail.result = ap (λ (m : table.Me Slot View). m.0) l.0 in (
      t.0,
      s.0 ∙ ap (λ (v : PassView). v.own.table) c.pass.view_is ∙ d.table,
      ap (λ (m : table.Me Slot View). m.1) l.0 ∙ nothing_out _ _ _ p.out idle,
      omega arith,
      joins_root _ _ _ c.args.root.now.me c.load_tail.new.seat.me.0 c.requires.root.0 (shelf c.pass.inside.id c.pass.inside.mine.entries)
          c.requires.root.1 (ap (λ (v : View). v.shelves) is) (ap (λ (v : View). v.held) is ∙ ap (map (with_tail c.load_tail.result)) idle)
          (subst (λ (v : View). IsDone c.pass.inside.mine.entries v.quiet) (sym is) done),
    )

pub returns-clause-root : goal.returns-clause-root
returns-clause-root c =
    let l = c.load_tail.ensures.saw in
    let d = c.requires.pass.1 in
    let u = caught_up c.pass.inside.seat.me.0 c.pass.inside.id c.pass.inside.mine.entries in
    let done : IsDone c.args.pass.own.mine u.quiet =
    subst (λ q. IsDone c.args.pass.own.mine q) (sym (ap (λ (v : PassView). v.quiet) c.pass.view_is)) d.done in
    let is : c.load_tail.new.seat.me.0 ≡ saw_tail u c.load_tail.result = ap (λ (m : table.Me Slot View). m.0) l.0 in
    let one = ap (λ (v : View). v.shelves) is ∙ ap (λ (v : PassView). shelf_of v ∷ []) c.pass.view_is in
    λ ps root. subst (λ (m : table.Me Slot View). IsRoot m (ps ++ c.args.pass ∷ [])) (sym c.join_seat.ensures.2)
    (root_more c.args.root.now.me c.load_tail.new.seat.me.0 ps c.args.pass root one
    (subst (λ (v : View). IsDone c.args.pass.own.mine v.quiet) (sym is) done))
