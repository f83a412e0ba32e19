use Rattle.std.proofs.Common.{[], sym, ap, subst, ◌∙◌, arith, ◌≤◌}
use Rattle.atomic_table.specs.Table as table
use Rattle.gl_model.specs.Lists.{lists_of}
use Rattle.gl_segments.specs.declared.TheConstants.{LEAST_CELLS}
use Rattle.gl_rule.specs.declared.slot.Slot.{Slot}
use Rattle.gl_rule.specs.View.{View}
use Rattle.gl_rule.proofs.Seats.{enters}
use Rattle.gl_table.specs.Ending.{ClosedTold, AreAllDone}
use Rattle.gl_table.specs.KeyOf.{key_of}
use Rattle.gl_table.specs.TableView.{TableView}
use Rattle.gl_table.specs.declared.layout.Layout.{Layout}
use Rattle.gl_table.proofs.Gathering.{closed_record}
use Rattle.gl_table.proofs.shared.Shared.close.Goals as goal

pub load_new_seat-requires : goal.load_new_seat-requires
load_new_seat-requires c =
    let long = c.self.invariant.table.words in (
      omega arith,
      λ s rule homes fits. let e =
          enters (key_of c.self.inside.table.shared.key) c.self.inside.table.shared.table_id.slots 0 s rule homes fits
          in (e.0, e.1, ap (λ (v : View). let r : table.Me Slot View = (v, []) in r) e.2),
    )

pub of-requires-clause-lawful : goal.of-requires-clause-lawful
of-requires-clause-lawful c =
    let told = subst (λ (k : Layout). ClosedTold (key_of k) c.gather.new.root.me.0 c.load_last.new.seat.me) c.self.invariant.key
    c.load_last.ensures.closed in
    let all = subst (λ (v : TableView). AreAllDone v.id c.args.passes.items) (sym c.self.view_is) c.requires.all in
    (closed_record (key_of c.self.inside.layout) _ c.args.passes.items _ _ c.record-record.result all c.gather.ensures.root told
    (c.record-record.ensures ∙ c.gather.ensures.lists) c.keeps.ensures).0

pub of-requires-clause-trims : goal.of-requires-clause-trims
of-requires-clause-trims c =
    let told = subst (λ (k : Layout). ClosedTold (key_of k) c.gather.new.root.me.0 c.load_last.new.seat.me) c.self.invariant.key
    c.load_last.ensures.closed in
    let all = subst (λ (v : TableView). AreAllDone v.id c.args.passes.items) (sym c.self.view_is) c.requires.all in
    (closed_record (key_of c.self.inside.layout) _ c.args.passes.items _ _ c.record-record.result all c.gather.ensures.root told
    (c.record-record.ensures ∙ c.gather.ensures.lists) c.keeps.ensures).1

pub of-requires-clause-bounded : goal.of-requires-clause-bounded
of-requires-clause-bounded c =
    let told = subst (λ (k : Layout). ClosedTold (key_of k) c.gather.new.root.me.0 c.load_last.new.seat.me) c.self.invariant.key
    c.load_last.ensures.closed in
    let all = subst (λ (v : TableView). AreAllDone v.id c.args.passes.items) (sym c.self.view_is) c.requires.all in
    let cells : LEAST_CELLS ≤ c.self.inside.layout.ring.cells = c.self.invariant.ring.some_cells in
    (closed_record (key_of c.self.inside.layout) _ c.args.passes.items _ _ c.record-record.result all c.gather.ensures.root told
    (c.record-record.ensures ∙ c.gather.ensures.lists) c.keeps.ensures).3 (omega arith)

pub returns-clause-lists : goal.returns-clause-lists
returns-clause-lists c =
    let told = subst (λ (k : Layout). ClosedTold (key_of k) c.gather.new.root.me.0 c.load_last.new.seat.me) c.self.invariant.key
    c.load_last.ensures.closed in
    let all = subst (λ (v : TableView). AreAllDone v.id c.args.passes.items) (sym c.self.view_is) c.requires.all in
    let each = (closed_record (key_of c.self.inside.layout) _ c.args.passes.items _ _ c.record-record.result all c.gather.ensures.root told
    (c.record-record.ensures ∙ c.gather.ensures.lists) c.keeps.ensures).2 in
    λ t. ap (λ l. lists_of l t) c.of.ensures.0 ∙ each t
