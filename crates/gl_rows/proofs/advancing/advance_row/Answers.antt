use Rattle.gl_table.proofs.Doing.{holds_none}
use Rattle.std.proofs.Common.{suc, ◌≤◌, sym, ap, subst, arith, false}
use Rattle.gl_draws.specs.Moved.{IsRowMoved}
use Rattle.gl_model.specs.declared.row.Info.{Info}
use Rattle.gl_draws.specs.RowFacts.{IsWithin}
use Rattle.gl_rule.specs.Values.{InRow}
use Rattle.gl_rule.specs.declared.slot.Slot.TheVariants as slot
use Rattle.gl_table.specs.PassView.{PassView, shelf_of, view_of}
use Rattle.gl_table.specs.Putting.{MayPutBack}
use Rattle.gl_rows.specs.Walks.{HoldsRow, HasWalkedTo}
use Rattle.gl_rows.proofs.Lifting.{took_is, holds_first, floor_is, may_put_first, tail_is, holds_lifted, within_lifted, lifted_is, may_raise_row, raised_is, hold_is, last_is, may_put_last, end_is, first_is, advanced_first, advanced_last}
use Rattle.gl_rows.proofs.advancing.advance_row.Goals as goal

pub floor_of-before-requires-clause-held : goal.floor_of-before-requires-clause-held
floor_of-before-requires-clause-held c =
    let p = c.args.pass.now in
    let x = c.args.var in
    let row = c.in-Ok.kept in
    holds_first p x row 0 c.take_row.new.pass (took_is p x row 0 c.take_row.new.pass c.requires.held c.in-Ok.ensures.ok)

pub put_row-requires-clause-may : goal.put_row-requires-clause-may
put_row-requires-clause-may c =
    let p = c.args.pass.now in
    let x = c.args.var in
    let row = c.in-Ok.kept in
    let n = c.floor_of-before.result in
    let took = took_is p x row n c.take_row.new.pass c.requires.held c.in-Ok.ensures.ok in
    let floored = floor_is p x row n c.take_row.new.pass c.floor_of-before.new.pass took c.floor_of-before.ensures.pass in
    may_put_first p x row n c.args.shared.now.key.setting c.floor_of-before.new.pass floored

pub lift_row-requires-clause-held : goal.lift_row-requires-clause-held
lift_row-requires-clause-held c =
    let p = c.args.pass.now in
    let x = c.args.var in
    let row = c.in-Ok.kept in
    let n = c.floor_of-before.result in
    let took = took_is p x row n c.take_row.new.pass c.requires.held c.in-Ok.ensures.ok in
    let floored = floor_is p x row n c.take_row.new.pass c.floor_of-before.new.pass took c.floor_of-before.ensures.pass in
    let seen = tail_is p x row n c.floor_of-before.new.pass c.tail-tail.new.pass c.tail-tail.result floored c.tail-tail.ensures.pass in
    subst (HoldsRow c.tail-tail.new.pass) (sym c.row_mut.ensures.value)
    (holds_lifted p x row n c.tail-tail.new.pass c.tail-tail.result seen)

pub lift_row-requires-clause-within : goal.lift_row-requires-clause-within
lift_row-requires-clause-within c =
    let p = c.args.pass.now in
    let x = c.args.var in
    let row = c.in-Ok.kept in
    let n = c.floor_of-before.result in
    let took = took_is p x row n c.take_row.new.pass c.requires.held c.in-Ok.ensures.ok in
    let floored = floor_is p x row n c.take_row.new.pass c.floor_of-before.new.pass took c.floor_of-before.ensures.pass in
    let seen = tail_is p x row n c.floor_of-before.new.pass c.tail-tail.new.pass c.tail-tail.result floored c.tail-tail.ensures.pass in
    subst (λ r. IsWithin r c.tail-tail.new.pass.seen) (sym c.row_mut.ensures.value)
    (within_lifted p x row n c.floor_of-before.new.pass c.tail-tail.new.pass c.tail-tail.result floored c.tail-tail.ensures.within seen)

pub raise_hold-requires-clause-may : goal.raise_hold-requires-clause-may
raise_hold-requires-clause-may c =
    let p = c.args.pass.now in
    let x = c.args.var in
    let row = c.in-Ok.kept in
    let n = c.floor_of-before.result in
    let took = took_is p x row n c.take_row.new.pass c.requires.held c.in-Ok.ensures.ok in
    let floored = floor_is p x row n c.take_row.new.pass c.floor_of-before.new.pass took c.floor_of-before.ensures.pass in
    let seen = tail_is p x row n c.floor_of-before.new.pass c.tail-tail.new.pass c.tail-tail.result floored c.tail-tail.ensures.pass in
    let walk = subst (λ r. HasWalkedTo r c.args.to c.tail-tail.new.pass c.lift_row.new.pass) c.row_mut.ensures.value
    c.lift_row.ensures.pass in
    let w = c.lift_row.new.pass in
    let new = c.row.result.now in
    let lifted = lifted_is p x row n c.tail-tail.new.pass w c.args.to c.tail-tail.result seen walk in
    let was = ap (λ (z : PassView). z.seen) floored in
    let later = c.tail-tail.ensures.later in
    let within = c.requires.seen in
    let near : c.args.to ≤ c.tail-tail.result = omega arith in
    may_raise_row p x row n c.args.shared.now.key.setting w c.args.to c.tail-tail.result new lifted c.if-to-before.false near
    (λ l f. subst (IsRowMoved l row) (sym c.row.ensures)
    (subst (λ r. IsRowMoved l r c.lift_row.new.row) c.row_mut.ensures.value (c.lift_row.ensures.moved c.args.shared.now.key.setting l f)))
    (subst (λ r. (i : Info) → InRow r i → c.args.to ≤ i.pos) (sym c.row.ensures) c.lift_row.ensures.above)

pub put_row-requires-2-clause-may : goal.put_row-requires-2-clause-may
put_row-requires-2-clause-may c =
    let p = c.args.pass.now in
    let x = c.args.var in
    let row = c.in-Ok.kept in
    let n = c.floor_of-before.result in
    let took = took_is p x row n c.take_row.new.pass c.requires.held c.in-Ok.ensures.ok in
    let floored = floor_is p x row n c.take_row.new.pass c.floor_of-before.new.pass took c.floor_of-before.ensures.pass in
    let seen = tail_is p x row n c.floor_of-before.new.pass c.tail-tail.new.pass c.tail-tail.result floored c.tail-tail.ensures.pass in
    let walk = subst (λ r. HasWalkedTo r c.args.to c.tail-tail.new.pass c.lift_row.new.pass) c.row_mut.ensures.value
    c.lift_row.ensures.pass in
    let w = c.lift_row.new.pass in
    let new = c.row.result.now in
    let lifted = lifted_is p x row n c.tail-tail.new.pass w c.args.to c.tail-tail.result seen walk in
    let high = raised_is p x row n w c.raise_hold.new.pass c.args.to c.tail-tail.result new lifted c.raise_hold.ensures.pass in
    let last = last_is p x row n c.raise_hold.new.pass c.floor_of-hold.new.pass c.args.to c.tail-tail.result c.floor_of-hold.result new
    w.known w.loaded w.moves high c.floor_of-hold.ensures.pass in
    subst (λ r. MayPutBack c.args.shared.now.key.setting (shelf_of c.floor_of-hold.new.pass) (view_of c.floor_of-hold.new.pass)
    (suc c.args.var) (slot.Row r) false) c.row.ensures
    (may_put_last p x row n c.args.shared.now.key.setting c.floor_of-hold.new.pass c.args.to c.tail-tail.result c.floor_of-hold.result new
    w.known w.loaded w.moves last)

pub returns-clause-hold : goal.returns-clause-hold
returns-clause-hold c =
    let p = c.args.pass.now in
    let x = c.args.var in
    let row = c.in-Ok.kept in
    let n = c.floor_of-before.result in
    let took = took_is p x row n c.take_row.new.pass c.requires.held c.in-Ok.ensures.ok in
    let floored = floor_is p x row n c.take_row.new.pass c.floor_of-before.new.pass took c.floor_of-before.ensures.pass in
    let seen = tail_is p x row n c.floor_of-before.new.pass c.tail-tail.new.pass c.tail-tail.result floored c.tail-tail.ensures.pass in
    let walk = subst (λ r. HasWalkedTo r c.args.to c.tail-tail.new.pass c.lift_row.new.pass) c.row_mut.ensures.value
    c.lift_row.ensures.pass in
    let w = c.lift_row.new.pass in
    let new = c.row.result.now in
    let lifted = lifted_is p x row n c.tail-tail.new.pass w c.args.to c.tail-tail.result seen walk in
    let high = raised_is p x row n w c.raise_hold.new.pass c.args.to c.tail-tail.result new lifted c.raise_hold.ensures.pass in
    let last = last_is p x row n c.raise_hold.new.pass c.floor_of-hold.new.pass c.args.to c.tail-tail.result c.floor_of-hold.result new
    w.known w.loaded w.moves high c.floor_of-hold.ensures.pass in
    let same = hold_is p x row n c.raise_hold.new.pass c.args.to c.tail-tail.result c.floor_of-hold.result new w.known w.loaded w.moves high
    c.floor_of-hold.ensures.same in
    advanced_last p x row n c.tail-tail.new.pass w c.put_row-2.new.pass c.args.to c.tail-tail.result c.floor_of-hold.result
    c.if-to-before.false same seen walk
    (end_is p x row n c.floor_of-hold.new.pass c.put_row-2.new.pass c.args.to c.tail-tail.result c.floor_of-hold.result new w.known
    w.loaded w.moves c.requires.held last c.put_row-2.ensures)

pub take_row-requires-clause-free : goal.take_row-requires-clause-free
take_row-requires-clause-free c = holds_none c.args.pass.now.own.held (suc c.args.var) c.requires.held

pub returns-then-to-before-clause-hold : goal.returns-then-to-before-clause-hold
returns-then-to-before-clause-hold c =
    let p = c.args.pass.now in
    let x = c.args.var in
    let row = c.in-Ok.kept in
    let n = c.floor_of-before.result in
    let took = took_is p x row n c.take_row.new.pass c.requires.held c.in-Ok.ensures.ok in
    let floored = floor_is p x row n c.take_row.new.pass c.floor_of-before.new.pass took c.floor_of-before.ensures.pass in
    advanced_first p x row n c.put_row.new.pass c.args.to c.if-to-before.true
    (first_is p x row n c.floor_of-before.new.pass c.put_row.new.pass c.requires.held floored c.put_row.ensures)
