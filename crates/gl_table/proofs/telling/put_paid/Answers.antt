use Rattle.std.proofs.Common.{◌≡◌, ◌++◌, ◌+◌, suc, false, ℕ, List, length, take, drop, sym, ap, subst, ◌∙◌, arith, IsPermutation}
use Rattle.std.specs.Prelude.{Contains}
use Rattle.std.proofs.Math.Seq.{take-append_seam}
use Rattle.atomic_table.specs.Table as table
use Rattle.gl_rule.specs.declared.slot.Slot.{Slot}
use Rattle.gl_rule.specs.declared.slot.Slot.TheVariants as slot
use Rattle.gl_rule.specs.Commits.{MayPay, paid}
use Rattle.gl_rule.specs.View.{View, Held, left}
use Rattle.gl_table.specs.CaughtUp.{caught_up}
use Rattle.gl_table.specs.PassInside.{IsPass}
use Rattle.gl_table.specs.PassView.{PassView}
use Rattle.gl_table.specs.Putting.{MayPayOn, held_at}
use Rattle.gl_table.proofs.Passes.{is_out, brought, pass_pays}
use Rattle.gl_table.proofs.telling.put_paid.Goals as goal

pub bring-requires-clause-there : goal.bring-requires-clause-there
bring-requires-clause-there c =
    let m = subst (λ (p : PassView). MayPayOn p c.args.var c.args.row) (sym c.pass.view_is) c.requires.may in
    let object : (held_at (c.args.var + 1) (caught_up c.pass.inside.seat.me.0 c.pass.inside.id c.pass.inside.mine.entries).held).object
    ≡ c.args.var + 1 = (let e = m.may.object in omega arith) in
    subst (λ l. Contains l (c.args.var + 1)) (sym c.as_mut_slice.ensures.value)
    (subst (λ k. Contains c.pass.inside.order.items k) object (is_out _ _ _ _ _ _ c.pass.invariant.pass _ m.may.held))

pub leave_paid-requires-clause-back : goal.leave_paid-requires-clause-back
leave_paid-requires-clause-back c =
    let m = subst (λ (p : PassView). MayPayOn p c.args.var c.args.row) (sym c.pass.view_is) c.requires.may in
    let mine = c.pass.inside.mine.entries in
    let e = c.exchange.ensures.3 in
    let same = sym (ap (λ (m : table.Me Slot View). m.0) e ∙ c.bring.ensures.place.2) in (
      c.args.row,
      table.rest c.bring.new.seat.me.1,
      ap (λ (m : table.Me Slot View). m.1) e,
      (
        m.taken,
        m.value,
        subst (λ (v : View). MayPay (caught_up v c.pass.inside.id mine)
            (held_at (c.args.var + 1) (caught_up v c.pass.inside.id mine).held) c.args.var m.taken m.value) same m.may,
        m.is,
      ),
    )

whole : (o m : List ℕ) (n : ℕ) → n ≡ length o → take n (o ++ m) ≡ o
whole o m n e = ap (λ k. take k (o ++ m)) e ∙ take-append_seam o m

pub invariant_of-pass : goal.invariant_of-pass
invariant_of-pass c =
    let o = c.bring.new.order in
    let mine = c.pass.inside.mine.entries in
    let id = c.pass.inside.id in
    let x = c.args.var in
    let m = subst (λ (p : PassView). MayPayOn p c.args.var c.args.row) (sym c.pass.view_is) c.requires.may in
    let kept = c.bring.auto.order in
    let len = c.as_mut_slice.ensures.len in
    let n : c.pass.inside.order.len ≡ length o = omega arith in
    let items : c.remove.new.self.items ≡ drop 1 o = c.remove.ensures.items
    ∙ ap (drop 1) (whole o (drop (length o) c.pass.inside.order.items) c.pass.inside.order.len n) in
    let perm = subst (λ l. IsPermutation l o) c.as_mut_slice.ensures.value c.bring.ensures.permutation in
    let e = c.exchange.ensures.3 in
    let b = brought (x + 1) c.bring.new.seat.me.1 o c.bring.ensures.carried c.bring.ensures.front in
    let F : View → Held = λ v. held_at (x + 1) (caught_up v id mine).held in
    let y : Slot = slot.Row c.args.row in
    let front = ap (λ (q : table.Me Slot View). q.1) e in
    let is = c.leave_paid.ensures.left
    ∙ ap (λ (q : table.Me Slot View). let r : table.Me Slot View =
    (left (paid (caught_up q.0 id mine) (F q.0) x (Rattle.gl_table.specs.Told.head_slot q.1)) (suc x) false, table.rest q.1) in r) e
    ∙ ap (λ (v : View). let r : table.Me Slot View =
    (left (paid (caught_up v id mine) (F v) x y) (suc x) false, table.rest c.bring.new.seat.me.1) in r) c.bring.ensures.place.2 in
    let cap = c.remove.ensures.capacity in
    let old = c.pass.invariant.room in
    let block = c.as_mut_slice.ensures in
    record {
      pass = subst (λ l. IsPass c.leave_paid.new.seat.me id mine c.pass.inside.seen l c.pass.inside.quiet) (sym items)
          (pass_pays _ _ _ _ _ _ c.pass.invariant.pass _ x y o (table.rest c.bring.new.seat.me.1) _ m.may.held perm c.bring.ensures.front
          b.1
          is);
      room = omega arith;
    }
