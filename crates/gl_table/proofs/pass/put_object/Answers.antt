use Rattle.std.proofs.Common.{◌≡◌, ◌++◌, ℕ, List, length, take, drop, sym, ap, subst, ◌∙◌, arith, IsPermutation, Bool, ◌||◌}
use Rattle.std.specs.Prelude.{Contains}
use Rattle.std.proofs.Math.Seq.{take-append_seam}
use Rattle.atomic_table.specs.Table as table
use Rattle.gl_rule.specs.declared.slot.Slot.{Slot}
use Rattle.gl_table.specs.CaughtUp.{caught_up}
use Rattle.gl_table.specs.KeyOf.{key_of}
use Rattle.gl_table.specs.declared.layout.Layout.{Layout}
use Rattle.gl_table.specs.PassInside.{IsPass}
use Rattle.gl_table.specs.PassView.{PassView, view_of, shelf_of}
use Rattle.gl_table.specs.Putting.{MayPutBack}
use Rattle.gl_rule.specs.View.{View, left, shelf}
use Rattle.gl_table.proofs.Passes.{is_out, brought, pass_puts}
use Rattle.gl_table.proofs.pass.put_object.Goals as goal

-- what is asked, of the view that the pass's fields give
abbrev Asked : PassView → Layout → ℕ → Slot → Bool → Type 0
Asked p k object y q = MayPutBack (key_of k).setting (shelf_of p) (view_of p) object y q

pub bring-requires-clause-there : goal.bring-requires-clause-there
bring-requires-clause-there c =
    let m = subst (λ (p : PassView). Asked p c.args.board.now.key c.args.k c.args.slot c.args.quiet) (sym c.pass.view_is) c.requires.may in
    subst (λ l. Contains l c.args.k) (sym c.as_mut_slice.ensures.value)
    (subst (λ k. Contains c.pass.inside.order.items k) m.object (is_out _ _ _ _ _ _ c.pass.invariant.pass m.held m.has))

pub leave_turn-requires-clause-back : goal.leave_turn-requires-clause-back
leave_turn-requires-clause-back c =
    let m = subst (λ (p : PassView). Asked p c.args.board.now.key c.args.k c.args.slot c.args.quiet) (sym c.pass.view_is) c.requires.may in
    let mine = c.pass.inside.mine.entries in
    let e = c.exchange.ensures.3 in
    let same = sym (ap (λ (m : table.Me Slot View). m.0) e ∙ c.bring.ensures.place.2) in (
      c.args.slot,
      table.rest c.bring.new.seat.me.1,
      ap (λ (m : table.Me Slot View). m.1) e,
      subst
          (λ (v : View). MayPutBack (key_of c.args.board.now.key).setting (shelf c.pass.inside.id mine) (caught_up v c.pass.inside.id mine)
          c.args.k c.args.slot c.args.quiet) same m,
    )

whole : (o m : List ℕ) (n : ℕ) → n ≡ length o → take n (o ++ m) ≡ o
whole o m n e = ap (λ k. take k (o ++ m)) e ∙ take-append_seam o m

pub invariant_of-pass : goal.invariant_of-pass
invariant_of-pass c =
    let o = c.bring.new.order in
    let mine = c.pass.inside.mine.entries in
    let kept = c.bring.auto.order in
    let len = c.as_mut_slice.ensures.len in
    let n : c.pass.inside.order.len ≡ length o = omega arith in
    let items : c.remove.new.self.items ≡ drop 1 o = c.remove.ensures.items
    ∙ ap (drop 1) (whole o (drop (length o) c.pass.inside.order.items) c.pass.inside.order.len n) in
    let perm = subst (λ l. IsPermutation l o) c.as_mut_slice.ensures.value c.bring.ensures.permutation in
    let e = c.exchange.ensures.3 in
    let b = brought c.args.k c.bring.new.seat.me.1 o c.bring.ensures.carried c.bring.ensures.front in
    let is = c.leave_turn.ensures.left ∙ ap (λ (m : table.Me Slot View). let r : table.Me Slot View =
    (left (caught_up m.0 c.pass.inside.id mine) c.args.k c.args.quiet, table.rest m.1) in r) e
    ∙ ap (λ (v : View). let r : table.Me Slot View =
    (left (caught_up v c.pass.inside.id mine) c.args.k c.args.quiet, table.rest c.bring.new.seat.me.1) in r) c.bring.ensures.place.2 in
    let cap = c.remove.ensures.capacity in
    let old = c.pass.invariant.room in
    let block = c.as_mut_slice.ensures in
    record {
      pass = subst (λ b. IsPass c.leave_turn.new.seat.me c.pass.inside.id mine c.pass.inside.seen c.remove.new.self.items b)
          (sym c.either-pass-inside.ensures) (subst
          (λ l. IsPass c.leave_turn.new.seat.me c.pass.inside.id mine c.pass.inside.seen l (c.pass.inside.quiet || c.args.quiet))
          (sym items)
          (pass_puts _ _ _ _ _ _ c.pass.invariant.pass c.args.k c.args.quiet o (table.rest c.bring.new.seat.me.1) _ perm
          c.bring.ensures.front
          b.1 is));
      room = omega arith;
    }
