use Rattle.std.proofs.Common.{◌≡◌, ◌∷◌, refl, sym, ap, subst, ◌∙◌, rules, arith, vec_len, vec_capacity, ◌<◌}
use Rattle.atomic_table.specs.Table as table
use Rattle.gl_table.specs.PassInside.{IsPass}
use Rattle.gl_table.specs.PassView.{PassView}
use Rattle.gl_table.specs.Putting.{DoesNotHold}
use Rattle.gl_rule.specs.View.{View}
use Rattle.gl_rule.specs.declared.slot.Slot.{Slot}
use Rattle.gl_rule.specs.declared.slot.Slot.TheVariants as slot
use Rattle.gl_table.proofs.Passes.{pass_refuses, took_slot, took_room, pass_takes}
use Rattle.gl_table.proofs.pass.take_object.Goals as goal

pub invariant_of-pass : goal.invariant_of-pass
invariant_of-pass c = record {
  pass = (pass_refuses _ _ _ _ _ _ c.pass.invariant.pass _ c.args.k _ _ c.take_turn-found.ensures.took
      c.if-found-ne0.true).0;
  room = c.pass.invariant.room;
}

pub exchange-requires : goal.exchange-requires
exchange-requires c =
    let s = took_slot _ _ _ _ _ _ c.pass.invariant.pass _ c.args.k _ _ c.take_turn-found.ensures.took c.if-found-ne0.false in
    (search rules, (s.0, subst (λ (m : table.Me Slot View). m.1 ≡ (c.args.k, s.0) ∷ table.rest m.1) (sym s.1) refl))

pub invariant_of-pass-2 : goal.invariant_of-pass-2
invariant_of-pass-2 c =
    let s = took_slot _ _ _ _ _ _ c.pass.invariant.pass _ c.args.k _ _ c.take_turn-found.ensures.took c.if-found-ne0.false in
    let free = subst (λ (p : PassView). DoesNotHold p.own.held c.args.k) (sym c.pass.view_is) c.requires.free in
    let order = c.in-Ok.ensures.items in
    let cap = c.in-Ok.ensures.capacity in
    let old = c.pass.invariant.room in
    let is = c.exchange.ensures.3 ∙ ap (λ (m : table.Me Slot View). let r : table.Me Slot View =
    (m.0, (c.args.k, slot.Empty) ∷ table.rest m.1) in r) s.1 in
    record {
      pass = subst (λ l. IsPass c.exchange.new.seat.me c.pass.inside.id c.pass.inside.mine.entries c.pass.inside.seen l
          c.pass.inside.quiet) (sym order) (pass_takes _ _ _ _ _ _ c.pass.invariant.pass c.args.k s.0 _ (λ o. free o.0 o.1 o.2)
          c.requires.near
          is);
      room = omega arith;
    }

pub unreachable-requires : goal.unreachable-requires
unreachable-requires c =
    let s = took_slot _ _ _ _ _ _ c.pass.invariant.pass _ c.args.k _ _ c.take_turn-found.ensures.took c.if-found-ne0.false in
    let free = subst (λ (p : PassView). DoesNotHold p.own.held c.args.k) (sym c.pass.view_is) c.requires.free in
    let few = took_room _ _ _ _ _ _ c.pass.invariant.pass c.args.k (λ o. free o.0 o.1 o.2) c.requires.near in
    let old = c.pass.invariant.room in
    let room : vec_len c.pass.inside.order < vec_capacity c.pass.inside.order = omega arith in
    let full = c.in_default.ensures.full in
    absurd (omega arith)

pub take_turn-found-requires-clause-free : goal.take_turn-found-requires-clause-free
take_turn-found-requires-clause-free c = subst (λ (p : PassView). DoesNotHold p.own.held c.args.k) (sym c.pass.view_is) c.requires.free
