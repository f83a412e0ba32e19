use Rattle.std.proofs.Common.{◌≡◌, ◌-◌, sym, ap, subst, rules, ◌∙◌}
use Rattle.std.proofs.lemmas.Int.{to_z-of_z}
use Rattle.std.proofs.Common.{FitsSigned, w64}
use Rattle.gl_model.specs.declared.event.Event.TheVariants.{Act as Does}
use Rattle.gl_model.specs.declared.event.Stamp.{Stamp}
use Rattle.gl_model.specs.Entries.{Sync}
use Rattle.gl_rule.specs.Cells.{packed}
use Rattle.gl_rule.specs.declared.slot.Slot.TheVariants as slot
use Rattle.gl_table.specs.CaughtUp.{caught_up}
use Rattle.gl_table.specs.KeyOf.{key_of}
use Rattle.gl_rule.specs.Fitting.{MayPublish}
use Rattle.gl_table.specs.PassView.{PassView, pass_of}
use Rattle.gl_table.specs.Putting.{MayPublishAct, published_act}
use Rattle.gl_rule.specs.Told.{IsTailOf}
use Rattle.gl_rule.specs.View.{View, shelf, filled, published}
use Rattle.gl_table.proofs.Passes.{pass_publishes}
use Rattle.gl_table.proofs.telling.publish.Goals as goal

pub publish_act-at-requires-clause-may : goal.publish_act-at-requires-clause-may
publish_act-at-requires-clause-may c =
    let m = subst (λ (p : PassView). MayPublishAct (key_of c.args.board.now.key) p c.args.act.now c.args.value c.args.state.now)
    (sym c.pass.view_is) c.requires.may in
    let mine = c.pass.inside.mine.entries in
    let id = c.pass.inside.id in
    let is = c.put_words.ensures.stored ∙ ap (filled (caught_up c.pass.inside.seat.me.0 id mine)) c.pack-words.ensures in
    let fits : FitsSigned w64 c.args.value = search rules in (
      m.held,
      m.old,
      simp to_z-of_z (subst (λ (v : View). MayPublish (key_of c.args.board.now.key) (shelf id mine) v m.held m.old
          c.args.state.now (λ n. Sync n c.args.act.now c.args.value) (record { thread = id; event = Does c.args.act.now }) c.args.value)
          (sym is) m.may),
    )

pub push-requires-clause-kept : goal.push-requires-clause-kept
push-requires-clause-kept c = c.requires.may.may.kept

pub invariant_of-pass : goal.invariant_of-pass
invariant_of-pass c =
    let fits : FitsSigned w64 c.args.value = search rules in
    let more = simp to_z-of_z at c.push.ensures.entries in
    let told = simp to_z-of_z at c.publish_act-at.ensures.published in
    record {
      pass = (pass_publishes _ _ _ _ _ _ c.pass.invariant.pass _ c.args.act.now c.args.value (slot.List c.args.state.now) _ _ _ _ _
          c.put_words.ensures.stored c.put_words.ensures.seat.2 more told c.requires.may.may.kept).0;
      room = c.pass.invariant.room;
    }

pub returns : goal.returns
returns c =
    let fits : FitsSigned w64 c.args.value = search rules in
    let told = simp to_z-of_z at c.publish_act-at.ensures.published in
    let mine = c.pass.inside.mine.entries in
    let id = c.pass.inside.id in
    let n = c.publish_act-at.result in
    let z = c.pass.inside.seat.table_id in
    let x : Stamp = record { thread = id; event = Does c.args.act.now } in
    let more = simp to_z-of_z at c.push.ensures.entries in
    let is = (pass_publishes _ _ _ _ _ _ c.pass.invariant.pass _ c.args.act.now c.args.value (slot.List c.args.state.now) _ _ _ _ _
    c.put_words.ensures.stored c.put_words.ensures.seat.2 more told c.requires.may.may.kept).1 in
    let same = c.publish_act-at.ensures.seat.0 ∙ c.put_words.ensures.seat.0 in
    let m = subst (λ (p : PassView). MayPublishAct (key_of c.args.board.now.key) p c.args.act.now c.args.value c.args.state.now)
    (sym c.pass.view_is) c.requires.may in
    let at_tail = subst (λ (v : View). IsTailOf v.held n) c.put_words.ensures.stored told.3 in
    let left = c.push.ensures.spare in
    record {
      published = ap (λ y. pass_of y id c.push.new.self.entries (caught_up c.publish_act-at.new.seat.me.0 id c.push.new.self.entries)
          c.push.new.self.spare) same
          ∙ ap (λ s. pass_of z id c.push.new.self.entries (caught_up c.publish_act-at.new.seat.me.0 id c.push.new.self.entries) s) left
          ∙ ap (λ v. pass_of z id c.push.new.self.entries v (c.pass.inside.mine.spare - 1)) is
          ∙ ap (λ ws. pass_of z id c.push.new.self.entries (published (filled (caught_up c.pass.inside.seat.me.0 id mine) ws) id mine
          (Sync n c.args.act.now c.args.value) n x (slot.List c.args.state.now) (λ g. g.drew)) (c.pass.inside.mine.spare - 1))
          c.pack-words.ensures
          ∙ ap (λ l. pass_of z id l (published (filled (caught_up c.pass.inside.seat.me.0 id mine) (packed x)) id mine
          (Sync n c.args.act.now c.args.value) n x (slot.List c.args.state.now) (λ g. g.drew))
          (c.pass.inside.mine.spare - 1)) more
          ∙ ap (λ (p : PassView). published_act p c.args.act.now c.args.value n c.args.state.now) c.pass.view_is;
      here = subst (λ (p : PassView). n ≡ p.seen) c.pass.view_is (sym (at_tail m.held m.may.tail m.may.held m.may.list m.may.saw) ∙ m.tail);
    }
