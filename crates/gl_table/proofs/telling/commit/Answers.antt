use Rattle.std.proofs.Common.{◌≡◌, ℕ, List, ◌-◌, refl, sym, ap, subst, ◌∙◌}
use Rattle.std.specs.Prelude.{pos}
use Rattle.gl_model.specs.declared.tx.Tx.{Tx}
use Rattle.gl_model.specs.Entries.{Commit}
use Rattle.gl_model.specs.Kept.{IsTxKept}
use Rattle.gl_model.specs.Records.{variables_of}
use Rattle.gl_draws.specs.Draws.{draw, Entered}
use Rattle.gl_rule.specs.declared.slot.Slot.TheVariants as slot
use Rattle.gl_model.specs.declared.event.Event.TheVariants.{Commit as Commits}
use Rattle.gl_rule.specs.Cells.{packed}
use Rattle.gl_rule.specs.Commits.{MayCommit, drew_commit}
use Rattle.gl_rule.specs.Fitting.{MayPublish}
use Rattle.gl_rule.specs.Told.{IsTailOf}
use Rattle.gl_rule.specs.View.{View, shelf, filled, published}
use Rattle.gl_table.specs.CaughtUp.{caught_up}
use Rattle.gl_table.specs.Committing.{MayPublishTx, commit_stamp, published_tx}
use Rattle.gl_table.specs.KeyOf.{key_of}
use Rattle.gl_table.specs.Told.{PublishedTx}
use Rattle.gl_table.specs.PassView.{PassView, pass_of}
use Rattle.gl_table.proofs.Commitments.{commit_stored}
use Rattle.gl_table.proofs.Passes.{pass_tells}
use Rattle.gl_table.proofs.telling.commit.Goals as goal

pub publish_tx-at-requires-clause-may : goal.publish_tx-at-requires-clause-may
publish_tx-at-requires-clause-may c =
    let m = subst (λ (p : PassView). MayPublishTx (key_of c.args.board.now.key) p c.args.tx.value c.args.state.now) (sym c.pass.view_is)
    c.requires.may in
    let mine = c.pass.inside.mine.entries in
    let id = c.pass.inside.id in
    let now = caught_up c.pass.inside.seat.me.0 id mine in
    let key = key_of c.args.board.now.key in
    let words = c.pack_commit-words.ensures ∙ ap (λ (xs : List ℕ). packed (record { thread = id; event = Commits xs })) c.requires.vars in
    let is = c.put_words.ensures.stored ∙ ap (filled now) words in (
      m.held,
      m.old,
      subst (λ (tx : Tx). MayPublish key (shelf id mine) (caught_up c.put_words.new.seat.me.0 id mine) m.held m.old c.args.state.now
          (λ n. Commit n tx) (commit_stamp id tx) (pos 0)) (sym c.deref.ensures)
          (subst (λ (v : View). MayPublish key (shelf id mine) v m.held m.old c.args.state.now (λ n. Commit n c.args.tx.value)
          (commit_stamp id c.args.tx.value) (pos 0)) (sym is) m.may),
    )

pub publish_tx-at-requires-clause-commits : goal.publish_tx-at-requires-clause-commits
publish_tx-at-requires-clause-commits c =
    let m = subst (λ (p : PassView). MayPublishTx (key_of c.args.board.now.key) p c.args.tx.value c.args.state.now) (sym c.pass.view_is)
    c.requires.may in
    let mine = c.pass.inside.mine.entries in
    let id = c.pass.inside.id in
    let setting = (key_of c.args.board.now.key).setting in (
      m.block,
      m.judged,
      m.question,
      subst (λ (tx : Tx). MayCommit setting (shelf id mine) (caught_up c.put_words.new.seat.me.0 id mine) tx m.block m.judged m.question)
          (sym c.deref.ensures)
          (subst (λ (v : View). MayCommit setting (shelf id mine) v c.args.tx.value m.block m.judged m.question)
          (sym c.put_words.ensures.stored) (commit_stored setting (shelf id mine) _ c.args.tx.value m.block m.judged m.question _
          m.commits)),
    )

told_as : (P : Tx → Type 0) (a b : Tx) → a ≡ b → P a → P b
told_as P a b e p = subst P e p

pub push-requires-clause-kept : goal.push-requires-clause-kept
push-requires-clause-kept c = told_as IsTxKept _ c.args.tx.value c.deref-2.ensures c.keeps.ensures

pub invariant_of-pass : goal.invariant_of-pass
invariant_of-pass c =
    let mine = c.pass.inside.mine.entries in
    let id = c.pass.inside.id in
    let tx = c.args.tx.value in
    let n = c.publish_tx-at.result in
    let items = c.push.ensures.entries in
    let told = told_as (λ z. PublishedTx (shelf id mine) z (slot.List c.args.state.now) (caught_up c.put_words.new.seat.me.0 id mine)
    c.put_words.new.seat.me.1 n c.publish_tx-at.new.seat.me) _ tx c.deref.ensures c.publish_tx-at.ensures.published in
    let kept : IsTxKept tx = told_as IsTxKept _ tx c.deref-2.ensures c.keeps.ensures in
    record {
      pass = (pass_tells _ _ _ _ _ _ c.pass.invariant.pass _ (Commit n tx) (commit_stamp id tx)
          (drew_commit (variables_of tx) (draw id n (Entered (Commit n tx)))) (slot.List c.args.state.now) _ _ n _ _
          c.put_words.ensures.stored
          c.put_words.ensures.seat.2 items told.1 told.2 refl kept).0;
      room = c.pass.invariant.room;
    }

pub returns : goal.returns
returns c =
    let mine = c.pass.inside.mine.entries in
    let id = c.pass.inside.id in
    let tx = c.args.tx.value in
    let n = c.publish_tx-at.result in
    let z = c.pass.inside.seat.table_id in
    let more = c.push.ensures.entries in
    let told = told_as (λ z. PublishedTx (shelf id mine) z (slot.List c.args.state.now) (caught_up c.put_words.new.seat.me.0 id mine)
    c.put_words.new.seat.me.1 n c.publish_tx-at.new.seat.me) _ tx c.deref.ensures c.publish_tx-at.ensures.published in
    let kept : IsTxKept tx = told_as IsTxKept _ tx c.deref-2.ensures c.keeps.ensures in
    let r = pass_tells _ _ _ _ _ _ c.pass.invariant.pass _ (Commit n tx) (commit_stamp id tx)
    (drew_commit (variables_of tx) (draw id n (Entered (Commit n tx)))) (slot.List c.args.state.now) _ _ n _ _ c.put_words.ensures.stored
    c.put_words.ensures.seat.2 more told.1 told.2 refl kept in
    let is = r.1 in
    let same = c.publish_tx-at.ensures.seat.0 ∙ c.put_words.ensures.seat.0 in
    let m = subst (λ (p : PassView). MayPublishTx (key_of c.args.board.now.key) p c.args.tx.value c.args.state.now) (sym c.pass.view_is)
    c.requires.may in
    let at_tail = subst (λ (v : View). IsTailOf v.held n) c.put_words.ensures.stored told.3 in
    let old = c.pass.inside.mine.spare - 1 in
    let words = c.pack_commit-words.ensures ∙ ap (λ (xs : List ℕ). packed (record { thread = id; event = Commits xs })) c.requires.vars in
    let left = c.push.ensures.spare in
    let mine' = c.push.new.self.entries in
    record {
      published = ap (λ y. pass_of y id mine' (caught_up c.publish_tx-at.new.seat.me.0 id mine') c.push.new.self.spare) same
          ∙ ap (λ s. pass_of z id mine' (caught_up c.publish_tx-at.new.seat.me.0 id mine') s) left
          ∙ ap (λ v. pass_of z id mine' v old) is
          ∙ ap (λ ws. pass_of z id mine' (published (filled (caught_up c.pass.inside.seat.me.0 id mine) ws) id mine (Commit n tx) n
          (commit_stamp id tx) (slot.List c.args.state.now) (drew_commit (variables_of tx) (draw id n (Entered (Commit n tx))))) old) words
          ∙ ap (λ l. pass_of z id l (published (filled (caught_up c.pass.inside.seat.me.0 id mine)
          (packed (commit_stamp id tx))) id mine (Commit n tx) n (commit_stamp id tx)
          (slot.List c.args.state.now) (drew_commit (variables_of tx) (draw id n (Entered (Commit n tx))))) old) more
          ∙ ap (λ (p : PassView). published_tx p tx n c.args.state.now) c.pass.view_is;
      here = subst (λ (p : PassView). n ≡ p.seen) c.pass.view_is (sym (at_tail m.held m.may.tail m.may.held m.may.list m.may.saw) ∙ m.tail);
    }
