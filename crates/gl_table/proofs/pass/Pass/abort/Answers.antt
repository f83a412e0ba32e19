use Rattle.std.proofs.Common.{◌-◌, sym, ap, subst, ◌∙◌}
use Rattle.gl_model.specs.Entries.{Entry, Abort}
use Rattle.gl_model.specs.Kept.{IsTxKept}
use Rattle.gl_table.specs.CaughtUp.{caught_up, adds_one}
use Rattle.gl_table.specs.PassView.{PassView, pass_of, after_adding}
use Rattle.gl_table.specs.Putting.{MayAbort}
use Rattle.gl_table.proofs.Aborts.{added_list, pass_aborts, abort_kept}
use Rattle.gl_table.proofs.pass.Pass.abort.Goals as goal

pub push-requires-clause-kept : goal.push-requires-clause-kept
push-requires-clause-kept c =
    let m = subst (λ (p : PassView). MayAbort p c.args.tx.value c.args.why) (sym c.self.view_is) c.requires.may in
    (subst IsTxKept c.deref.ensures c.keeps.ensures, abort_kept _ _ _ _ _ _ c.self.invariant.pass c.args.tx.value c.args.why m)

pub invariant_of-self : goal.invariant_of-self
invariant_of-self c =
    let m = subst (λ (p : PassView). MayAbort p c.args.tx.value c.args.why) (sym c.self.view_is) c.requires.may in
    record {
      pass = (pass_aborts _ _ _ _ _ _ c.self.invariant.pass c.args.tx.value c.args.why _ m
          (subst IsTxKept c.deref.ensures c.keeps.ensures) c.push.ensures.entries).0;
      room = c.self.invariant.room;
    }

pub returns : goal.returns
returns c =
    let mine = c.self.inside.mine.entries in
    let m = subst (λ (p : PassView). MayAbort p c.args.tx.value c.args.why) (sym c.self.view_is) c.requires.may in
    let more = c.push.ensures.entries in
    let e : Entry = Abort c.args.tx.value c.args.why in
    let is = (pass_aborts _ _ _ _ _ _ c.self.invariant.pass c.args.tx.value c.args.why _ m (subst IsTxKept c.deref.ensures c.keeps.ensures)
    more).1 in
    let id = c.self.inside.id in
    let z = c.self.inside.seat.table_id in
    let now = caught_up c.self.inside.seat.me.0 id mine in
    let old = c.self.inside.mine.spare - 1 in
    let mine' = c.push.new.self.entries in
    ap (λ s. pass_of z id mine' (caught_up c.self.inside.seat.me.0 id mine') s) c.push.ensures.spare
    ∙ ap (λ v. pass_of z id mine' v old) is
    ∙ ap (λ l. pass_of z id l (adds_one now id mine e) old) (more ∙ sym (added_list now id mine c.args.tx.value c.args.why))
    ∙ ap (λ (p : PassView). after_adding p e) c.self.view_is
