use Rattle.std.proofs.Common.{◌-◌, refl, ap, ◌∙◌}
use Rattle.gl_model.specs.Entries.{Entry, Over}
use Rattle.gl_table.specs.CaughtUp.{caught_up, adds_one}
use Rattle.gl_rule.specs.Lives.{life_of}
use Rattle.gl_table.specs.PassView.{PassView, pass_of, after_adding}
use Rattle.gl_rule.specs.View.{shelf}
use Rattle.gl_rule.proofs.Lasting.{may_end}
use Rattle.gl_table.proofs.Passes.{pass_adds}
use Rattle.gl_table.proofs.pass.Pass.over.Goals as goal

pub invariant_of-self : goal.invariant_of-self
invariant_of-self c =
    let mine = c.self.inside.mine.entries in
    let m = may_end c.self.inside.id mine (ap (λ (p : PassView). life_of p.own.mine) c.self.view_is ∙ c.requires.ends) in
    record {
      pass = (pass_adds _ _ _ _ _ _ c.self.invariant.pass (Over c.args.ending) _ (λ u e. (shelf c.self.inside.id mine, refl, m, e))
          refl refl refl c.self.invariant.pass.out refl tt c.push.ensures.entries).0;
      room = c.self.invariant.room;
    }

pub returns : goal.returns
returns c =
    let mine = c.self.inside.mine.entries in
    let m = may_end c.self.inside.id mine (ap (λ (p : PassView). life_of p.own.mine) c.self.view_is ∙ c.requires.ends) in
    let e : Entry = Over c.args.ending in
    let more = c.push.ensures.entries in
    let is = (pass_adds _ _ _ _ _ _ c.self.invariant.pass e _ (λ u e. (shelf c.self.inside.id mine, refl, m, e)) refl refl refl
    c.self.invariant.pass.out refl tt more).1 in
    let id = c.self.inside.id in
    let z = c.self.inside.seat.table_id in
    let now = caught_up c.self.inside.seat.me.0 id mine in
    let old = c.self.inside.mine.spare - 1 in
    let mine' = c.push.new.self.entries in
    ap (λ s. pass_of z id mine' (caught_up c.self.inside.seat.me.0 id mine') s) c.push.ensures.spare
    ∙ ap (λ v. pass_of z id mine' v old) is
    ∙ ap (λ l. pass_of z id l (adds_one now id mine e) old) more
    ∙ ap (λ (p : PassView). after_adding p e) c.self.view_is
