use Rattle.std.proofs.Common.{◌-◌, refl, sym, ap, subst, ◌∙◌, true, false, rules, FitsSigned, w64}
use Rattle.std.proofs.lemmas.Int.{to_z-of_z}
use Rattle.gl_model.specs.Entries.{Entry, Plain}
use Rattle.gl_rule.specs.Adding.{MayCache}
use Rattle.gl_table.specs.CaughtUp.{caught_up, adds_one}
use Rattle.gl_table.specs.PassView.{PassView, pass_of, view_of, shelf_of, after_adding}
use Rattle.gl_rule.specs.View.{shelf}
use Rattle.gl_table.proofs.Passes.{pass_adds}
use Rattle.gl_table.proofs.Ranges.{right_in_range, may_cache}
use Rattle.gl_table.proofs.pass.Pass.cached.Goals as goal

pub push-requires-clause-kept : goal.push-requires-clause-kept
push-requires-clause-kept c =
    let m = subst (λ (p : PassView). MayCache (shelf_of p) (view_of p) c.args.var c.args.nth c.args.write c.args.value)
    (sym c.self.view_is) (may_cache c.args.self.now c.args.var c.args.nth c.args.write c.args.value c.requires.may) in
    right_in_range _ _ _ _ _ _ c.self.invariant.pass.kept m

pub invariant_of-self : goal.invariant_of-self
invariant_of-self c =
    let mine = c.self.inside.mine.entries in
    let fits : FitsSigned w64 c.args.value = search rules in
    let more = simp to_z-of_z at c.push.ensures.entries in
    let m = subst (λ (p : PassView). MayCache (shelf_of p) (view_of p) c.args.var c.args.nth c.args.write c.args.value)
    (sym c.self.view_is) (may_cache c.args.self.now c.args.var c.args.nth c.args.write c.args.value c.requires.may) in
    record {
      pass = (pass_adds _ _ _ _ _ _ c.self.invariant.pass (Plain c.args.var c.args.nth true c.args.write c.args.value false) _
          (λ u e. (shelf c.self.inside.id mine, refl, m, e)) refl refl refl c.self.invariant.pass.out refl
          (right_in_range _ _ _ _ _ _ c.self.invariant.pass.kept m) more).0;
      room = c.self.invariant.room;
    }

pub returns : goal.returns
returns c =
    let mine = c.self.inside.mine.entries in
    let fits : FitsSigned w64 c.args.value = search rules in
    let more = simp to_z-of_z at c.push.ensures.entries in
    let m = subst (λ (p : PassView). MayCache (shelf_of p) (view_of p) c.args.var c.args.nth c.args.write c.args.value)
    (sym c.self.view_is) (may_cache c.args.self.now c.args.var c.args.nth c.args.write c.args.value c.requires.may) in
    let e : Entry = Plain c.args.var c.args.nth true c.args.write c.args.value false in
    let is = (pass_adds _ _ _ _ _ _ c.self.invariant.pass e _ (λ u e. (shelf c.self.inside.id mine, refl, m, e)) refl refl refl
    c.self.invariant.pass.out refl (right_in_range _ _ _ _ _ _ c.self.invariant.pass.kept m) more).1 in
    let id = c.self.inside.id in
    let z = c.self.inside.seat.table_id in
    let now = caught_up c.self.inside.seat.me.0 id mine in
    let old = c.self.inside.mine.spare - 1 in
    let mine' = c.push.new.self.entries in
    ap (λ s. pass_of z id mine' (caught_up c.self.inside.seat.me.0 id mine') s) c.push.ensures.spare
    ∙ ap (λ v. pass_of z id mine' v old) is
    ∙ ap (λ l. pass_of z id l (adds_one now id mine e) old) more
    ∙ ap (λ (p : PassView). after_adding p e) c.self.view_is
