use Rattle.std.proofs.Common.{◌+◌, sym, subst, rules, FitsSigned, w64}
use Rattle.std.specs.Prelude.{Contains}
use Rattle.std.proofs.lemmas.Int.{to_z-of_z}
use Rattle.gl_table.specs.PassView.{PassView}
use Rattle.gl_table.specs.Putting.{held_at}
use Rattle.gl_table.proofs.Passes.{pass_marks}
use Rattle.gl_table.proofs.telling.mark_plain.Goals as goal

pub invariant_of-pass : goal.invariant_of-pass
invariant_of-pass c =
    let fits : FitsSigned w64 c.args.value = search rules in
    let more = simp to_z-of_z at c.push.ensures.entries in
    let told = simp to_z-of_z at c.draw_number-nth.ensures.drew in
    let has = subst (λ (p : PassView). Contains p.own.held (held_at (c.args.var + 1) p.own.held)) (sym c.pass.view_is)
    c.requires.may.may.draws.held in
    record {
      pass = pass_marks _ _ _ _ _ _ c.pass.invariant.pass _ c.args.var _ c.args.write c.args.value c.args.raised _ _ _ has more told
          c.requires.near;
      room = c.pass.invariant.room;
    }
