use Rattle.std.proofs.Common.{◌+◌, sym, subst}
use Rattle.std.specs.Prelude.{Contains}
use Rattle.gl_table.specs.PassView.{PassView}
use Rattle.gl_table.specs.Putting.{held_at}
use Rattle.gl_rule.specs.Told.{IsAboveDrawn}
use Rattle.gl_table.proofs.Passes.{pass_opens}
use Rattle.gl_table.proofs.telling.open.Goals as goal

pub invariant_of-pass : goal.invariant_of-pass
invariant_of-pass c =
    let has = subst (λ (p : PassView). Contains p.own.held (held_at (c.args.var + 1) p.own.held)) (sym c.pass.view_is)
    c.requires.may.may.draws.held in
    record {
      pass = pass_opens _ _ _ _ _ _ c.pass.invariant.pass _ c.args.var _ _ c.args.look _ has c.open_number.ensures.drew;
      room = c.pass.invariant.room;
    }

-- it is above those that wait
pub returns-clause-above : goal.returns-clause-above
returns-clause-above c = subst (λ (p : PassView). IsAboveDrawn c.args.var c.open_number.result p.own.drawn) c.pass.view_is
    c.open_number.ensures.drew.2
