use Rattle.std.proofs.Common.{◌+◌, refl, sym, subst}
use Rattle.std.specs.Prelude.{Contains}
use Rattle.gl_table.specs.PassView.{PassView}
use Rattle.gl_table.specs.Putting.{held_at}
use Rattle.gl_table.proofs.Passes.{pass_changes}
use Rattle.gl_table.proofs.pass.see_floor.Goals as goal

pub invariant_of-pass : goal.invariant_of-pass
invariant_of-pass c =
    let has = subst (λ (p : PassView). Contains p.own.held (held_at (c.args.var + 1) p.own.held)) (sym c.pass.view_is) c.requires.held.0 in
    record {
      pass = pass_changes _ _ _ _ _ _ c.pass.invariant.pass _ _ _ _ refl refl refl refl refl refl has c.load_floor.ensures.saw.0;
      room = c.pass.invariant.room;
    }
