use Rattle.std.proofs.Common.{ℕ, ◌≤◌, subst}
use Rattle.std.specs.Prelude.{Contains}
use Rattle.gl_rule.specs.View.{Hold}
use Rattle.gl_table.specs.PassView.{PassView}
use Rattle.gl_table.proofs.Passes.{pass_saw}
use Rattle.gl_table.proofs.pass.see_hold.Goals as goal

pub invariant_of-pass : goal.invariant_of-pass
invariant_of-pass c = record {
  pass = pass_saw _ _ _ _ _ _ c.pass.invariant.pass _ _ c.load_hold.ensures.saw.0;
  room = c.pass.invariant.room;
}

-- the pass had loaded it as no more
pub returns-clause-risen : goal.returns-clause-risen
returns-clause-risen c = subst (λ (p : PassView). (m : ℕ) → Contains p.reads (Hold c.args.k m) → m ≤ c.load_hold.result) c.pass.view_is
    c.load_hold.ensures.saw.1
