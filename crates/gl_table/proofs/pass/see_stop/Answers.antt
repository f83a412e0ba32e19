use Rattle.std.proofs.Common.{◌≡◌, ℕ, ◌≤◌, subst}
use Rattle.std.specs.Prelude.{Contains}
use Rattle.gl_rule.specs.View.{Stop, SetStop}
use Rattle.gl_table.specs.PassView.{PassView}
use Rattle.gl_table.proofs.Passes.{pass_saw}
use Rattle.gl_table.proofs.pass.see_stop.Goals as goal

pub invariant_of-pass : goal.invariant_of-pass
invariant_of-pass c = record {
  pass = pass_saw _ _ _ _ _ _ c.pass.invariant.pass _ _ c.load_stop.ensures.saw.0;
  room = c.pass.invariant.room;
}

-- it has not fallen, and it is set where the pass set it
pub returns-clause-risen : goal.returns-clause-risen
returns-clause-risen c = subst (λ (p : PassView). (m : ℕ) → Contains p.reads (Stop m) → m ≤ c.load_stop.result) c.pass.view_is
    c.load_stop.ensures.saw.2

pub returns-clause-own : goal.returns-clause-own
returns-clause-own c = subst (λ (p : PassView). Contains p.reads SetStop → c.load_stop.result ≡ 1) c.pass.view_is c.load_stop.ensures.saw.3
