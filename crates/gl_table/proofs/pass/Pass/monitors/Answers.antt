use Rattle.std.proofs.Common.{subst}
use Rattle.std.specs.Prelude.{List}
use Rattle.gl_model.specs.declared.event.Stamp.{Stamp}
use Rattle.gl_model.specs.Infos.{AreLeastOwned}
use Rattle.gl_model.specs.Machine.{Setting, State, Allows}
use Rattle.gl_draws.specs.Events.{AreEvents}
use Rattle.gl_rule.proofs.Levels.{monitors_tell}
use Rattle.gl_table.specs.PassView.{PassView}
use Rattle.gl_table.proofs.pass.Pass.monitors.Goals as goal

pub returns-clause-owned : goal.returns-clause-owned
returns-clause-owned c =
    let held = c.monitors.ensures in
    subst (λ (p : PassView). (setting : Setting) (l : List Stamp) (now : State) → AreEvents l p.own.id p.own.mine → Allows setting l now
    → AreLeastOwned now p.own.id c.monitors.result) c.self.view_is
    (λ setting l now k allowed. monitors_tell setting l now c.self.inside.id c.self.inside.mine.entries allowed k
    c.self.invariant.pass.kept c.monitors.result held)
