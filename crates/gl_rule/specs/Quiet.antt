-- Quiet: a pass that has seen that no thread is live is right for good.
use Rattle.std.specs.Prelude.{◌≡◌, true}
use Rattle.gl_model.specs.Machine.{State}
use Rattle.gl_state.specs.States.{IsQuiet}
use Rattle.gl_rule.specs.View.{View}

pub record QuietFits (now : State) (v : View) : Type 0 where
  pub none_live : v.quiet ≡ true → IsQuiet now
