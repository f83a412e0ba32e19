use Rattle.gl_core.proofs.Telling.{tell_law}
use Rattle.gl_core.proofs.laws.epochs_are_enough.Goals as goal

pub returns : goal.returns
returns c = tell_law
