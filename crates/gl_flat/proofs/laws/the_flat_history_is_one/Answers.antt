use Rattle.gl_flat.proofs.OneHistory.{flat_history}
use Rattle.gl_flat.proofs.laws.the_flat_history_is_one.Goals as goal

pub returns : goal.returns
returns c = flat_history
