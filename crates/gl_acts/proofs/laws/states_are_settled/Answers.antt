use Rattle.gl_acts.proofs.Runs.{settled}
use Rattle.gl_acts.proofs.laws.states_are_settled.Goals as goal

pub returns : goal.returns
returns _ setting R n = settled setting R n
