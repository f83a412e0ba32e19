use Rattle.gl_acts.proofs.Firsts.{one_first}
use Rattle.gl_acts.proofs.laws.one_act_fails_first.Goals as goal

pub returns : goal.returns
returns _ setting R listed c d = one_first setting R listed c d
