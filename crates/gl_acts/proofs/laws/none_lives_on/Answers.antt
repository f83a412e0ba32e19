use Rattle.gl_acts.proofs.Firsts.{none_lives_on}
use Rattle.gl_acts.proofs.laws.none_lives_on.Goals as goal

pub returns : goal.returns
returns _ setting R h place form list = none_lives_on setting R h place form list
