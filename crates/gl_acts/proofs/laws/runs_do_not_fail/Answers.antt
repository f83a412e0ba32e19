use Rattle.gl_acts.proofs.Firsts.{runs_do_not_fail}
use Rattle.gl_acts.proofs.laws.runs_do_not_fail.Goals as goal

pub returns : goal.returns
returns _ setting R c = runs_do_not_fail setting R c
