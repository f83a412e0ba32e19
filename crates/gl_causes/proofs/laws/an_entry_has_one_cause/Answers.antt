use Rattle.gl_causes.proofs.Single.{one_cause_law}
use Rattle.gl_causes.proofs.laws.an_entry_has_one_cause.Goals as goal

pub returns : goal.returns
returns c = one_cause_law
