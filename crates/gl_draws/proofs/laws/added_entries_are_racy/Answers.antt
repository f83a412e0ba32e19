use Rattle.gl_draws.proofs.Added.{added_law}
use Rattle.gl_draws.proofs.laws.added_entries_are_racy.Goals as goal

pub returns : goal.returns
returns c = added_law
