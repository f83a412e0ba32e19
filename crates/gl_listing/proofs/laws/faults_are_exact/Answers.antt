use Rattle.gl_places.proofs.ListedLaw.{listed_exactly}
use Rattle.gl_listing.proofs.NumberedLaw.{numbered_exactly}
use Rattle.gl_listing.proofs.laws.faults_are_exact.Goals as goal

pub returns-clause-listed : goal.returns-clause-listed
returns-clause-listed c = listed_exactly

pub returns-clause-numbered : goal.returns-clause-numbered
returns-clause-numbered c = numbered_exactly
