use Rattle.gl_places.proofs.First.{first_once}
use Rattle.gl_places.specs.Uses.{PositionFailsAt}
use Rattle.gl_listing.specs.Numbering.{NumberFailsAt}
use Rattle.gl_listing.proofs.laws.one_first_place.Goals as goal

pub returns-clause-positions : goal.returns-clause-positions
returns-clause-positions c = λ made. first_once (PositionFailsAt made)

pub returns-clause-numbers : goal.returns-clause-numbers
returns-clause-numbers c = λ made. first_once (NumberFailsAt made)
