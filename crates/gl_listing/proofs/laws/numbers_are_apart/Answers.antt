use Rattle.gl_listing.proofs.Apart.{apart}
use Rattle.gl_listing.proofs.laws.numbers_are_apart.Goals as goal

pub returns : goal.returns
returns c = apart
