use Rattle.std.proofs.Common.{map}
use Rattle.gl_places.specs.Uses.{numbers_in, use_seen}
use Rattle.gl_listing.proofs.Marking.{HasMet}
use Rattle.gl_listing.proofs.wrong.first_wrong.Given as goal

abbrev pub invariant-loop-tried : goal.invariant-loop-tried
invariant-loop-tried l = HasMet (numbers_in (map use_seen l.uses)) l.tried-index l.met.items
