use Rattle.std.proofs.Common.{take}
use Rattle.gl_places.specs.Places.{seen}
use Rattle.gl_listing.specs.Looking.{IsAdded}
use Rattle.gl_listing.specs.Numbering.{end_draws}
use Rattle.gl_listing.proofs.draws.Draws.add_numbers.Given as goal

abbrev pub invariant-loop-i : goal.invariant-loop-i
invariant-loop-i l = IsAdded (seen l.place) (λ x. end_draws x (take l.i l.numbers)) l.fn.self l.self
