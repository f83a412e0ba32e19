use Rattle.std.proofs.Common.{map}
use Rattle.gl_places.specs.Places.{seen}
use Rattle.gl_places.specs.Uses.{positions_of}
use Rattle.gl_places.proofs.EventPlaces.{ArePut}
use Rattle.gl_places.proofs.uses.event_places.Given as goal

abbrev pub invariant-loop-event : goal.invariant-loop-event
invariant-loop-event l = ArePut (positions_of l.made) l.event-index (map seen l.places.items)
