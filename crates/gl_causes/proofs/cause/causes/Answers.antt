use Rattle.std.proofs.Common.{map, subst, sym}
use Rattle.gl_model.specs.Lists.{lists_of}
use Rattle.gl_places.specs.Places.{AreEventPlaces, seen}
use Rattle.gl_causes.proofs.cause.causes.Goals as goal

pub causes_by_places-requires-clause-places : goal.causes_by_places-requires-clause-places
causes_by_places-requires-clause-places c =
    subst (λ ps. AreEventPlaces (lists_of c.args.made.now) (map seen ps)) (sym c.deref.ensures.value) c.in_ok-places.ensures
