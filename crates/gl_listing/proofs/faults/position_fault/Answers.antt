use Rattle.std.proofs.Common.{◌≡◌, ◌∙◌, List, ap, map, subst, sym}
use Rattle.gl_model.specs.Form.{Listed}
use Rattle.gl_model.specs.Lists.{lists_of}
use Rattle.gl_places.specs.Uses.{PositionFailsAt, Use, UseFailsAt, positions_of, positions_on, use_seen}
use Rattle.gl_places.proofs.ListedLaw.{listed_exactly}
use Rattle.gl_listing.specs.Looking.{AreInOrder}
use Rattle.gl_listing.proofs.Found.{IsFound, found_or, if_found, uses_in_order}
use Rattle.gl_listing.proofs.faults.position_fault.Goals as goal

pub first_wrong-requires : goal.first_wrong-requires
first_wrong-requires c =
    let made = c.args.made.now in
    let are : map use_seen c.deref.result.now ≡ positions_of made = ap (map use_seen) c.deref.ensures.value ∙ c.in_ok-uses.ensures in
    record { in_order = subst AreInOrder (sym are) (uses_in_order positions_on made c.keeps.ensures.0) }

pub returns : goal.returns
returns c =
    let made = c.args.made.now in
    let are : map use_seen c.deref.result.now ≡ positions_of made = ap (map use_seen) c.deref.ensures.value ∙ c.in_ok-uses.ensures in
    if_found _ _ (λ found is. let P : List Use → Type 0 = λ us. IsFound (UseFailsAt us) found in
    found_or (Listed (lists_of made)) (PositionFailsAt made) (listed_exactly made c.keeps.ensures).1 found (subst P are is))
    c.first_wrong.result c.first_wrong.ensures
