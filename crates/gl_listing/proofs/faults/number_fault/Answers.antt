use Rattle.std.proofs.Common.{subst, sym}
use Rattle.gl_model.specs.Form.{Numbered}
use Rattle.gl_model.specs.Lists.{lists_of}
use Rattle.gl_listing.specs.Looking.{AreInOrder}
use Rattle.gl_listing.specs.Numbering.{NumberFailsAt, draws_of, draws_on}
use Rattle.gl_listing.proofs.Found.{found_of_variables, found_or, if_found, uses_in_order}
use Rattle.gl_listing.proofs.NumberedLaw.{numbered_exactly}
use Rattle.gl_listing.proofs.faults.number_fault.Goals as goal

pub first_wrong-requires : goal.first_wrong-requires
first_wrong-requires c =
    λ x. subst AreInOrder (sym (c.in_ok-draws.ensures x)) (uses_in_order (draws_on x) c.args.made.now c.keeps.ensures.0)

pub returns : goal.returns
returns c =
    let made = c.args.made.now in
    if_found _ _ (λ found is. found_or (Numbered (lists_of made)) (NumberFailsAt made)
    (numbered_exactly made c.keeps.ensures c.requires.form).1 found
    (found_of_variables _ (λ x. draws_of x made) c.in_ok-draws.ensures found is)) c.first_wrong.result c.first_wrong.ensures
