use Rattle.std.proofs.Common.{◌≡◌, sym, subst, [], rules}
use Rattle.gl_asm.specs.Listing.{listing}
use Rattle.gl_asm.specs.Texts.{IsText}
use Rattle.gl_asm.proofs.ListedProgram.{listing_is_text}
use Rattle.gl_asm.proofs.ListingLemmas.{is_short}
use Rattle.gl_asm.proofs.listing.list.Goals as goal

pub push_classes-requires : goal.push_classes-requires
push_classes-requires c = is_short c.args.program.now c.main-main.ensures.faultless c.main-main.ensures.valid

pub push_functions-requires : goal.push_functions-requires
push_functions-requires c = is_short c.args.program.now c.main-main.ensures.faultless c.main-main.ensures.valid

pub returns-clause-text : goal.returns-clause-text
returns-clause-text c =
    let P = c.args.program.now in
    let valid = c.main-main.ensures in
    let bytes : c.into_bytes.result.items ≡ listing P = search rules in
    subst (λ text. IsText text P []) (sym bytes) (listing_is_text P valid.faultless valid.thrown c.in_ok-push_functions.ensures.typed)
