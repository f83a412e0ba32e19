use Rattle.std.proofs.Common.{◌≡◌, ℕ, Some, string_bytes, slice_get}
use Rattle.gl_asm.specs.Listing.{class_line}
use Rattle.gl_asm.proofs.ListingLemmas.{class_there, fields_of, text_more}
use Rattle.gl_asm.proofs.listing.push_classes.Goals as goal

pub loop-class-preserved : goal.loop-class-preserved
loop-class-preserved c =
    let classes = c.args.program.now.classes in
    let t : ℕ × ℕ = (c.in-Some.plain, c.in-Some.volatile) in
    let there : slice_get classes c.loop-class.class
    ≡ Some (fields_of t) = class_there (slice_get classes c.loop-class.class) t c.in-Some.ensures in
    text_more class_line classes c.loop-class.class (fields_of t) (string_bytes c.args.out.now) (string_bytes c.loop-class.out)
    (string_bytes c.push_class.new.out)
    there c.loop-class.invariant c.in_ok-push_class-in-Some.ensures
