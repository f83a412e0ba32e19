use Rattle.std.proofs.Common.{FitsSigned, subst, w64}
use Rattle.std.specs.Prelude.{MatchBool}
use Rattle.std.proofs.lemmas.Int.{to_z-of_z}
use Rattle.gl_model.specs.Flat.{LooksReadRight}
use Rattle.gl_flat.specs.Below.{FoundIsRight}
use Rattle.gl_flat.proofs.RightLooks.{second_tested}
use Rattle.gl_flat.proofs.looks.change_is_right.Goals as goal

pub returns : goal.returns
returns c = λ R are.
    let fits : FitsSigned w64 c.args.found = c.ranges.found in
    let ns = c.args.tx.now.numbers in
    second_tested (LooksReadRight R c.args.tx.now.looks) (FoundIsRight R ns c.args.var c.args.found) c.found_is_right.result
    (c.if-not-looks_are_right.ensures R are)
    (subst (λ v. MatchBool c.found_is_right.result (FoundIsRight R ns c.args.var v) (FoundIsRight R ns c.args.var v → ⊥))
    (to_z-of_z w64 c.args.found fits) (c.found_is_right.ensures R are))
