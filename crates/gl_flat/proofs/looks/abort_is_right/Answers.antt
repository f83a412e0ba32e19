use Rattle.std.proofs.Common.{FitsSigned, rules, subst, w64}
use Rattle.std.specs.Prelude.{MatchBool}
use Rattle.std.proofs.lemmas.Int.{to_z-of_z}
use Rattle.gl_model.specs.Flat.{LooksReadRight}
use Rattle.gl_flat.specs.Below.{FoundIsRight}
use Rattle.gl_flat.proofs.looks.abort_is_right.Goals as goal

pub returns-in-Changed : goal.returns-in-Changed
returns-in-Changed c = λ R are.
    let fits : FitsSigned w64 c.in-Changed.found = search rules in
    let tx = c.args.tx.now in
    let var = c.in-Changed.var in
    let b = c.change_is_right.result in
    rw c.in-Changed.is
    (subst (λ v. MatchBool b (LooksReadRight R tx.looks × FoundIsRight R tx.numbers var v)
    (LooksReadRight R tx.looks × FoundIsRight R tx.numbers var v → ⊥))
    (to_z-of_z w64 c.in-Changed.found fits) (c.change_is_right.ensures R are))

pub returns-in-Raised : goal.returns-in-Raised
returns-in-Raised c = λ R are. rw c.in-Raised.is (c.looks_are_right.ensures R are)
