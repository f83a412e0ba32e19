use Rattle.std.proofs.Common.{subst}
use Rattle.std.specs.Prelude.{MatchBool}
use Rattle.gl_model.specs.Entries.{Abort}
use Rattle.gl_model.specs.Flat.{LooksReadRight, ReadsRight}
use Rattle.gl_flat.proofs.looks.reads_right.Goals as goal

pub returns-in-Commit : goal.returns-in-Commit
returns-in-Commit c = λ R are.
    let b = c.looks_are_right.result in
    rw c.in-Commit.is (subst (λ tx. MatchBool b (LooksReadRight R tx.looks) (LooksReadRight R tx.looks → ⊥)) c.deref.ensures
    (c.looks_are_right.ensures R are))

pub returns-in-Abort : goal.returns-in-Abort
returns-in-Abort c = λ R are.
    let b = c.abort_is_right.result in
    let why = c.in-Abort.why in
    rw c.in-Abort.is (subst (λ tx. MatchBool b (ReadsRight R (Abort tx why)) (ReadsRight R (Abort tx why) → ⊥)) c.deref-in-Abort.ensures
    (c.abort_is_right.ensures R are))
