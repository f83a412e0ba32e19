use Rattle.std.proofs.Common.{subst}
use Rattle.gl_explain.specs.Explained.{Explains}
use Rattle.gl_explain.specs.First.{IsFirstIn}
use Rattle.gl_explain.proofs.Seeking.{first_on, first_new, none_on}
use Rattle.gl_explain.proofs.first.earlier.Goals as goal

pub returns-in-Some-default : goal.returns-in-Some-default
returns-in-Some-default c = λ done next here is found.
    first_on done next c.in-Some-default.first (subst (IsFirstIn done) c.in-Some-default.is-0 is)

pub returns-in-None-Some : goal.returns-in-None-Some
returns-in-None-Some c = λ done next here is found.
    first_new done next c.args.race c.in-None-Some.explanation here (subst (IsFirstIn done) c.in-None-Some.is-0 is)
    (subst (Explains done next) c.in-None-Some.is-1 found)

pub returns-in-None-None : goal.returns-in-None-None
returns-in-None-None c = λ done next here is found.
    none_on done next (subst (IsFirstIn done) c.in-None-None.is-0 is) (subst (Explains done next) c.in-None-None.is-1 found)
