use Rattle.std.proofs.Common.{◌≤◌, sym, subst}
use Rattle.gl_model.specs.declared.limits.TheConstants.{TX_VARIABLES}
use Rattle.gl_follow.specs.Words.{Touched, size_of}
use Rattle.gl_follow.proofs.WordLemmas.{size_all}
use Rattle.gl_follow.proofs.words.Words.keeps.Goals as goal

pub returns : goal.returns
returns c =
    let size = size_all c.self.inside.looks c.self.inside.writes c.self.inside.all c.self.invariant in
    subst (λ (t : Touched). size_of t ≤ TX_VARIABLES) c.self.view_is (subst (λ n. n ≤ TX_VARIABLES) (sym size) c.keeps.ensures.0)
