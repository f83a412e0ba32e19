use Rattle.std.proofs.Common.{◌≡◌, subst}
use Rattle.gl_model.specs.declared.row.Info.{Info}
use Rattle.gl_shortcut.specs.Ordering.{Orders}
use Rattle.gl_judge.proofs.asking.is_clear.Goals as goal

pub returns-else-not-conflicts-clause-yes : goal.returns-else-not-conflicts-clause-yes
returns-else-not-conflicts-clause-yes g c = λ t i e k. let same : c.in-Some.info ≡ i = (let is = c.in-Some.is in cc)
    in subst (λ (j : Info). Orders j c.args.q.now) same (c.says_early.ensures.yes t)
