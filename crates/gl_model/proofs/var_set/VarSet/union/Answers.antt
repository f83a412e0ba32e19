use Rattle.std.proofs.Common.{◌≡◌, ◌<◌, ◌∙◌, take, ap}
use Rattle.std.proofs.lemmas.List.{drop-replicate}
use Rattle.gl_model.specs.declared.limits.TheConstants.{VARIABLES, TX_VARIABLES}
use Rattle.gl_model.specs.Rising.{with_all}
use Rattle.gl_model.proofs.Merged.{All-with_all, Rises-with_all}
use Rattle.gl_model.proofs.var_set.VarSet.union.Goals as goal

pub invariant_of-result : goal.invariant_of-result
invariant_of-result c =
    let l = c.in_ok-len in
    let all : take l.field-0 c.merge.new.all ≡ with_all c.args.other.now c.args.self = l.ensures.merged
    ∙ ap (λ zs. with_all zs c.ids.result.now) c.ids-2.ensures.same ∙ ap (with_all c.args.other.now) c.ids.ensures.same in (
      c.merge.auto.all,
      l.ensures.within,
      l.ensures.rest ∙ drop-replicate l.field-0 TX_VARIABLES 0,
      rw all (All-with_all (λ x. x < VARIABLES) c.args.other.now c.args.self c.keeps-2.ensures.2 c.keeps.ensures.2),
      rw all (Rises-with_all c.args.other.now c.args.self c.keeps.ensures.1),
    )
