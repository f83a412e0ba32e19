use Rattle.std.proofs.Common.{◌≡◌, ◌<◌, ◌∙◌, Some, ap, refl, subst, sym, length, arith}
use Rattle.std.specs.Prelude.{slice_get}
use Rattle.std.proofs.lemmas.Option.{slice_get-get_or}
use Rattle.gl_pages.specs.Explained.{cause_of}
use Rattle.gl_pages.proofs.Telling.{AreTold, one_told}
use Rattle.gl_pages.proofs.run.Run.explained.Goals as goal

pub loop-cause-preserved : goal.loop-cause-preserved
loop-cause-preserved c =
    let causes = c.deref-cause-items.result.now in
    let n = c.loop-cause.cause-index in
    let less : n < length causes = omega arith in
    let there : slice_get causes n ≡ Some (cause_of c.in_ok-explanation.field-0) =
    slice_get-get_or causes n _ less ∙ ap Some (sym c.in_ok-explanation.ensures.cause) in
    subst (AreTold c.args.self.now _) (sym c.in_ok-push.ensures.items)
    (one_told c.args.self.now causes n (cause_of c.in_ok-explanation.field-0) c.loop-cause.explained.items c.in_ok-explanation.field-0 there
    refl c.in_ok-explanation.ensures.right c.loop-cause.invariant)
