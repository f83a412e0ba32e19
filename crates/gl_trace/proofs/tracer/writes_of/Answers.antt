use Rattle.std.proofs.Common.{◌∙◌, ap, ℕ, pos, refl, get_or}
use Rattle.gl_model.specs.Rising.{with_part}
use Rattle.gl_model.specs.declared.tx.Pair.{Pair}
use Rattle.gl_trace.proofs.TracerLemmas.{part_next}
use Rattle.gl_trace.proofs.tracer.writes_of.Goals as goal

pub loop-var-preserved : goal.loop-var-preserved
loop-var-preserved c =
    let f : ℕ → Pair = λ x. record { var = x; value = pos 0 } in
    let key : Pair → ℕ = λ p. p.var in
    c.in-Ok.ensures.ok
    ∙ ap (λ l. with_part key (f (get_or c.ids-var-items.result.now c.loop-var.var-index 0)) l) c.loop-var.invariant
    ∙ part_next key f (λ x. refl) c.ids-var-items.result.now c.args.writes.now c.loop-var.var-index c.ids-var-items.ensures.same
    c.keeps.ensures.1 c.loop-var-test.true
