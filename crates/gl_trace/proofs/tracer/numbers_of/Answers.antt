use Rattle.std.proofs.Common.{◌∙◌, ap, ℕ, refl, get_or}
use Rattle.std.specs.Prelude.{slice_index}
use Rattle.gl_model.specs.Rising.{with_part}
use Rattle.gl_model.specs.declared.tx.Number.{Number}
use Rattle.gl_trace.proofs.TracerLemmas.{part_next}
use Rattle.gl_trace.proofs.tracer.numbers_of.Goals as goal

pub loop-var-preserved : goal.loop-var-preserved
loop-var-preserved c =
    let f : ℕ → Number = λ x. record { var = x; nth = slice_index c.args.numbers.now x } in
    let key : Number → ℕ = λ p. p.var in
    c.in-Ok.ensures.ok
    ∙ ap (λ p. with_part key p c.loop-var.drawn) c.number_at.ensures
    ∙ ap (λ l. with_part key (f (get_or c.ids-var-items.result.now c.loop-var.var-index 0)) l) c.loop-var.invariant
    ∙ part_next key f (λ x. refl) c.ids-var-items.result.now c.args.variables.now c.loop-var.var-index c.ids-var-items.ensures.same
    c.keeps.ensures.1 c.loop-var-test.true
