use Rattle.std.proofs.Common.{◌∙◌, ap, ℕ, pos, refl, get_or}
use Rattle.std.specs.Prelude.{slice_index}
use Rattle.gl_model.specs.Rising.{with_part}
use Rattle.gl_model.specs.declared.tx.Look.{Look}
use Rattle.gl_trace.proofs.TracerLemmas.{part_next}
use Rattle.gl_trace.proofs.tracer.looks_of.Goals as goal

pub loop-var-preserved : goal.loop-var-preserved
loop-var-preserved c =
    let f : ℕ → Look = λ x. record { var = x; value = pos 0; nth = slice_index c.args.numbers.now x } in
    let key : Look → ℕ = λ p. p.var in
    c.in-Ok.ensures.ok
    ∙ ap (λ p. with_part key p c.loop-var.looks) c.look_at.ensures
    ∙ ap (λ l. with_part key (f (get_or c.ids-var-items.result.now c.loop-var.var-index 0)) l) c.loop-var.invariant
    ∙ part_next key f (λ x. refl) c.ids-var-items.result.now c.args.reads.now c.loop-var.var-index c.ids-var-items.ensures.same
    c.keeps.ensures.1 c.loop-var-test.true
