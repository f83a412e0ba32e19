use Rattle.std.proofs.Common.{◌∙◌, ap, ℕ, pos, refl}
use Rattle.std.specs.Prelude.{slice_index_or}
use Rattle.gl_model.specs.Rising.{with_part}
use Rattle.gl_model.specs.declared.tx.Look.{Look}
use Rattle.gl_journal.specs.Parts.{look_of}
use Rattle.gl_journal.specs.declared.parts.Part.{Part}
use Rattle.gl_journal.proofs.PartLists.{part_next, set_rises}
use Rattle.gl_journal.proofs.parts.looks_of.Goals as goal

pub loop-part-preserved : goal.loop-part-preserved
loop-part-preserved c =
    let parts = c.args.parts.now in
    let i = c.loop-part.part-index in
    let none : Part = record { var = 0; value = pos 0; nth = 0 } in
    let key : Look → ℕ = λ p. p.var in
    c.in-Ok.ensures.ok
    ∙ ap (λ p. with_part key p c.loop-part.looks) c.look_of.ensures
    ∙ ap (λ l. with_part key (look_of (slice_index_or parts i none)) l) c.loop-part.invariant
    ∙ part_next key look_of (λ p. refl) parts i none (set_rises parts c.requires.set) c.loop-part-test.true
