use Rattle.std.proofs.Common.{◌∙◌, ap, pos}
use Rattle.std.specs.Prelude.{slice_index_or}
use Rattle.gl_model.specs.Rising.{with_one}
use Rattle.gl_journal.specs.declared.parts.Part.{Part}
use Rattle.gl_journal.proofs.PartLists.{set_rises, var_next}
use Rattle.gl_journal.proofs.transactions.vars_of.Goals as goal

pub loop-part-preserved : goal.loop-part-preserved
loop-part-preserved c =
    let parts = c.args.parts.now in
    let i = c.loop-part.part-index in
    let none : Part = record { var = 0; value = pos 0; nth = 0 } in
    c.in-Ok.ensures.ok
    ∙ ap (λ l. with_one (slice_index_or parts i none).var l) c.loop-part.invariant
    ∙ var_next parts i none (set_rises parts c.requires.set) c.loop-part-test.true
