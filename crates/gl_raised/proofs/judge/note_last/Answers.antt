use Rattle.std.proofs.Common.{◌∙◌, ap, sym, Some}
use Rattle.std.proofs.lemmas.Option.{slice_get-get_or}
use Rattle.gl_raised.proofs.Cells.{set_cells}
use Rattle.gl_raised.proofs.Lasting.{lasts_more}
use Rattle.gl_raised.proofs.judge.note_last.Goals as goal

pub returns-then-access-clause-lasts : goal.returns-then-access-clause-lasts
returns-then-access-clause-lasts c us i here know =
    let a = c.args.access.now in
    let old = c.args.lasts.now.items in
    lasts_more us i a here old _ c.index.result.now c.note.new.self c.if-access.true
    (slice_get-get_or old a.var c.index.result.now c.requires.variable ∙ ap Some (sym c.index.ensures))
    (λ x l e. set_cells old a.var c.note.new.self x l e) c.note.ensures know
