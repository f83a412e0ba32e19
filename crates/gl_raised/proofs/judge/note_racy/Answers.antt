use Rattle.std.proofs.Common.{◌∙◌, ap, sym, Some}
use Rattle.std.proofs.lemmas.Option.{slice_get-get_or}
use Rattle.gl_raised.proofs.Lasting.{least_more, least_kept, least_cells}
use Rattle.gl_raised.proofs.judge.note_racy.Goals as goal

pub returns-then-racy-clause-least : goal.returns-then-racy-clause-least
returns-then-racy-clause-least c known us i here is know =
    let a = c.args.access.now in
    let old = c.args.least.now.items in
    least_more us i a here known old _ c.index.result.now (is.0 c.if-racy.true) (slice_get-get_or old a.claim c.index.result.now c.requires
    ∙ ap Some (sym c.index.ensures)) (least_cells old a.claim a.var c.index.result.now c.least_of.result c.least_of.ensures) know

pub returns-else-racy-clause-least : goal.returns-else-racy-clause-least
returns-else-racy-clause-least c known us i here is know =
    least_kept us i c.args.access.now here known c.args.least.now.items (λ r. let z = is.1 r in let y = c.if-racy.false in cc) know
