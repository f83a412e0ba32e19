use Rattle.std.proofs.Common.{◌+◌, sym, take, refl}
use Rattle.std.proofs.lemmas.List.{take_rest}
use Rattle.gl_journal.proofs.PartLists.{first_split, last_split}
use Rattle.gl_journal.proofs.parts.first_piece.Goals as goal

pub returns-in-Some : goal.returns-in-Some
returns-in-Some c =
    first_split c.args.separator c.args.text.now (take c.in-Some.end c.args.text.now) _ c.in-Some.end (sym c.in-Some.ensures) refl
    (take_rest c.args.text.now (c.in-Some.end + 1))

pub returns-in-None : goal.returns-in-None
returns-in-None c = last_split c.args.separator c.args.text.now (sym c.in-None.ensures)
