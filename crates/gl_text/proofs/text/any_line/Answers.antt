use Rattle.std.proofs.Common.{◌+◌, sym}
use Rattle.std.proofs.lemmas.List.{take_rest}
use Rattle.gl_text.specs.Text.{is_line_feed}
use Rattle.gl_text.proofs.TextLemmas.{first_line_at, lines_last, place_none}
use Rattle.gl_text.proofs.text.any_line.Goals as goal

pub returns-in-Some-clause-lines : goal.returns-in-Some-clause-lines
returns-in-Some-clause-lines c =
    first_line_at c.args.text.now c.without_return.result.now _ c.in-Some.end (sym c.in-Some.ensures) c.without_return.ensures.value
    (take_rest c.args.text.now (c.in-Some.end + 1))

pub returns-in-None-clause-lines : goal.returns-in-None-clause-lines
returns-in-None-clause-lines c = lines_last c.args.text.now c.requires (place_none is_line_feed c.args.text.now (sym c.in-None.ensures))
