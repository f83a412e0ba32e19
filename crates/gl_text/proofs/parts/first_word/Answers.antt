use Rattle.std.proofs.Common.{◌∙◌, sym}
use Rattle.std.proofs.lemmas.List.{take_rest}
use Rattle.gl_text.proofs.TextLemmas.{word_begins, no_word}
use Rattle.gl_text.proofs.parts.first_word.Goals as goal

pub split_word-requires-clause-some : goal.split_word-requires-clause-some
split_word-requires-clause-some c =
    (word_begins c.args.text.now _ c.in-Some.start (sym c.in-Some.ensures) (take_rest c.args.text.now c.in-Some.start)).0

pub returns-in-Some : goal.returns-in-Some
returns-in-Some c =
    sym (word_begins c.args.text.now _ c.in-Some.start (sym c.in-Some.ensures) (take_rest c.args.text.now c.in-Some.start)).1
    ∙ c.split_word.ensures

pub returns-in-None : goal.returns-in-None
returns-in-None c = no_word c.args.text.now (sym c.in-None.ensures)
