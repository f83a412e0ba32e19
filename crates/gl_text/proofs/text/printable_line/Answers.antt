use Rattle.std.proofs.Common.{◌+◌, sym, refl}
use Rattle.std.proofs.lemmas.List.{take_rest}
use Rattle.gl_text.proofs.PlainLemmas.{printable_first, printable_front}
use Rattle.gl_text.proofs.text.printable_line.Goals as goal

pub returns-clause-lines : goal.returns-clause-lines
returns-clause-lines c =
    printable_first c.args.text.now _ _ c.in_ok-end.end (sym c.in_ok-end.ensures) c.if-text-end-ne10.false refl
    (take_rest c.args.text.now (c.in_ok-end.end + 1))

pub returns-clause-good : goal.returns-clause-good
returns-clause-good c = printable_front c.args.text.now _ c.in_ok-end.end (sym c.in_ok-end.ensures) refl
