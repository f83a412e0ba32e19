use Rattle.std.proofs.Common.{◌≡◌, ◌∙◌, false, sym, rules}
use Rattle.gl_text.proofs.TextLemmas.{printable_good}
use Rattle.gl_text.proofs.text.is_bad.Goals as goal

pub returns-else-has_unprintable : goal.returns-else-has_unprintable
returns-else-has_unprintable c =
    let none : c.has_unprintable.result ≡ false = search rules in
    none ∙ sym (printable_good c.args.line.now (sym c.has_unprintable.ensures ∙ none))
