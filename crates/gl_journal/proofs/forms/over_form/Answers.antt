use Rattle.std.proofs.Common.{◌≡◌, codes, rules, refl}
use Rattle.std.proofs.lemmas.Slice.Eq.{text_from_reads}
use Rattle.gl_journal.proofs.forms.over_form.Goals as goal

pub returns-in-uncaught : goal.returns-in-uncaught
returns-in-uncaught c =
    let word : c.args.word.now ≡ codes "uncaught" = search (rules, text_from_reads) in
    rw word refl
