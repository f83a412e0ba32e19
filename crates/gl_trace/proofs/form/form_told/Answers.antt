use Rattle.std.proofs.Common.{◌≡◌, codes, rules, refl}
use Rattle.std.proofs.lemmas.Slice.Eq.{text_from_reads}
use Rattle.gl_trace.proofs.form.form_told.Goals as goal

pub returns-in-commit : goal.returns-in-commit
returns-in-commit c =
    let commit : c.args.word.now ≡ codes "commit" = search (rules, text_from_reads) in
    rw commit refl
