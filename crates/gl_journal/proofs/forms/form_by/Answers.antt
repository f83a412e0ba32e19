use Rattle.std.proofs.Common.{◌≡◌, codes, rules, refl}
use Rattle.std.proofs.lemmas.Slice.Eq.{text_from_reads}
use Rattle.gl_journal.proofs.forms.form_by.Goals as goal

pub returns-in-record : goal.returns-in-record
returns-in-record c =
    let word : c.args.first.now ≡ codes "record" = search (rules, text_from_reads) in
    rw word refl

pub returns-in-thread : goal.returns-in-thread
returns-in-thread c =
    let word : c.args.first.now ≡ codes "thread" = search (rules, text_from_reads) in
    rw word refl

pub returns-in-commit : goal.returns-in-commit
returns-in-commit c =
    let word : c.args.first.now ≡ codes "commit" = search (rules, text_from_reads) in
    rw word refl
