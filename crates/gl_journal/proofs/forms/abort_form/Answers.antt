use Rattle.std.proofs.Common.{◌≡◌, codes, rules, refl}
use Rattle.std.proofs.lemmas.Slice.Eq.{text_from_reads}
use Rattle.gl_journal.proofs.forms.abort_form.Goals as goal

pub returns-in-raised : goal.returns-in-raised
returns-in-raised c =
    let word : c.args.word.now ≡ codes "raised" = search (rules, text_from_reads) in
    rw word refl

pub returns-in-changed : goal.returns-in-changed
returns-in-changed c =
    let word : c.args.word.now ≡ codes "changed" = search (rules, text_from_reads) in
    rw word refl
