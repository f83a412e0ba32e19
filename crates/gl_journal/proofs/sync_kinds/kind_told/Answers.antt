use Rattle.std.proofs.Common.{◌≡◌, codes, rules, refl}
use Rattle.std.proofs.lemmas.Slice.Eq.{text_from_reads}
use Rattle.gl_journal.proofs.sync_kinds.kind_told.Goals as goal

pub returns-in-vwrite : goal.returns-in-vwrite
returns-in-vwrite c =
    let word : c.args.word.now ≡ codes "vwrite" = search (rules, text_from_reads) in
    rw word refl
