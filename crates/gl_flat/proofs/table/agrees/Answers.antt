use Rattle.std.proofs.Common.{subst, MatchBool}
use Rattle.gl_model.specs.Entries.{Commit}
use Rattle.gl_flat.specs.Walk.{AgreesWith, DiffersFrom, word_in}
use Rattle.gl_flat.proofs.Tables.{commit_agrees}
use Rattle.gl_flat.proofs.table.agrees.Goals as goal

pub returns-in-Commit : goal.returns-in-Commit
returns-in-Commit c =
    let words = word_in c.args.words.now in
    let at = c.in-Commit.at in
    let b = c.looks_agree.result in
    rw c.in-Commit.is (subst (λ tx. MatchBool b (AgreesWith words (Commit at tx)) (DiffersFrom words (Commit at tx))) c.deref.ensures
    (commit_agrees words at c.deref.result.now b c.looks_agree.ensures))
