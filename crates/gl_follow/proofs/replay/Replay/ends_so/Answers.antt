use Rattle.std.proofs.Common.{◌≡◌, true, false, map, sym, ap, ◌∙◌, rules, is_none}
use Rattle.gl_bytecode.specs.Runs.{Progress, same_words}
use Rattle.gl_follow.specs.Words.{look_word}
use Rattle.gl_follow.proofs.WordLemmas.{ends_without}
use Rattle.gl_follow.proofs.replay.Replay.ends_so.Goals as goal

pub returns-in-Some : goal.returns-in-Some
returns-in-Some c =
    let yes : c.looked.result ≡ true = search rules in
    let dropped : c.args.keep ≡ false = search rules in
    let looked : same_words (map look_word c.args.tx.now.looks) c.args.self.now.looks ≡ true =
    ap (λ (p : Progress). same_words (map look_word c.args.tx.now.looks) p.looks) (sym c.self.view_is) ∙ sym c.looked.ensures ∙ yes in
    ends_without c.args.self.now c.args.tx.now c.args.keep false dropped looked (ap is_none (sym (sym c.at.ensures ∙ c.in-Some.is)))

pub returns-in-None : goal.returns-in-None
returns-in-None c =
    let yes : c.looked.result ≡ true = search rules in
    let dropped : c.args.keep ≡ false = search rules in
    let looked : same_words (map look_word c.args.tx.now.looks) c.args.self.now.looks ≡ true =
    ap (λ (p : Progress). same_words (map look_word c.args.tx.now.looks) p.looks) (sym c.self.view_is) ∙ sym c.looked.ensures ∙ yes in
    ends_without c.args.self.now c.args.tx.now c.args.keep true dropped looked (ap is_none (sym (sym c.at.ensures ∙ c.in-None.is)))
