use Rattle.std.proofs.Common.{sym, ap, ◌∙◌, rules, FitsSigned, w64}
use Rattle.std.specs.Option.{option_map}
use Rattle.std.proofs.lemmas.Int.{to_z-of_z}
use Rattle.gl_model.specs.declared.tx.Look.{Look}
use Rattle.gl_follow.proofs.WordLemmas.{word_looks}
use Rattle.gl_follow.proofs.answers.looked_at.Goals as goal

pub returns-in-Some : goal.returns-in-Some
returns-in-Some c =
    let fits : FitsSigned w64 c.in-Some.look.value = search rules in
    simp to_z-of_z (sym (word_looks c.args.tx.now.looks c.args.var
    ∙ ap (option_map (λ (l : Look). l.value)) (sym c.of.ensures ∙ c.in-Some.is)))

pub returns-in-None : goal.returns-in-None
returns-in-None c = sym (word_looks c.args.tx.now.looks c.args.var
    ∙ ap (option_map (λ (l : Look). l.value)) (sym c.of.ensures ∙ c.in-None.is))
