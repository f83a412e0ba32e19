use Rattle.std.proofs.Common.{sym, ◌∙◌, rules, FitsSigned, w64, None, Some}
use Rattle.std.proofs.lemmas.Int.{to_z-of_z}
use Rattle.gl_follow.proofs.WordLemmas.{looked_known, written_known}
use Rattle.gl_follow.proofs.words.Words.known.Goals as goal

pub returns-in-Some : goal.returns-in-Some
returns-in-Some c =
    let fits : FitsSigned w64 c.in-Some.write.value = search rules in
    simp to_z-of_z (written_known c.args.self.now c.self.inside.looks c.self.inside.writes c.args.var c.in-Some.write c.self.view_is
    (sym c.of.ensures ∙ c.in-Some.is))

pub returns-in-Some-of : goal.returns-in-Some-of
returns-in-Some-of c =
    let fits : FitsSigned w64 c.in-Some-of.look.value = search rules in
    simp to_z-of_z
    (looked_known c.args.self.now c.self.inside.looks c.self.inside.writes c.args.var (Some c.in-Some-of.look) c.self.view_is
    (sym c.of.ensures ∙ c.in-None.is)
    (sym c.of-in-None.ensures ∙ c.in-Some-of.is))

pub returns-in-None-of : goal.returns-in-None-of
returns-in-None-of c =
    looked_known c.args.self.now c.self.inside.looks c.self.inside.writes c.args.var None c.self.view_is (sym c.of.ensures ∙ c.in-None.is)
    (sym c.of-in-None.ensures ∙ c.in-None-of.is)
