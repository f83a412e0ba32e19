use Rattle.std.proofs.Common.{sym, ap, ◌∙◌, is_some}
use Rattle.gl_follow.proofs.WordLemmas.{is_looked, is_written}
use Rattle.gl_follow.proofs.words.Words.knows.Goals as goal

pub returns-in-Some : goal.returns-in-Some
returns-in-Some c = is_written c.args.self.now c.self.inside.looks c.self.inside.writes c.args.var c.in-Some.field-0 c.self.view_is
    (sym c.of.ensures ∙ c.in-Some.is)

pub returns-in-None : goal.returns-in-None
returns-in-None c =
    c.is_some.ensures ∙ ap is_some c.of-in-None.ensures
    ∙ is_looked c.args.self.now c.self.inside.looks c.self.inside.writes c.args.var c.self.view_is (sym c.of.ensures ∙ c.in-None.is)
