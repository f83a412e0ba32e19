use Rattle.std.proofs.Common.{sym, subst, ap, ◌∙◌}
use Rattle.gl_table.specs.Doneness.{is_done}
use Rattle.gl_rule.specs.Closed.{IsDone}
use Rattle.gl_table.specs.PassView.{PassView}
use Rattle.gl_table.proofs.Doneness.{done_is}
use Rattle.gl_table.proofs.pass.Pass.is_done.Goals as goal

pub returns-clause-done : goal.returns-clause-done
returns-clause-done c = λ yes.
    let q = c.self.invariant.pass.quiets in
    let mine = c.self.inside.mine.entries in
    let here = done_is mine c.self.inside.quiet (sym (c.ends.ensures ∙ ap (λ l. is_done l c.self.inside.quiet) c.entries.ensures) ∙ yes) in
    subst (λ (p : PassView). IsDone p.own.mine p.quiet) c.self.view_is (subst (λ b. IsDone mine b) q here)
