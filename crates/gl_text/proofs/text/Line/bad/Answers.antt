use Rattle.std.proofs.Common.{◌∙◌, not, ap, sym}
use Rattle.gl_text.specs.Text.{is_bad}
use Rattle.gl_text.proofs.text.Line.bad.Goals as goal

pub returns-else-not-self : goal.returns-else-not-self
returns-else-not-self c =
    ap not c.if-not-self.false
    ∙ sym (c.self.invariant.0 c.if-not-self.false)
    ∙ ap (λ l. is_bad l.text) c.self.view_is
