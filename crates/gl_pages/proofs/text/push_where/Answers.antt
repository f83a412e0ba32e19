use Rattle.std.proofs.Common.{ap, sym}
use Rattle.std.specs.Prelude.{codes}
use Rattle.gl_explain.proofs.Joining.{joined}
use Rattle.gl_pages.specs.Texts.{line_text, where_text}
use Rattle.gl_pages.proofs.text.push_where.Goals as goal

pub returns-in_ok-push-in-Some : goal.returns-in_ok-push-in-Some
returns-in_ok-push-in-Some c =
    joined c.push_line.result c.args.out.now.items c.push-in-Some.new.out.items c.push_line.new.out.items
    (codes "in ") (line_text c.in-Some.line)
    (where_text c.args.source.now) c.in_ok-push-in-Some.ensures c.push_line.ensures (ap where_text (sym c.in-Some.is))
