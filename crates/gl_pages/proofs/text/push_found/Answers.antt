use Rattle.std.proofs.Common.{ap, sym}
use Rattle.std.specs.Prelude.{codes}
use Rattle.gl_names.specs.Names.{name_of}
use Rattle.gl_explain.proofs.Joining.{joined}
use Rattle.gl_pages.specs.Texts.{found_text, handing_text}
use Rattle.gl_pages.proofs.text.push_found.Goals as goal

pub returns-in_ok-push-in-Some : goal.returns-in_ok-push-in-Some
returns-in_ok-push-in-Some c =
    let names = name_of c.args.names.now in
    joined c.push_handing.result c.args.out.now.items c.push-in-Some.new.out.items c.push_handing.new.out.items
    (codes " is first handed on ") (handing_text names c.in-Some.found)
    (found_text names c.args.handed.now) c.in_ok-push-in-Some.ensures c.push_handing.ensures (ap (found_text names) (sym c.in-Some.is))
