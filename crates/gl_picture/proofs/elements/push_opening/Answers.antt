use Rattle.std.specs.Prelude.{codes}
use Rattle.gl_picture.specs.Shapes.{opening_text, pair_text, style_text}
use Rattle.gl_picture.proofs.Joining.{three}
use Rattle.gl_picture.proofs.elements.push_opening.Goals as goal

pub returns : goal.returns
unfolding opening_text
returns c = three c.push-2.result c.args.out.now.items c.push_pair.new.out.items c.push.new.out.items c.push-2.new.out.items
    (pair_text (codes "<svg xmlns='http://www.w3.org/2000/svg' width='") (codes "' height='") c.args.size) (codes "'>\n") style_text
    c.in_ok-push_pair.ensures c.in_ok-push.ensures c.push-2.ensures
