use Rattle.std.specs.Prelude.{codes}
use Rattle.gl_picture.specs.Shapes.{bent_text, pair_text}
use Rattle.gl_picture.proofs.Joining.{five}
use Rattle.gl_picture.proofs.bends.push_bent.Goals as goal

pub returns : goal.returns
unfolding bent_text
returns c = five c.push.result c.args.out.now.items c.push_pair.new.out.items c.push_pair-2.new.out.items c.push_pair-3.new.out.items
    c.push_pair-4.new.out.items c.push.new.out.items (pair_text (codes "<polyline class='arrow' points='") (codes ",") c.args.a)
    (pair_text (codes " ") (codes ",") c.args.b) (pair_text (codes " ") (codes ",") c.args.c) (pair_text (codes " ") (codes ",") c.args.d)
    (codes "'/>\n") c.in_ok-push_pair.ensures c.in_ok-push_pair-2.ensures c.in_ok-push_pair-3.ensures c.in_ok-push_pair-4.ensures
    c.push.ensures
