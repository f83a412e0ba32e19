use Rattle.std.specs.Prelude.{codes}
use Rattle.gl_picture.specs.Shapes.{words_text}
use Rattle.gl_picture.specs.Texts.{closing_text}
use Rattle.gl_picture.proofs.Joining.{two}
use Rattle.gl_picture.proofs.text.push_closing.Goals as goal

pub returns : goal.returns
unfolding closing_text
returns c = two c.push.result c.args.out.now.items c.push_words.new.out.items c.push.new.out.items
    (words_text (codes "class='note'") (record { x = 10; y = c.args.y }) (codes "only this observed order of steps was judged"))
    (codes "</svg>\n")
    c.in_ok-push_words.ensures c.push.ensures
