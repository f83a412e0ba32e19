use Rattle.std.specs.Prelude.{codes}
use Rattle.gl_picture.specs.Shapes.{opening_text, words_text}
use Rattle.gl_picture.specs.Texts.{closing_text, quiet_text}
use Rattle.gl_picture.proofs.Joining.{three}
use Rattle.gl_picture.proofs.text.push_quiet.Goals as goal

pub returns : goal.returns
unfolding quiet_text
returns c = three c.push_closing.result c.args.out.now.items c.push_opening.new.out.items c.push_words.new.out.items
    c.push_closing.new.out.items
    (opening_text (record { x = 380; y = 60 })) (words_text (codes "class='note'") (record { x = 10; y = 22 }) (codes "races 0"))
    (closing_text 40)
    c.in_ok-push_opening.ensures c.in_ok-push_words.ensures c.push_closing.ensures
