use Rattle.std.proofs.Common.{◌≡◌, ◌++◌, ◌∙◌, ap, subst}
use Rattle.std.specs.Prelude.{codes, OnOk}
use Rattle.gl_explain.specs.Phrases.{racing_text}
use Rattle.gl_names.specs.Names.{name_of}
use Rattle.gl_picture.specs.Shapes.{words_text}
use Rattle.gl_picture.specs.Texts.{titles_text}
use Rattle.gl_picture.proofs.Joining.{two}
use Rattle.gl_picture.proofs.text.push_titles.Goals as goal

pub returns : goal.returns
unfolding titles_text
returns c =
    let e = c.args.e.now in
    let names = name_of c.args.names.now in
    let one : c.as_bytes.result.now ≡ racing_text names e.var e.at = c.as_bytes.ensures.value ∙ c.in_ok-race.ensures in
    let other : c.as_bytes-2.result.now ≡ codes "races with " ++ racing_text names e.var e.other = c.as_bytes-2.ensures.value ∙
    c.in_ok-other.ensures in
    let first = words_text (codes "class='said'") (record { x = 10; y = 22 }) in
    let second = words_text (codes "class='said'") (record { x = 10; y = 40 }) in
    two c.push_words-2.result c.args.out.now.items c.push_words.new.out.items c.push_words-2.new.out.items (first
    (racing_text names e.var e.at))
    (second (codes "races with " ++ racing_text names e.var e.other))
    (c.in_ok-push_words.ensures ∙ ap (λ t. c.args.out.now.items ++ first t) one)
    (subst (λ t. OnOk c.push_words-2.result (c.push_words-2.new.out.items ≡ c.push_words.new.out.items ++ second t)) other
    c.push_words-2.ensures)
