use Rattle.std.proofs.Common.{◌∙◌, not, ap, sym}
use Rattle.std.specs.List.{position}
use Rattle.std.proofs.lemmas.List.{take_rest}
use Rattle.gl_text.specs.Text.{is_blank}
use Rattle.gl_text.proofs.WideLemmas.{found_behind, none_behind}
use Rattle.gl_text.proofs.wide.word_at.Goals as goal

pub returns-in-Some : goal.returns-in-Some
returns-in-Some c =
    let text = c.args.text.now in
    let front = c.blank_front-from in
    found_behind (λ b. not (is_blank b)) front.result c.in-Some.more text front.ensures.within front.ensures.none
    (ap (position (λ b. not (is_blank b))) (sym (take_rest text front.result)) ∙ sym c.in-Some.ensures)

pub returns-in-None : goal.returns-in-None
returns-in-None c =
    let text = c.args.text.now in
    let front = c.blank_front-from in
    none_behind (λ b. not (is_blank b)) front.result text front.ensures.within front.ensures.none
    (ap (position (λ b. not (is_blank b))) (sym (take_rest text front.result)) ∙ sym c.in-None.ensures)
