use Rattle.std.proofs.Common.{◌≡◌, ◌∙◌, ◌∷◌, length, unwrap_or, drop, take, ap, sym}
use Rattle.std.specs.List.{position_or_len, before_first}
use Rattle.gl_text.specs.Text.{is_blank, parts}
use Rattle.gl_text.proofs.TextLemmas.{parts_first, place_or_len}
use Rattle.gl_text.proofs.parts.split_word.Goals as goal

pub returns : goal.returns
returns c =
    let text = c.args.text.now in
    let end : c.unwrap_or.result ≡ position_or_len is_blank text =
    c.unwrap_or.ensures ∙ ap (λ o. unwrap_or o (length text)) c.word_end.ensures ∙ place_or_len is_blank text in
    let word : c.split_at.result.0.now ≡ before_first is_blank text = c.split_at.ensures.front ∙ ap (λ k. take k text) end in
    let rest : c.split_at.result.1.now ≡ drop (position_or_len is_blank text) text = c.split_at.ensures.back ∙ ap (λ k. drop k text) end in
    parts_first text c.requires.some c.requires.there
    ∙ ap (λ w. w ∷ parts (drop (position_or_len is_blank text) text)) (sym word)
    ∙ ap (λ l. c.split_at.result.0.now ∷ parts l) (sym rest)
