use Rattle.std.proofs.Common.{◌∙◌, length, unwrap_or, ap}
use Rattle.gl_text.specs.Text.{is_blank}
use Rattle.gl_text.proofs.TextLemmas.{place_or_len}
use Rattle.gl_text.proofs.parts.word_size.Goals as goal

pub returns : goal.returns
returns c = c.unwrap_or.ensures ∙ ap (λ o. unwrap_or o (length c.args.text.now)) c.word_end.ensures ∙ place_or_len is_blank c.args.text.now
