use Rattle.std.proofs.Common.{◌∙◌, ◌/◌, not, length, unwrap_or, ap}
use Rattle.gl_text.specs.Text.{is_blank}
use Rattle.gl_text.proofs.WideLemmas.{chunks_before}
use Rattle.gl_text.proofs.wide.blank_front.Goals as goal

pub returns-clause-none : goal.returns-clause-none
returns-clause-none c =
    let chunks = c.as_chunks.result.0.now in
    (chunks_before (λ b. not (is_blank b)) (length c.args.text.now / 8) c.unwrap_or.result c.args.text.now chunks c.as_chunks.ensures.front
    c.as_chunks.ensures.front_len (c.unwrap_or.ensures ∙ ap (λ o. unwrap_or o (length chunks)) c.word_chunk.ensures)).1
