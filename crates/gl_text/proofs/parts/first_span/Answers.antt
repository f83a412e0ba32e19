use Rattle.std.proofs.Common.{sym}
use Rattle.std.proofs.lemmas.List.{take_rest}
use Rattle.gl_text.proofs.SpanLemmas.{no_span, some_span, span_within}
use Rattle.gl_text.proofs.parts.first_span.Goals as goal

pub returns-in-Some-clause-within : goal.returns-in-Some-clause-within
returns-in-Some-clause-within c =
    span_within c.args.text.now _ c.in-Some.start c.word_size.result (sym c.in-Some.ensures) (take_rest c.args.text.now c.in-Some.start)
    c.word_size.ensures

pub returns-in-Some-clause-value : goal.returns-in-Some-clause-value
returns-in-Some-clause-value c = λ at.
    some_span at c.args.text.now _ c.in-Some.start c.word_size.result (sym c.in-Some.ensures) (take_rest c.args.text.now c.in-Some.start)
    c.word_size.ensures

pub returns-in-None-clause-value : goal.returns-in-None-clause-value
returns-in-None-clause-value c = λ at. no_span at c.args.text.now (sym c.in-None.ensures)
