use Rattle.gl_text.proofs.SpanLemmas.{are_slices, rise}
use Rattle.gl_text.proofs.parts.words_are_slices.Goals as goal

pub returns-clause-slices : goal.returns-clause-slices
returns-clause-slices c = are_slices

pub returns-clause-rise : goal.returns-clause-rise
returns-clause-rise c = rise
