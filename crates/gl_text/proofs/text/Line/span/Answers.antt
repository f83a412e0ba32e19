use Rattle.std.proofs.Common.{slice_get}
use Rattle.std.proofs.lemmas.Iterator.Consumers.{nth_from_yields_List, YieldsList-from_first}
use Rattle.gl_text.specs.Spans.{spans_at}
use Rattle.gl_text.proofs.SpanLemmas.{same_option}
use Rattle.gl_text.proofs.text.Line.span.Goals as goal

pub returns : goal.returns
returns c =
    let all = spans_at c.args.self.now.start c.args.self.now.text in
    same_option c.nth.result (slice_get all c.args.i)
    (nth_from_yields_List c.nth.result c.nth.new.self c.args.i c.nth.ensures.ran
    (YieldsList-from_first (λ s. s) (λ s. s) all c.spans.ensures))
