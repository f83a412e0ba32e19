use Rattle.std.proofs.Common.{slice_get}
use Rattle.std.proofs.lemmas.Iterator.Consumers.{nth_from_yields_List, YieldsList-from_first}
use Rattle.gl_text.specs.Text.{words}
use Rattle.gl_text.proofs.SpanLemmas.{matched}
use Rattle.gl_text.proofs.text.Line.word.Goals as goal

pub returns : goal.returns
returns c =
    let all = words c.args.self.now.text in
    matched (λ w. w.now) c.nth.result (slice_get all c.args.i)
    (nth_from_yields_List c.nth.result c.nth.new.self c.args.i c.nth.ensures.ran
    (YieldsList-from_first (λ w. w.now) (λ s. s) all c.words.ensures))
