use Rattle.std.proofs.Common.{◌∙◌, ap, not, map}
use Rattle.gl_model.specs.Entries.{seen}
use Rattle.gl_model.specs.Trace.{is_empty}
use Rattle.gl_trace.proofs.TracerLemmas.{begun}
use Rattle.gl_trace.proofs.tracer.Tracer.has_begun.Goals as goal

pub returns : goal.returns
returns c = λ s h.
    c.is_some.ensures ∙ begun c.args.self.now.history c.args.thread c.thread.result (λ es. map seen es.now) c.keeps.ensures c.thread.ensures
    ∙ ap (λ l. not (is_empty l)) (h.lists c.args.thread)
