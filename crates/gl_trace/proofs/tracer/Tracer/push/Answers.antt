use Rattle.std.proofs.Common.{◌≡◌, ◌∙◌, ap, rules}
use Rattle.gl_model.specs.Entries.{seen}
use Rattle.gl_model.specs.Lists.{lists_of, with_last}
use Rattle.gl_trace.proofs.TracerLemmas.{entry_kept, one_entry}
use Rattle.gl_trace.proofs.tracer.Tracer.push.Goals as goal

pub returns-clause-lists : goal.returns-clause-lists
returns-clause-lists c =
    let ok : c.push.new.self ≡ with_last c.args.thread (seen c.args.entry) c.args.self.now.history = search rules in
    λ u. ap (λ l. lists_of l u) ok ∙ one_entry c.args.thread (seen c.args.entry) c.args.self.now.history c.keeps.ensures.0 u

pub returns-clause-kept : goal.returns-clause-kept
returns-clause-kept c = λ t.
    let ok : c.push.new.self ≡ with_last c.args.thread (seen c.args.entry) c.args.self.now.history = search rules in
    let more = entry_kept (lists_of c.args.self.now.history) c.args.thread (seen c.args.entry) t in
    (more.0, ap (λ l. lists_of l t) ok ∙ one_entry c.args.thread (seen c.args.entry) c.args.self.now.history c.keeps.ensures.0 t ∙ more.1)
