use Rattle.std.proofs.Common.{ap, ◌∙◌, ◌++◌}
use Rattle.gl_model.specs.Lists.{lists_of}
use Rattle.gl_trace.proofs.tracer.Tracer.commit.Goals as goal

pub returns-in-Raised-clause-kept : goal.returns-in-Raised-clause-kept
returns-in-Raised-clause-kept c = λ t. let more = c.push.ensures.kept t
    in (more.0, more.1 ∙ ap (λ h. lists_of h t ++ more.0) c.draw.ensures.history)

pub returns-in-Performed-clause-kept : goal.returns-in-Performed-clause-kept
returns-in-Performed-clause-kept c = λ t. let more = c.publish.ensures.kept t
    in (more.0, more.1 ∙ ap (λ h. lists_of h t ++ more.0) c.draw.ensures.history)
