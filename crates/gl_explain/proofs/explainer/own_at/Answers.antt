use Rattle.std.proofs.Common.{◌∙◌}
use Rattle.gl_explain.proofs.Marking.{own_mark}
use Rattle.gl_explain.proofs.explainer.own_at.Goals as goal

pub returns : goal.returns
returns c = λ lines l follows sound mine. own_mark lines l c.args.thread c.tick_of.result sound mine (c.tick_of.ensures
    ∙ c.known.ensures lines follows c.args.thread)
