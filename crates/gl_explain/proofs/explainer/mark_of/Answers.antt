use Rattle.std.proofs.Common.{◌∙◌}
use Rattle.gl_explain.proofs.Marking.{mark_commit}
use Rattle.gl_explain.proofs.explainer.mark_of.Goals as goal

pub returns-in-Commit : goal.returns-in-Commit
returns-in-Commit c = λ lines own follows performed.
    mark_commit lines c.args.told.now.thread c.args.told.now.item c.args.told.now.judged c.in-Commit.reads c.in-Commit.writes
    c.tick_of.result c.saturating_sub.result c.in-Commit.is performed
    (c.tick_of.ensures ∙ c.known.ensures _ follows c.args.told.now.thread) c.saturating_sub.ensures
