use Rattle.gl_reference.proofs.Truths.{eq_test, lt_test, either, both}
use Rattle.gl_reference.proofs.reach.starts.Goals as goal

pub returns : goal.returns
returns c = both _ _ _ _ (lt_test c.args.access.now.block c.args.q)
    (either _ _ _ _ (eq_test c.args.s.now.thread c.args.access.now.thread) c.is_commit_edge-commit.ensures)
