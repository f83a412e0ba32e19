use Rattle.gl_reference.proofs.Truths.{eq_test, either}
use Rattle.gl_reference.proofs.reach.leads.Goals as goal

pub returns : goal.returns
returns c = either _ _ _ _ (eq_test c.args.s.now.thread c.args.r.now.thread) c.synchronizes-edge.ensures
