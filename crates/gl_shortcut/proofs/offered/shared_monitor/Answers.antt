use Rattle.gl_shortcut.proofs.Sharing.{shared_orders}
use Rattle.gl_shortcut.proofs.offered.shared_monitor.Goals as goal

pub returns-clause-order : goal.returns-clause-order
returns-clause-order c = λ t. let k = c.shares.ensures.0 t
    in λ setting h a write stands next. shared_orders setting h c.args.info.now a write c.args.q.now stands next k.0 k.1 k.2
