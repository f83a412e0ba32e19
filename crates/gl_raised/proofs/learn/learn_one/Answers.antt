use Rattle.std.proofs.Common.{not}
use Rattle.gl_core.proofs.Marking.{and_both, and_true}
use Rattle.gl_raised.proofs.Walked.{learned_more, learned_kept, not_true, not_false}
use Rattle.gl_raised.proofs.learn.learn_one.Goals as goal

pub returns-then-access-clause-known : goal.returns-then-access-clause-known
returns-then-access-clause-known c rows us i first here knows know =
    let a = c.args.access.now in
    let b = and_both a.commit (not a.performed) c.if-access.true in
    learned_more rows us i a here first c.args.learned.now c.args.known.now.items c.raise.new.table.items b.0 (not_true a.performed b.1)
    knows c.raise.ensures.joined know

pub returns-else-access-clause-known : goal.returns-else-access-clause-known
returns-else-access-clause-known c rows us i first here knows know =
    let a = c.args.access.now in
    learned_kept rows us i a here first c.args.known.now.items
    (λ p q. let z = and_true a.commit (not a.performed) p (not_false a.performed q) in let y = c.if-access.false in cc) know
