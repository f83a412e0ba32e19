use Rattle.gl_core.proofs.Marking.{and_both, and_true}
use Rattle.gl_raised.proofs.Walked.{handed_more, handed_kept, table_raised}
use Rattle.gl_raised.proofs.learn.hand_on.Goals as goal

pub returns-then-access-clause-learned : goal.returns-then-access-clause-learned
returns-then-access-clause-learned c us i here know =
    let a = c.args.access.now in
    let b = and_both a.commit a.performed c.if-access.true in
    handed_more c.args.rows.now us i a here c.args.learned.now.items c.raise.new.table.items b.0 b.1
    (table_raised c.args.learned.now.items c.raise.new.table.items a.var _ c.raise.ensures.joined c.handed_on.ensures) know

pub returns-else-access-clause-learned : goal.returns-else-access-clause-learned
returns-else-access-clause-learned c us i here know =
    let a = c.args.access.now in
    handed_kept c.args.rows.now us i a here c.args.learned.now.items (λ p q. let z = and_true a.commit a.performed p q
    in let y = c.if-access.false in cc) know
