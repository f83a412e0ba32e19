use Rattle.gl_rows.proofs.Swept.{tried_far, tried_by}
use Rattle.gl_rows.proofs.sweeping.try_row.Goals as goal

pub returns-then-to-hold-clause-tried : goal.returns-then-to-hold-clause-tried
returns-then-to-hold-clause-tried c = tried_far c.args.var c.args.to c.hold_of-hold.result c.args.pass.now c.hold_of-hold.new.pass
    c.hold_of-hold.ensures.pass c.if-to-hold.true

pub returns-clause-tried : goal.returns-clause-tried
returns-clause-tried c =
    let a = c.advance_row.ensures in
    tried_by c.args.var c.args.to c.hold_of-hold.result c.args.pass.now c.hold_of-hold.new.pass c.advance_row.new.pass c.advance_row.result
    c.hold_of-hold.ensures.pass a.hold a.busy (record { own = a.own; spare = a.spare; quiet = a.quiet; later = a.later })
