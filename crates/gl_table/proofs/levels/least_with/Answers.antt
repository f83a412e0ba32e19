use Rattle.std.proofs.Common.{length, subst, sym, ap, arith}
use Rattle.gl_rule.specs.Levels.{AreLeastEntered}
use Rattle.gl_table.proofs.LeastChanged.{least_entered}
use Rattle.gl_table.proofs.levels.least_with.Goals as goal

pub returns-then-monitors-lt-KEPT : goal.returns-then-monitors-lt-KEPT
returns-then-monitors-lt-KEPT c =
    let n = c.if-monitors-lt-KEPT.true in
    let same = ap length c.monitors.ensures in
    subst (AreLeastEntered c.args.counts.now) (sym c.add.ensures)
    (least_entered c.args.before.now c.args.counts.now c.args.monitor c.requires.entered (omega arith))
