use Rattle.std.proofs.Common.{length, subst, sym, ap, arith}
use Rattle.gl_table.specs.LevelsInside.{AreCandidates}
use Rattle.gl_table.proofs.LeastChanged.{candidates}
use Rattle.gl_table.proofs.levels.least_without.Goals as goal

pub least_among-requires-clause-all : goal.least_among-requires-clause-all
least_among-requires-clause-all c =
    let n = c.if-monitors-lt-KEPT.true in
    let same = ap length c.monitors-monitors.ensures in
    subst (AreCandidates c.args.counts.now) (sym c.monitors-monitors.ensures)
    (candidates c.args.before.now c.args.counts.now c.requires.left (omega arith))
