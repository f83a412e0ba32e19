use Rattle.std.proofs.Common.{◌≡◌, ◌+◌, ◌<◌, subst, sym, arith, ◌∙◌}
use Rattle.std.specs.Prelude.{slice_index}
use Rattle.gl_table.proofs.LeastEntered.{AreLeastBelow, least_none, least_skipped, least_taken, least_all}
use Rattle.gl_table.proofs.levels.least.Goals as goal
use Rattle.gl_table.proofs.levels.least.Goals.{then-count-gt0, else-count-gt0}

pub loop-monitor-init : goal.loop-monitor-init
loop-monitor-init c = subst (AreLeastBelow c.args.counts.now 0) (sym c.empty-held.ensures) (least_none c.args.counts.now)

pub loop-monitor-preserved : goal.loop-monitor-preserved
loop-monitor-preserved c =
    let counts = c.args.counts.now in
    let k = c.loop-monitor.monitor in
    elim c.if-count-gt0.branch [
      | then-count-gt0 w ↦
          (let t = w.if-count-gt0.true in
          let some : 0 < slice_index counts k = omega arith in
          subst (AreLeastBelow counts (k + 1)) (sym (w.held-is ∙ w.add.ensures))
          (least_taken counts k c.loop-monitor.held some c.loop-monitor.invariant))
      | else-count-gt0 w ↦
          (let t = w.if-count-gt0.false in
          let none : slice_index counts k ≡ 0 = omega arith in
          subst (AreLeastBelow counts (k + 1)) (sym w.held-is) (least_skipped counts k c.loop-monitor.held none c.loop-monitor.invariant))
    ]

pub returns : goal.returns
returns c = least_all c.args.counts.now c.loop-monitor.monitor c.loop-monitor.held c.loop-monitor-test.false c.loop-monitor.invariant
