use Rattle.std.proofs.Common.{◌≡◌, ◌+◌, ◌<◌, get_or, subst, sym, arith, ◌∙◌}
use Rattle.std.specs.Prelude.{slice_index}
use Rattle.std.proofs.lemmas.List.Elements.{Contains-get_or}
use Rattle.gl_model.specs.declared.limits.TheConstants.{MONITORS}
use Rattle.gl_table.proofs.LeastEntered.{AreLeastBelow}
use Rattle.gl_table.proofs.LeastChanged.{candidates_begin, candidate_taken, candidate_skipped, candidates_end}
use Rattle.gl_table.proofs.levels.least_among.Goals as goal
use Rattle.gl_table.proofs.levels.least_among.Goals.{then-counts-monitor-gt0, else-counts-monitor-gt0}

pub bounds-counts-monitor : goal.bounds-counts-monitor
bounds-counts-monitor c =
    let ids = c.args.monitors.now in
    let near = c.requires.all.near (slice_index ids c.loop-monitor.monitor-index)
    (Contains-get_or ids c.loop-monitor.monitor-index 0 c.loop-monitor-test.true) in
    let long = c.requires.long in
    omega arith

pub loop-monitor-init : goal.loop-monitor-init
loop-monitor-init c =
    subst (AreLeastBelow c.args.counts.now (get_or c.args.monitors.now 0 MONITORS)) (sym c.empty-held.ensures)
    (candidates_begin c.args.counts.now c.args.monitors.now c.requires.all)

pub loop-monitor-preserved : goal.loop-monitor-preserved
loop-monitor-preserved c =
    let counts = c.args.counts.now in
    let ids = c.args.monitors.now in
    let i = c.loop-monitor.monitor-index in
    let here = c.loop-monitor-test.true in
    elim c.if-counts-monitor-gt0.branch [
      | then-counts-monitor-gt0 w ↦
          (let t = w.if-counts-monitor-gt0.true in
          let some : 0 < slice_index counts (slice_index ids i) = omega arith in
          subst (AreLeastBelow counts (get_or ids (i + 1) MONITORS)) (sym (w.held-is ∙ w.add.ensures))
          (candidate_taken counts ids i c.loop-monitor.held c.requires.all here some c.loop-monitor.invariant))
      | else-counts-monitor-gt0 w ↦
          (let t = w.if-counts-monitor-gt0.false in
          let none : slice_index counts (slice_index ids i) ≡ 0 = omega arith in
          subst (AreLeastBelow counts (get_or ids (i + 1) MONITORS)) (sym w.held-is)
          (candidate_skipped counts ids i c.loop-monitor.held c.requires.all here none c.loop-monitor.invariant))
    ]

pub returns : goal.returns
returns c =
    candidates_end c.args.counts.now c.args.monitors.now c.loop-monitor.monitor-index c.loop-monitor.held c.requires.long
    c.loop-monitor-test.false c.loop-monitor.invariant
