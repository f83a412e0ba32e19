use Rattle.std.proofs.Common.{ℕ, ◌+◌, List, sym, ◌∙◌, subst}
use Rattle.gl_compare.specs.Held.{hold_of}
use Rattle.gl_compare.proofs.Holding.{AreLeastBelow, next, not_next}
use Rattle.gl_compare.proofs.owned.held.Goals.{then-holds, else-holds}
use Rattle.gl_compare.proofs.owned.held.Goals as goal

pub loop-monitor-preserved : goal.loop-monitor-preserved
loop-monitor-preserved c =
    let holds = λ (m : ℕ). hold_of m c.args.events.now in
    let P = λ (h : List ℕ). AreLeastBelow holds c.args.thread (c.loop-monitor.monitor + 1) h in
    elim c.if-holds.branch [
      | then-holds w ↦ subst P (sym (w.held-is ∙ w.add.ensures)) (next holds c.args.thread c.loop-monitor.monitor c.loop-monitor.held
          c.loop-monitor.invariant (sym c.holds.ensures ∙ w.if-holds.true))
      | else-holds w ↦ subst P (sym w.held-is) (not_next holds c.args.thread c.loop-monitor.monitor c.loop-monitor.held
          c.loop-monitor.invariant (sym c.holds.ensures ∙ w.if-holds.false))
    ]
