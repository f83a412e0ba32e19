use Rattle.std.proofs.Common.{sym, subst}
use Rattle.gl_core.specs.declared.detector.Detector.{Detector}
use Rattle.gl_core.specs.Follows.{IsReady}
use Rattle.gl_core.proofs.tests.all_said.Goals.{then-is_line+in_ok-step+in_ok-push, else-is_line}
use Rattle.gl_core.proofs.tests.all_said.Goals as goal

pub loop-thread-preserved : goal.loop-thread-preserved
loop-thread-preserved c = elim c.if-is_line.branch [
  | then-is_line+in_ok-step+in_ok-push w ↦ subst (λ (d : Detector). IsReady d) (sym w.judge-is) w.step.ensures.ready
  | else-is_line w ↦ subst (λ (d : Detector). IsReady d) (sym w.judge-is) c.loop-thread.invariant
]
