use Rattle.std.specs.Prelude.{◌↔◌}
use Rattle.std.proofs.Common.{subst, sym}
use Rattle.gl_model.specs.declared.lockset.Lockset.{Lockset}
use Rattle.gl_model.specs.Lockset.{Has}
use Rattle.gl_shortcut.specs.Asking.{is_of_two}
use Rattle.gl_shortcut.proofs.Filtered.{either_more}
use Rattle.gl_shortcut.proofs.offered.walk_two.Goals as goal

pub loop-stamp-preserved : goal.loop-stamp-preserved
loop-stamp-preserved c =
    either_more (is_of_two c.args.info.now.thread c.args.q.now.thread) (Has c.args.info.now.set) (Has c.loop-stamp.set) c.args.window.now
    c.loop-stamp.stamp-index c.stamp-item.result c.loop-stamp-test.true c.stamp-item.is c.loop-stamp.invariant (Has c.step_of_two.new.set)
    c.step_of_two.ensures.taken
    (λ out y. subst (λ (s : Lockset). Has s y ↔ Has c.loop-stamp.set y) (sym (c.step_of_two.ensures.passed out)) (λ k. k, λ k. k))
