use Rattle.gl_model.specs.Lockset.{Has}
use Rattle.gl_laws.proofs.Walks.{walk_more}
use Rattle.gl_judge.proofs.window.walk.Goals as goal

pub loop-stamp-preserved : goal.loop-stamp-preserved
loop-stamp-preserved c = walk_more (Has c.args.info.now.set) (Has c.loop-stamp.set) (Has c.step.new.self) c.args.window.now
    c.loop-stamp.stamp-index c.stamp-item.result c.loop-stamp-test.true c.stamp-item.is c.loop-stamp.invariant c.step.ensures
