use Rattle.std.proofs.Common.{◌∙◌}
use Rattle.gl_core.proofs.NotedAll.{noted_on}
use Rattle.gl_core.proofs.commits.note_each.Goals as goal

pub loop-var-preserved : goal.loop-var-preserved
loop-var-preserved c = record {
  noted = λ y. noted_on c.ids-var-items.result.now c.loop-var.var-index c.args.epoch.now c.loop-var.latests.items
      c.note_one.new.latests.items c.loop-var-test.true c.args.write c.note_one.ensures.noted y
      ∙ c.loop-var.invariant.noted y;
  room = c.note_one.ensures.room;
}
