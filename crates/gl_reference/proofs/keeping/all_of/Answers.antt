use Rattle.gl_reference.proofs.Unions.{put_more}
use Rattle.gl_reference.proofs.keeping.all_of.Goals as goal

pub loop-var-preserved : goal.loop-var-preserved
loop-var-preserved c = λ room. put_more c.ids-var-items.result.now c.args.writes.now c.args.reads.now c.loop-var.all c.insert_one.new.all
    c.loop-var.var-index c.loop-var-test.true c.insert_one.ensures room (c.loop-var.invariant room)
