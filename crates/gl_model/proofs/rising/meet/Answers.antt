use Rattle.gl_model.proofs.RisingLists.{meet_more, meet_none, meet_here}
use Rattle.gl_model.proofs.rising.meet.Goals as goal

pub loop-x-preserved : goal.loop-x-preserved
loop-x-preserved c = meet_more c.args.ids.now c.args.others.now c.loop-x.x-index c.loop-x-test.true c.loop-x.invariant
    (λ has. let yes = c.is_among.ensures.1 has in let no = c.if-is_among.false in cc)

pub returns-then-is_among : goal.returns-then-is_among
returns-then-is_among c = meet_here c.args.ids.now c.args.others.now c.loop-x.x-index c.loop-x-test.true
    (c.is_among.ensures.0 c.if-is_among.true)

pub returns : goal.returns
returns c = meet_none c.args.ids.now c.args.others.now c.loop-x.x-index c.loop-x-test.false c.loop-x.invariant
