use Rattle.gl_picture.proofs.Leading.{meet_by}
use Rattle.gl_picture.proofs.arrows.meet.Goals as goal

pub returns-in-Some-Some : goal.returns-in-Some-Some
returns-in-Some-Some c = meet_by c.args.first c.args.second c.args.given.now c.args.taken.now c.in-Some-Some.given c.in-Some-Some.taken
    c.synchronizes.result c.in-Some-Some.is-0 c.in-Some-Some.is-1 c.synchronizes.ensures
