use Rattle.std.proofs.Common.{length, refl}
use Rattle.std.proofs.lemmas.Option.{slice_get_read}
use Rattle.gl_reference.specs.Races.{RacesWith}
use Rattle.gl_reference.proofs.Marks.{none_of_more, none_of_all}
use Rattle.gl_reference.proofs.races.is_racy.Goals as goal

pub loop-earlier-preserved : goal.loop-earlier-preserved
loop-earlier-preserved c = none_of_more c.args.performed.now (RacesWith c.args.events.now c.args.next.now) c.loop-earlier.earlier-index
    c.earlier-item.result (slice_get_read c.args.performed.now (length c.args.performed.now) c.loop-earlier.earlier-index
    c.earlier-item.result refl c.loop-earlier-test.true c.earlier-item.is) (λ w. let yes = c.in_ok-races_with.ensures.1 w
    in let no = c.if-branch.false in cc) c.loop-earlier.invariant

pub returns : goal.returns
returns c = none_of_all c.args.performed.now (RacesWith c.args.events.now c.args.next.now) c.loop-earlier.earlier-index
    c.loop-earlier-test.false c.loop-earlier.invariant
