use Rattle.std.proofs.Common.{pos, refl, arith}
use Rattle.gl_model.specs.declared.event.Act.TheVariants.{Acq}
use Rattle.gl_events.specs.declared.call.Call.TheVariants as call
use Rattle.gl_events.proofs.GoingOn.{goes_on, one_more}
use Rattle.gl_events.proofs.tests.entered.Goals as goal

pub returns-in-Ok-clause-may : goal.returns-in-Ok-clause-may
returns-in-Ok-clause-may c = goes_on call.End c.args.shared.now c.args.pass.now c.enter.new.pass
    c.in-Ok.done.at (Acq c.args.monitor) (pos 0) c.requires.may refl refl c.in-Ok.ensures.own
    (let e = c.in-Ok.ensures.done.spare in let h = c.requires.room in omega arith)
    (let h = c.requires.few in omega arith)

pub returns-in-Ok-clause-count : goal.returns-in-Ok-clause-count
returns-in-Ok-clause-count c =
    let e = one_more c.args.pass.now c.enter.new.pass c.in-Ok.done.at (Acq c.args.monitor) (pos 0) c.in-Ok.ensures.own in omega arith
