use Rattle.gl_events.specs.declared.call.Call.TheVariants as call
use Rattle.gl_events.proofs.GoingOn.{stays}
use Rattle.gl_events.proofs.tests.cannot_enter.Goals as goal

pub returns-in-Err-clause-may : goal.returns-in-Err-clause-may
returns-in-Err-clause-may c = stays call.End c.args.shared.now c.args.pass.now c.enter.new.pass c.requires.may c.in-Err.ensures.kept
    c.in-Err.ensures.stop.2
