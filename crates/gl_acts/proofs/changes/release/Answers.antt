use Rattle.gl_acts.proofs.Applied.{released}
use Rattle.gl_acts.proofs.changes.release.Goals as goal

pub returns : goal.returns
returns c setting =
    released setting c.args.by.thread c.args.by.value c.args.state.now c.requires.runs c.args.monitor c.leave.new.self c.leave.ensures
