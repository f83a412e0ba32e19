use Rattle.gl_acts.proofs.Applied.{acquired}
use Rattle.gl_acts.proofs.changes.acquire.Goals as goal

pub returns : goal.returns
returns c setting =
    acquired setting c.args.by.thread c.args.by.value c.args.state.now c.requires.runs c.args.monitor c.enter.new.self c.enter.ensures
