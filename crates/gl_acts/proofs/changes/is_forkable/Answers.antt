use Rattle.gl_acts.proofs.Applied.{forkable}
use Rattle.gl_acts.proofs.changes.is_forkable.Goals as goal

pub returns : goal.returns
returns c = forkable c.args.program.now c.args.func c.args-2.result c.args-2.ensures
