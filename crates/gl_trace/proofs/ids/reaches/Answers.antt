use Rattle.gl_trace.proofs.IdsLemmas.{last_reaches}
use Rattle.gl_trace.proofs.ids.reaches.Goals as goal

pub returns-then-len-gt0 : goal.returns-then-len-gt0
returns-then-len-gt0 c = last_reaches c.args.ids.now c.args.id c.requires c.if-len-gt0.true
