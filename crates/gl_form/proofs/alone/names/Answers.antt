use Rattle.gl_form.proofs.Parted.{named}
use Rattle.gl_form.proofs.alone.names.Goals as goal

pub returns-then-are_on : goal.returns-then-are_on
returns-then-are_on c = named c.args.tx.now c.args.vars.now c.if-are_on.ensures c.stand_after.result c.stand_after.ensures
