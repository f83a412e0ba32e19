use Rattle.std.proofs.Common.{◌∙◌}
use Rattle.gl_txn.proofs.Numberings.{part_last}
use Rattle.gl_txn.proofs.dropping.add.Goals as goal

pub returns : goal.returns
returns c = c.in-Ok.ensures.ok ∙ part_last (record { var = c.args.var; nth = c.args.nth }) c.args.numbers.now c.requires.last
