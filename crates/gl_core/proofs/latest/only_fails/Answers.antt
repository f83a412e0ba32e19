use Rattle.std.proofs.Common.{◌∙◌}
use Rattle.gl_core.specs.Cells.{at}
use Rattle.gl_core.proofs.Marking.{only_mark}
use Rattle.gl_core.proofs.latest.only_fails.Goals as goal

pub returns : goal.returns
returns c = c.mark_fails.ensures ∙ only_mark (at c.args.known.now) c.args.marks.now c.args.reader c.requires.alone
