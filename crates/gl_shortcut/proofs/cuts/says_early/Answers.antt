use Rattle.std.proofs.Common.{rules}
use Rattle.gl_shortcut.proofs.cuts.says_early.Goals as goal

pub returns-in-Some-Early-clause-asked : goal.returns-in-Some-Early-clause-asked
returns-in-Some-Early-clause-asked g c = λ t. (c.in-Some-Early.cut, search rules, rw t at c.says.ensures.is)
