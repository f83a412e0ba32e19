use Rattle.std.proofs.Common.{rules}
use Rattle.gl_shortcut.proofs.cuts.says_late.Goals as goal

pub returns-in-Some-Late-clause-asked : goal.returns-in-Some-Late-clause-asked
returns-in-Some-Late-clause-asked g c = λ t. (c.in-Some-Late.cut, search rules, rw t at c.says.ensures.is)
