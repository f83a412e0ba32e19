use Rattle.gl_sites.proofs.OneLine.{adds_it, one_line, some_line}
use Rattle.gl_sites.proofs.laws.each_instruction_has_one_line.Goals as goal

pub returns-clause-some : goal.returns-clause-some
returns-clause-some c = some_line

pub returns-clause-at_most_one : goal.returns-clause-at_most_one
returns-clause-at_most_one c = one_line

pub returns-clause-adds : goal.returns-clause-adds
returns-clause-adds c = adds_it
