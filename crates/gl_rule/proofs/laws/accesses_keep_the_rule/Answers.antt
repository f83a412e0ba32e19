use Rattle.gl_rule.proofs.Marking.{marks_plain, marks_open}
use Rattle.gl_rule.proofs.Aborting.{add_all}
use Rattle.gl_rule.proofs.laws.accesses_keep_the_rule.Goals as goal

pub returns-clause-plain : goal.returns-clause-plain
returns-clause-plain c = marks_plain

pub returns-clause-open : goal.returns-clause-open
returns-clause-open c = marks_open

pub returns-clause-added : goal.returns-clause-added
returns-clause-added c = λ key s id v u more adds rule here. add_all key s id v u more adds rule here
