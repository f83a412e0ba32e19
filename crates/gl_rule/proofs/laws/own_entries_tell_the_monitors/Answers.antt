use Rattle.gl_rule.proofs.Levels.{levels_tell, monitors_tell, questions_tell}
use Rattle.gl_rule.proofs.laws.own_entries_tell_the_monitors.Goals as goal

pub returns-clause-levels : goal.returns-clause-levels
returns-clause-levels c = levels_tell

pub returns-clause-monitors : goal.returns-clause-monitors
returns-clause-monitors c = monitors_tell

pub returns-clause-questions : goal.returns-clause-questions
returns-clause-questions c = questions_tell
