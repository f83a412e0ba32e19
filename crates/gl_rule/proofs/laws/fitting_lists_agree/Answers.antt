use Rattle.gl_rule.proofs.Agreeing.{events_agree, members_agree, tests_agree, plain_stands, commit_stands}
use Rattle.gl_rule.proofs.laws.fitting_lists_agree.Goals as goal

pub returns-clause-events : goal.returns-clause-events
returns-clause-events c = events_agree

pub returns-clause-sets : goal.returns-clause-sets
returns-clause-sets c = members_agree

pub returns-clause-tests : goal.returns-clause-tests
returns-clause-tests c = tests_agree

pub returns-clause-plain : goal.returns-clause-plain
returns-clause-plain c = plain_stands

pub returns-clause-commit : goal.returns-clause-commit
returns-clause-commit c = commit_stands
