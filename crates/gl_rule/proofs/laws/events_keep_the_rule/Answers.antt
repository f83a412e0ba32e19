use Rattle.gl_rule.proofs.Acting.{publishes_act}
use Rattle.gl_rule.proofs.Committing.{publishes_commit}
use Rattle.gl_rule.proofs.laws.events_keep_the_rule.Goals as goal

pub returns-clause-act : goal.returns-clause-act
returns-clause-act c = publishes_act

pub returns-clause-commit : goal.returns-clause-commit
returns-clause-commit c = publishes_commit
