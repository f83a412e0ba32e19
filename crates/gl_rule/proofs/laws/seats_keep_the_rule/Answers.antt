use Rattle.gl_rule.proofs.Opening.{begins}
use Rattle.gl_rule.proofs.Seats.{enters, splits}
use Rattle.gl_rule.proofs.Ending.{joins_done}
use Rattle.gl_rule.proofs.laws.seats_keep_the_rule.Goals as goal

pub returns-clause-begins : goal.returns-clause-begins
returns-clause-begins c = begins

pub returns-clause-enters : goal.returns-clause-enters
returns-clause-enters c = enters

pub returns-clause-splits : goal.returns-clause-splits
returns-clause-splits c = splits

pub returns-clause-joins : goal.returns-clause-joins
returns-clause-joins c = joins_done
