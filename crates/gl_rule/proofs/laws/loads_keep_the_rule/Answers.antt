use Rattle.gl_rule.proofs.Loading.{loads_tail, loads_hold, loads_stop, loads_cell, loads_event}
use Rattle.gl_rule.proofs.Raising.{loads_floor}
use Rattle.gl_rule.proofs.laws.loads_keep_the_rule.Goals as goal

pub returns-clause-tail : goal.returns-clause-tail
returns-clause-tail c = loads_tail

pub returns-clause-hold : goal.returns-clause-hold
returns-clause-hold c = loads_hold

pub returns-clause-floor : goal.returns-clause-floor
returns-clause-floor c = loads_floor

pub returns-clause-stop : goal.returns-clause-stop
returns-clause-stop c = loads_stop

pub returns-clause-cell : goal.returns-clause-cell
returns-clause-cell c = loads_cell

pub returns-clause-event : goal.returns-clause-event
returns-clause-event c = loads_event
