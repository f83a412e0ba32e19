use Rattle.gl_rule.proofs.Turning.{takes_turn, leaves_turn}
use Rattle.gl_rule.proofs.Paying.{writes_back}
use Rattle.gl_rule.proofs.laws.turns_keep_the_rule.Goals as goal

pub returns-clause-takes : goal.returns-clause-takes
returns-clause-takes c = takes_turn

pub returns-clause-leaves : goal.returns-clause-leaves
returns-clause-leaves c = leaves_turn

pub returns-clause-writes_back : goal.returns-clause-writes_back
returns-clause-writes_back c = writes_back
