use Rattle.gl_rule.proofs.Storing.{puts_word, sets_stop}
use Rattle.gl_rule.proofs.Raising.{raises_hold}
use Rattle.gl_rule.proofs.Lowering.{raises_low}
use Rattle.gl_rule.proofs.laws.stores_keep_the_rule.Goals as goal

pub returns-clause-word : goal.returns-clause-word
returns-clause-word c = puts_word

pub returns-clause-stop : goal.returns-clause-stop
returns-clause-stop c = sets_stop

pub returns-clause-hold : goal.returns-clause-hold
returns-clause-hold c = raises_hold

pub returns-clause-low : goal.returns-clause-low
returns-clause-low c = raises_low
