use Rattle.gl_rule.proofs.Safety.{safe, overwrites}
use Rattle.gl_rule.proofs.laws.tables_are_safe.Goals as goal

pub returns-clause-safe : goal.returns-clause-safe
returns-clause-safe c = λ key s rule. safe key s rule

pub returns-clause-overwrites : goal.returns-clause-overwrites
returns-clause-overwrites c = λ key s id v h tail pos rule at may round x p near n. overwrites key s rule id v h tail pos at may round x p
    near n
