use Rattle.gl_run.proofs.OneProgram.{loads_lawful, loads_told}
use Rattle.gl_run.proofs.laws.loads_are_settled.Goals as goal

pub returns-clause-told : goal.returns-clause-told
returns-clause-told c = loads_told

pub returns-clause-lawful : goal.returns-clause-lawful
returns-clause-lawful c = loads_lawful
