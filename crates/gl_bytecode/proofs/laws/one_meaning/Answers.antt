use Rattle.gl_bytecode.proofs.OneMeaning.{apart, faults_once}
use Rattle.gl_bytecode.proofs.laws.one_meaning.Goals as goal

pub returns-clause-apart : goal.returns-clause-apart
returns-clause-apart c = apart

pub returns-clause-faults : goal.returns-clause-faults
returns-clause-faults c = faults_once
