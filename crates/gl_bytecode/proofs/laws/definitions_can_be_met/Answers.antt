use Rattle.gl_bytecode.proofs.RunExamples.{changed_runs, five_runs, two_prints_run}
use Rattle.gl_bytecode.proofs.ValidExample.{five_is_valid}
use Rattle.gl_bytecode.proofs.laws.definitions_can_be_met.Goals as goal

pub returns-clause-valid : goal.returns-clause-valid
returns-clause-valid c = five_is_valid

pub returns-clause-halts : goal.returns-clause-halts
returns-clause-halts c = five_runs

pub returns-clause-spent : goal.returns-clause-spent
returns-clause-spent c = two_prints_run

pub returns-clause-again : goal.returns-clause-again
returns-clause-again c = changed_runs
