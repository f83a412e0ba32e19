use Rattle.gl_lines.proofs.TraceLawProofs.{allowed_law, runs_law, tied_law}
use Rattle.gl_lines.proofs.laws.traces_belong_together.Goals as goal

pub returns-clause-allowed : goal.returns-clause-allowed
returns-clause-allowed c = allowed_law

pub returns-clause-runs : goal.returns-clause-runs
returns-clause-runs c = runs_law

pub returns-clause-tied : goal.returns-clause-tied
returns-clause-tied c = tied_law
