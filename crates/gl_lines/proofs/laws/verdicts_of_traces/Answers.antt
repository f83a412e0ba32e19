use Rattle.gl_lines.proofs.TraceLawProofs.{hold_law}
use Rattle.gl_lines.proofs.VerdictLaw.{racy_law, among_law, races_law, settled_law, grow_law}
use Rattle.gl_lines.proofs.laws.verdicts_of_traces.Goals as goal

pub returns-clause-hold : goal.returns-clause-hold
returns-clause-hold c = hold_law

pub returns-clause-racy : goal.returns-clause-racy
returns-clause-racy c = racy_law

pub returns-clause-grow : goal.returns-clause-grow
returns-clause-grow c = grow_law

pub returns-clause-among : goal.returns-clause-among
returns-clause-among c = among_law

pub returns-clause-races : goal.returns-clause-races
returns-clause-races c = races_law

pub returns-clause-settled : goal.returns-clause-settled
returns-clause-settled c = settled_law
