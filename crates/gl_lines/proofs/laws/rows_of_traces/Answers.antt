use Rattle.gl_lines.proofs.RowNotes.{stay_law, follow_law}
use Rattle.gl_lines.proofs.laws.rows_of_traces.Goals as goal

pub returns-clause-stay : goal.returns-clause-stay
returns-clause-stay c = stay_law

pub returns-clause-follow : goal.returns-clause-follow
returns-clause-follow c = follow_law
