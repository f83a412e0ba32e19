use Rattle.gl_core.proofs.Taken.{zero_cell}
use Rattle.gl_core.proofs.tables.first_threads.Goals as goal

pub returns : goal.returns
returns c = zero_cell 16 16
