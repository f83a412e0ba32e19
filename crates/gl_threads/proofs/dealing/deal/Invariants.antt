use Rattle.std.specs.Prelude.{vec_len}
use Rattle.gl_threads.proofs.Boarding.{Deals}
use Rattle.gl_threads.proofs.dealing.deal.Given as goal

abbrev pub invariant-deals : goal.invariant-deals
invariant-deals l = Deals l.run.program.now l.run.steps l.run.table.now l.workers l.left.items l.crews.items

abbrev pub decreases-deals : goal.decreases-deals
decreases-deals l = vec_len l.left
