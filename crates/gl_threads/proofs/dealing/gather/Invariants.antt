use Rattle.gl_threads.proofs.Boarding.{Gathers}
use Rattle.gl_threads.proofs.dealing.gather.Given as goal

abbrev pub invariant-loop-n : goal.invariant-loop-n
invariant-loop-n l = Gathers l.run.program.now l.run.steps l.run.table.now.id l.workers l.n l.crews.items l.passes.items
