use Rattle.std.proofs.Common.{◌≡◌}
use Rattle.gl_riders.specs.Riding.{Rides}
use Rattle.gl_threads.proofs.advance.go_on.Given as goal

abbrev pub invariant-loop-k : goal.invariant-loop-k
invariant-loop-k l = Rides l.run.program.now l.run.table.now.id l.machine l.pass.own l.txn × (l.machine.limit ≡ l.initial.machine.limit)
