use Rattle.std.proofs.Common.{◌≡◌, ◌≤◌, []}
use Rattle.gl_table.proofs.tests.rounds.Given as goal

abbrev pub invariant-loop : goal.invariant-loop
invariant-loop l = (l.pass.own.table ≡ l.initial.pass.own.table) × (l.pass.own.held ≡ []) × (l.taken ≤ l.counter)
