use Rattle.std.proofs.Common.{◌≡◌, ◌≤◌, replicate, vec_len, vec_capacity}
use Rattle.gl_table.proofs.levels.Levels.none.Given as goal

abbrev pub invariant-loop : goal.invariant-loop
invariant-loop l = (l.counts.items ≡ replicate l.counter 0) × (vec_len l.counts ≡ l.counter) × (256 ≤ vec_capacity l.counts)
