use Rattle.std.proofs.Common.{◌≡◌, ℕ, ◌+◌, ◌-◌, ◌≤◌, length, vec_capacity}
use Rattle.gl_core.specs.Cells.{cell}
use Rattle.gl_core.proofs.tables.make_clock.Given as goal

abbrev pub invariant-loop-table : goal.invariant-loop-table
invariant-loop-table l = record {
  same : (j : ℕ) (u : ℕ) → cell l.table.items j u ≡ cell l.fn.table.items j u;
  room : l.most ≤ vec_capacity l.table;
}

abbrev pub decreases-loop-table : goal.decreases-loop-table
decreases-loop-table l = l.i + 1 - length l.table.items
