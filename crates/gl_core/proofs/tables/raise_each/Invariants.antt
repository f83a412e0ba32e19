use Rattle.std.proofs.Common.{◌≡◌, ℕ, ◌+◌, ◌*◌, ◌≤◌, drop, max, vec_capacity}
use Rattle.std.specs.Prelude.{if◌then◌else◌}
use Rattle.gl_model.specs.declared.limits.TheConstants.{THREADS, VARIABLES}
use Rattle.gl_model.specs.Trace.{is_in}
use Rattle.gl_core.specs.Cells.{at, cell}
use Rattle.gl_core.proofs.tables.raise_each.Given as goal

abbrev pub invariant-loop-var : goal.invariant-loop-var
invariant-loop-var l = record {
  joined : (x : ℕ) (u : ℕ) → (if is_in x (drop l.var-index l.var-items) then max (cell l.table.items x u) (at l.by u)
      else cell l.table.items x u) ≡ (if is_in x l.variables then max (cell l.fn.table.items x u) (at l.by u)
      else cell l.fn.table.items x u);
  room : VARIABLES ≤ vec_capacity l.table;
  cost : l.ticks ≤ l.fn.ticks + THREADS * l.var-index;
}
