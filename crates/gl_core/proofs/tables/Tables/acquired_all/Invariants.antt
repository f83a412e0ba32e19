use Rattle.std.proofs.Common.{◌≡◌, ℕ, ◌+◌, ◌*◌, ◌≤◌, drop, max}
use Rattle.gl_model.specs.declared.event.Event.TheVariants.{Commit}
use Rattle.gl_model.specs.declared.limits.TheConstants.{THREADS}
use Rattle.gl_clocks.specs.Clocks.{most_of, taken}
use Rattle.gl_core.specs.Cells.{at}
use Rattle.gl_core.specs.TablesView.{clocks_in}
use Rattle.gl_core.proofs.tables.Tables.acquired_all.Given as goal

abbrev pub invariant-loop-var : goal.invariant-loop-var
invariant-loop-var l = record {
  known : (u : ℕ) → max (at l.known u) (most_of (clocks_in l.self) (drop l.var-index l.var-items) u)
      ≡ taken (clocks_in l.self) (record { thread = l.thread; event = Commit l.variables }) u;
  cost : l.ticks ≤ l.fn.ticks + THREADS * l.var-index;
}
