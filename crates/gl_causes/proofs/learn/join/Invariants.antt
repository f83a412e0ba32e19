use Rattle.std.proofs.Common.{◌≡◌, ℕ, ◌<◌, ◌≤◌, max}
use Rattle.gl_core.specs.Cells.{at}
use Rattle.gl_causes.proofs.learn.join.Given as goal

abbrev pub invariant-loop-u : goal.invariant-loop-u
invariant-loop-u l = record {
  done : (v : ℕ) → v < l.u → at l.into v ≡ max (at l.fn.into v) (at l.from v);
  rest : (v : ℕ) → l.u ≤ v → at l.into v ≡ at l.fn.into v;
}
