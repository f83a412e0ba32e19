-- the rows before the next one were tried
use Rattle.std.proofs.Common.{◌≡◌}
use Rattle.gl_rows.specs.Sweeping.{AreTried}
use Rattle.gl_rows.proofs.sweeping.try_rows.Given as goal

abbrev pub invariant-loop-var : goal.invariant-loop-var
invariant-loop-var l = AreTried l.var l.to l.initial.pass l.pass × (l.window ≡ l.initial.window)
