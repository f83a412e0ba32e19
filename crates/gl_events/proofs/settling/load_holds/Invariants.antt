use Rattle.std.proofs.Common.{◌≡◌}
use Rattle.gl_events.specs.Settling.{AreLoaded}
use Rattle.gl_events.proofs.settling.load_holds.Given as goal

abbrev pub invariant-loop-var : goal.invariant-loop-var
invariant-loop-var l = AreLoaded l.var l.initial.pass l.pass l.least × (l.var ≡ 0 → l.least ≡ 18446744073709551615)
