use Rattle.std.proofs.Common.{◌≡◌, ◌≢◌, ℕ, ◌<◌, true}
use Rattle.gl_core.specs.Cells.{at}
use Rattle.gl_raised.specs.Lasts.{thread_fails}
use Rattle.gl_raised.proofs.lasts.Lasts.fails.Given as goal

abbrev pub invariant-loop-t : goal.invariant-loop-t
invariant-loop-t l = (v : ℕ) → v < l.t → v ≢ l.access.thread → thread_fails l.self (at l.known v) v l.access.commit l.access.write ≡ true
    → ⊥
