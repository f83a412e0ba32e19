-- the rows before it were judged, and are clear
use Rattle.std.proofs.Common.{◌≡◌}
use Rattle.gl_txn.specs.Racing.{KnowsOn, AreClearBefore}
use Rattle.gl_txn.proofs.racing.first_race.Given as goal

abbrev pub invariant-loop-taken : goal.invariant-loop-taken
invariant-loop-taken g l = KnowsOn l.fn.pass l.pass × AreClearBefore l.taken-index l.pass l.base l.writes l.rows × (l.window ≡ l.fn.window)
