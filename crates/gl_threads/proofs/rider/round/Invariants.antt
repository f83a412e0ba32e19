use Rattle.std.proofs.Common.{◌≡◌, map}
use Rattle.std.specs.Prelude.{vec_len}
use Rattle.gl_threads.specs.Aboard.{AreAboard, rider_id}
use Rattle.gl_threads.proofs.rider.round.Given as goal

abbrev pub invariant-loop-i : goal.invariant-loop-i
invariant-loop-i g l =
    AreAboard l.run.program.now l.run.steps l.run.table.now.id l.riders.items × (map rider_id l.riders.items ≡ map rider_id l.initial.riders.items)
    × (vec_len l.riders ≡ vec_len l.initial.riders) × (l.lent.window ≡ l.initial.lent.window)
