use Rattle.std.proofs.Common.{◌≡◌, map}
use Rattle.gl_threads.specs.Aboard.{AreAboard, rider_id}
use Rattle.gl_threads.proofs.crew.run_riders.Given as goal

abbrev pub invariant-loop-turn : goal.invariant-loop-turn
invariant-loop-turn g l =
    AreAboard l.run.program.now l.run.steps l.run.table.now.id l.crew.riders.items × (map rider_id l.crew.riders.items ≡ map rider_id l.initial.crew.riders.items)
    × (l.crew.lent.window ≡ l.initial.crew.lent.window)
