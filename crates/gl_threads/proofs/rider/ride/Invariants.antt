use Rattle.std.proofs.Common.{◌≡◌}
use Rattle.gl_threads.specs.Aboard.{IsAboard, rider_id}
use Rattle.gl_threads.proofs.rider.ride.Given as goal

abbrev pub invariant-loop : goal.invariant-loop
invariant-loop g l =
    IsAboard l.run.program.now l.run.steps l.run.table.now.id l.rider × (rider_id l.rider ≡ rider_id l.initial.rider) × (l.lent.window ≡ l.initial.lent.window)
