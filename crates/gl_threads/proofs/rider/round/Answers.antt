use Rattle.std.proofs.Common.{◌≡◌, ◌∙◌, map}
use Rattle.std.specs.Prelude.{slice_set}
use Rattle.gl_threads.specs.Aboard.{IsAboard, rider_id}
use Rattle.gl_threads.proofs.Finishing.{aboard_set, ids_set}
use Rattle.gl_threads.proofs.rider.round.Goals as goal
use Rattle.gl_threads.proofs.rider.round.Goals.{in-Moved, in-Idle}

pub returns-in-Stopped-clause-ids : goal.returns-in-Stopped-clause-ids
returns-in-Stopped-clause-ids g c =
    ids_set c.loop-i.riders.items c.loop-i.i c.ride.new.rider c.index_mut.result.now c.ride.ensures.id c.index_mut.ensures.value
    ∙ c.loop-i.invariant.1

pub loop-i-preserved : goal.loop-i-preserved
loop-i-preserved g c =
    let ids : map rider_id (slice_set c.loop-i.riders.items c.loop-i.i c.ride.new.rider) ≡ map rider_id c.args.riders.now.items =
    ids_set c.loop-i.riders.items c.loop-i.i c.ride.new.rider c.index_mut.result.now c.ride.ensures.id c.index_mut.ensures.value
    ∙ c.loop-i.invariant.1 in
    let one : IsAboard c.args.run.now.program.now c.args.run.now.steps c.args.run.now.table.now.id c.ride.new.rider =
    elim c.match-ride.branch [ in-Moved w ↦ w.in-Moved.ensures.aboard | in-Idle w ↦ w.in-Idle.ensures.aboard ] in (
      aboard_set c.args.run.now.program.now c.args.run.now.steps c.args.run.now.table.now.id c.loop-i.riders.items c.loop-i.i c.ride.new.rider one
          c.loop-i.invariant.0,
      ids,
      c.loop-i.invariant.2,
      c.ride.ensures.window ∙ c.loop-i.invariant.3,
    )

pub ride-requires-clause-window : goal.ride-requires-clause-window
ride-requires-clause-window g c κs lives = rw c.loop-i.invariant.3 c.requires.window

pub returns-in-Stopped-clause-window : goal.returns-in-Stopped-clause-window
returns-in-Stopped-clause-window g c = c.ride.ensures.window ∙ c.loop-i.invariant.3
