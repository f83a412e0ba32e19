use Rattle.std.proofs.Common.{◌∙◌, sym}
use Rattle.gl_threads.proofs.Finishing.{all_finished}
use Rattle.gl_threads.proofs.crew.run_riders.Goals as goal

pub returns-then-are_home-clause-done : goal.returns-then-are_home-clause-done
returns-then-are_home-clause-done g c is =
    all_finished c.args.run.now.program.now c.args.run.now.steps c.args.run.now.table.now.id c.loop-turn.crew.riders.items (sym c.are_home.ensures
    ∙ c.if-are_home.true) c.loop-turn.invariant.0

pub round-requires-clause-window : goal.round-requires-clause-window
round-requires-clause-window g c κs lives = rw c.loop-turn.invariant.2 c.requires.window
