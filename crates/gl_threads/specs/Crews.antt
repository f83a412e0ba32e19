-- The threads of a worker.
use Rattle.std.specs.Prelude.{◌≡◌, ◌≤◌, ℕ, false, map}
use Rattle.atomic_table.specs.Seated.{TableId}
use Rattle.gl_bytecode.specs.Programs.{Bytecode}
use Rattle.gl_rule.specs.Objects.{capacity}
use Rattle.gl_table.specs.TableView.{TableView}
use Rattle.gl_threads.specs.Aboard.{AreAboard, AreFinished, rider_id}
use Rattle.gl_threads.specs.declared.crew.Crew.{Crew}

-- all are aboard, and there is room for the events of a walk
pub record IsReady (P : Bytecode) (steps : ℕ) (t : TableView) (crew : Crew) : Type 0 where
  pub aboard : AreAboard P steps t.id crew.riders.items
  pub room : capacity t.key ≤ crew.lent.window

-- the same threads, which are all done where the crew did not stop
pub record CrewIsDone (P : Bytecode) (steps : ℕ) (z : TableId) (old new : Crew) : Type 0 where
  pub ids : map rider_id new.riders.items ≡ map rider_id old.riders.items
  pub finished : new.stopped ≡ false → AreFinished P steps z new.riders.items
