-- What holds of threads and workers, of a run: by its program, its number of instructions and its table.
use Rattle.std.specs.Prelude.{List}
use Rattle.gl_riders.specs.declared.thread.Run.{Run}
use Rattle.gl_table.specs.PassView.{PassView}
use Rattle.gl_threads.specs.Aboard.{AreAboard, AreFinished, IsAboard}
use Rattle.gl_threads.specs.Crews.{CrewIsDone, IsReady}
use Rattle.gl_threads.specs.Dealing.{AreBack, AreDone, AreReady}
use Rattle.gl_threads.specs.declared.crew.Crew.{Crew}
use Rattle.gl_threads.specs.declared.rider.Rider.{Rider}

-- the thread has its machine and its pass, and goes by the run
abbrev pub IsAboardIn : Run → Rider → Type 0
IsAboardIn r rider = IsAboard r.program.now r.steps r.table.now.id rider

-- so is each of these threads
abbrev pub AreAboardIn : Run → List Rider → Type 0
AreAboardIn r riders = AreAboard r.program.now r.steps r.table.now.id riders

-- each of these threads is done, by the run
abbrev pub AreFinishedIn : Run → List Rider → Type 0
AreFinishedIn r riders = AreFinished r.program.now r.steps r.table.now.id riders

-- a worker may begin with the run
abbrev pub IsReadyIn : Run → Crew → Type 0
IsReadyIn r crew = IsReady r.program.now r.steps r.table.now crew

-- a worker is through with its threads, or it stopped
abbrev pub CrewIsDoneIn : Run → Crew → Crew → Type 0
CrewIsDoneIn r old new = CrewIsDone r.program.now r.steps r.table.now.id old new

-- each of these workers may begin
abbrev pub AreReadyIn : Run → List Crew → Type 0
AreReadyIn r crews = AreReady r.program.now r.steps r.table.now crews

-- the threads of each worker are done
abbrev pub AreDoneIn : Run → List Crew → Type 0
AreDoneIn r crews = AreDone r.program.now r.steps r.table.now.id crews

-- the passes are back in their order, each done
abbrev pub AreBackIn : Run → List PassView → Type 0
AreBackIn r passes = AreBack r.program.now r.steps r.table.now.id passes
