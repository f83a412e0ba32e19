-- What the detector keeps, against the lines so far.
use Rattle.std.specs.Prelude.{◌≡◌, ℕ, ◌+◌, ◌*◌, ◌≤◌, Bool, false, if◌then◌else◌, List, ◌∷◌, ◌++◌, [], length, slice_index_or, vec_capacity}
use Rattle.gl_model.specs.declared.limits.TheConstants.{THREADS, VARIABLES}
use Rattle.gl_model.specs.declared.row.Item.{Item}
use Rattle.gl_model.specs.declared.row.Item.TheVariants.{Act as Acts, Access, Commit as Commits}
use Rattle.gl_model.specs.declared.row.Judged.{Judged}
use Rattle.gl_model.specs.Rising.{with_all}
use Rattle.gl_model.specs.Trace.{Line, AreVerdicts}
use Rattle.gl_model.specs.TraceSteps.{is_ended}
use Rattle.gl_lines.specs.Traced.{history, draws_of}
use Rattle.gl_lines.specs.TraceStates.{steps_of, AreSound}
use Rattle.gl_core.specs.Marks.{Marks}
use Rattle.gl_core.specs.declared.tables.Tables.{Tables}
use Rattle.gl_core.specs.declared.detector.Detector.{Detector}
use Rattle.gl_core.specs.Latests.{latest_of}
use Rattle.gl_core.specs.Stands.{LatestStands}
use Rattle.gl_core.specs.TablesView.{IsSized, AreClocksOf}

-- the clocks behind the events so far, what is kept of each variable, and who has ended
pub record AreFollowed (lines : List Line) (s : Tables) (kept : List Marks) (over : List Bool) : Type 0 where
  pub clocks : AreClocksOf (history lines) s
  pub latests : (y : ℕ) → LatestStands y (draws_of lines y) (latest_of kept y)
  pub ended : (u : ℕ) → slice_index_or over u false ≡ is_ended (steps_of lines) u

-- the detector was given these lines
abbrev pub Follows : List Line → Detector → Type 0
Follows lines d = AreFollowed lines d.tables d.latests.items d.ended

-- there is room for each monitor, volatile and variable
pub record IsReady (d : Detector) : Type 0 where
  pub sized : IsSized d.tables
  pub variables : VARIABLES ≤ vec_capacity d.latests

-- what is said of this next line is right, and the detector was given it, wherever it was given sound lines of which this is so
abbrev pub IsStepped : ℕ → Item → Judged → Detector → Detector → Type 0
IsStepped t item judged old new =
    (lines : List Line) → AreSound (lines ++ record { thread = t; item = item; judged = judged } ∷ []) → AreVerdicts lines
    → Follows lines old →
    AreVerdicts (lines ++ record { thread = t; item = item; judged = judged } ∷ []) ×
    Follows (lines ++ record { thread = t; item = item; judged = judged } ∷ []) new

-- the most ticks that are counted of a line: of an act the clocks of two events, what it acquires, what it releases and its thread's;
-- of a plain access those of the last write or of the reads; of a commit what is kept of each variable that it reads and of each that it
-- writes, the clocks of each variable when it acquires, the same when it releases or, where it is racy, what is kept of each once more, and
-- its thread's clock
abbrev pub most_ticks : Item → ℕ
most_ticks (Acts act) = THREADS * 6
most_ticks (Access x write) = if write then THREADS else 1
most_ticks (Commits reads writes) = THREADS * (length reads + length writes + 2 * length (with_all writes reads) + 1)
