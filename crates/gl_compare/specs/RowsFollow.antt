-- What the judge by rows keeps, against the lines so far.
use Rattle.std.specs.Prelude.{◌≡◌, ℕ, Bool, false, List, ◌∷◌, ◌++◌, [], slice_index_or}
use Rattle.gl_model.specs.declared.event.Stamp.{Stamp}
use Rattle.gl_model.specs.declared.row.Item.{Item}
use Rattle.gl_model.specs.declared.row.Judged.{Judged}
use Rattle.gl_model.specs.declared.row.Row.{Row}
use Rattle.gl_model.specs.Machine.{trace_setting}
use Rattle.gl_model.specs.Trace.{Line, AreVerdicts}
use Rattle.gl_model.specs.TraceSteps.{is_ended, holder}
use Rattle.gl_draws.specs.RowFacts.{RowStands}
use Rattle.gl_lines.specs.Traced.{history, draws_of}
use Rattle.gl_lines.specs.TraceStates.{steps_of, AreSound}
use Rattle.gl_compare.specs.Held.{hold_of}
use Rattle.gl_compare.specs.Rows.{row_of}
use Rattle.gl_compare.specs.declared.row_judge.RowJudge.{RowJudge}

-- the events so far, with the owner of each monitor behind them, a row that stands for each variable's draws, and who has ended
pub record AreFollowed (lines : List Line) (h : List Stamp) (kept : List Row) (over : List Bool) : Type 0 where
  pub events : h ≡ history lines
  pub holders : (m : ℕ) → hold_of m h ≡ holder m (steps_of lines)
  pub rows : (y : ℕ) → RowStands trace_setting (history lines) y (draws_of lines y) (row_of kept y)
  pub ended : (u : ℕ) → slice_index_or over u false ≡ is_ended (steps_of lines) u

-- the judge was given these lines
abbrev pub Follows : List Line → RowJudge → Type 0
Follows lines j = AreFollowed lines j.events.items j.rows.items j.ended

-- what is said of this next line is right, and the judge was given it, wherever it was given sound lines of which this is so
abbrev pub IsStepped : ℕ → Item → Judged → RowJudge → RowJudge → Type 0
IsStepped t item judged old new =
    (lines : List Line) → AreSound (lines ++ record { thread = t; item = item; judged = judged } ∷ []) → AreVerdicts lines
    → Follows lines old →
    AreVerdicts (lines ++ record { thread = t; item = item; judged = judged } ∷ []) ×
    Follows (lines ++ record { thread = t; item = item; judged = judged } ∷ []) new
