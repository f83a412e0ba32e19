-- What the judge keeps, against the lines so far.
use Rattle.std.specs.Prelude.{◌≡◌, ℕ, Bool, false, List, ◌∷◌, ◌++◌, [], slice_index_or}
use Rattle.gl_model.specs.declared.event.Stamp.{Stamp}
use Rattle.gl_model.specs.declared.row.Item.{Item}
use Rattle.gl_model.specs.declared.row.Judged.{Judged}
use Rattle.gl_model.specs.Trace.{Line, AreVerdicts}
use Rattle.gl_model.specs.TraceSteps.{is_ended}
use Rattle.gl_reference.specs.declared.races.Performed.{Performed}
use Rattle.gl_lines.specs.Traced.{history, draws_of}
use Rattle.gl_lines.specs.TraceStates.{steps_of, AreSound}
use Rattle.gl_reference.specs.Performed.{ArePerformed}
use Rattle.gl_reference.specs.declared.judge.SlowJudge.{SlowJudge}

-- the events so far, the performed accesses, and who has ended
pub record AreFollowed (lines : List Line) (h : List Stamp) (ps : List Performed) (over : List Bool) : Type 0 where
  pub events : h ≡ history lines
  pub performed : ArePerformed (draws_of lines) ps
  pub ended : (u : ℕ) → slice_index_or over u false ≡ is_ended (steps_of lines) u

-- the judge was given these lines
abbrev pub Follows : List Line → SlowJudge → Type 0
Follows lines j = AreFollowed lines j.events.items j.performed.items j.ended

-- nothing that the judge keeps has changed
pub record IsAsBefore (old new : SlowJudge) : Type 0 where
  pub events : new.events.items ≡ old.events.items
  pub performed : new.performed.items ≡ old.performed.items
  pub ended : new.ended ≡ old.ended

-- what is said of this next line is right, and the judge was given it, wherever it was given sound lines of which this is so
abbrev pub IsStepped : ℕ → Item → Judged → SlowJudge → SlowJudge → Type 0
IsStepped t item judged old new =
    (lines : List Line) → AreSound (lines ++ record { thread = t; item = item; judged = judged } ∷ []) → AreVerdicts lines
    → Follows lines old →
    AreVerdicts (lines ++ record { thread = t; item = item; judged = judged } ∷ []) ×
    Follows (lines ++ record { thread = t; item = item; judged = judged } ∷ []) new
