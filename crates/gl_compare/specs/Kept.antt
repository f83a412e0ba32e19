-- What the judge by rows keeps to, whatever lines it was given.
use Rattle.std.specs.Prelude.{ℕ, ◌≤◌, List, All, length}
use Rattle.gl_model.specs.declared.event.Stamp.{Stamp}
use Rattle.gl_model.specs.declared.row.Row.{Row}
use Rattle.gl_model.specs.Elements.{IsStampInRange}
use Rattle.gl_draws.specs.RowFacts.{IsWithin}
use Rattle.gl_compare.specs.declared.row_judge.RowJudge.{RowJudge}

-- no Info of the rows stands behind the first n events
abbrev pub AreWithin : ℕ → List Row → Type 0
AreWithin n rows = All (λ row. IsWithin row n) rows

-- there are no fewer events, of threads and ids that there are
abbrev pub GoesOn : List Stamp → List Stamp → Type 0
GoesOn h h' = All IsStampInRange h' × (length h ≤ length h')

-- the events are of threads and ids that there are, and no Info stands behind them
abbrev pub IsReady : RowJudge → Type 0
IsReady j = All IsStampInRange j.events.items × AreWithin (length j.events.items) j.rows.items
