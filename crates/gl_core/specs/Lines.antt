-- What a commit leaves of what the detector keeps.
use Rattle.std.specs.Prelude.{◌≡◌, ℕ, ◌+◌, true, if◌then◌else◌, List, Some, None}
use Rattle.std.specs.List.{find}
use Rattle.gl_model.specs.declared.event.Event.TheVariants.{Commit as Commits}
use Rattle.gl_model.specs.declared.event.Stamp.{Stamp}
use Rattle.gl_model.specs.declared.row.Judged.{Judged}
use Rattle.gl_model.specs.declared.row.Judged.TheVariants.{NoAccess, Performed, Raised}
use Rattle.gl_model.specs.Trace.{is_in}
use Rattle.gl_lines.specs.Traced.{with_stamp}
use Rattle.gl_core.specs.declared.latest.Epoch.{Epoch}
use Rattle.gl_core.specs.Marks.{Marks}
use Rattle.gl_core.specs.declared.tables.Tables.{Tables}
use Rattle.gl_core.specs.Latests.{latest_of, part_fails, noted}
use Rattle.gl_core.specs.TablesView.{AreClocksOf}

-- a commit that is the event at position n
abbrev pub commit_epoch : ℕ → ℕ → Epoch
commit_epoch t n = record { thread = t; mark = n + 1; commit = true }

-- a commit is refused for the first of its variables that fails, and leaves nothing; else it is noted on each of them
abbrev pub CommitDone : (ℕ → ℕ) → List Marks → ℕ → ℕ → List ℕ → List ℕ → Judged → List Marks → Type 0
CommitDone known old t n variables writes NoAccess new = ⊥
CommitDone known old t n variables writes Performed new =
    (find (part_fails known writes old) variables ≡ None) ×
    ((y : ℕ) → latest_of new y ≡ (if is_in y variables then noted (is_in y writes) (commit_epoch t n) (latest_of old y)
    else latest_of old y))
CommitDone known old t n variables writes (Raised x) new = (find (part_fails known writes old) variables ≡ Some x) × (new ≡ old)

-- and the clocks go on by it
abbrev pub ClocksDone : Tables → ℕ → List ℕ → Judged → Tables → Type 0
ClocksDone old t variables NoAccess new = ⊥
ClocksDone old t variables Performed new = (h : List Stamp) → AreClocksOf h old → AreClocksOf (with_stamp h t (Commits variables)) new
ClocksDone old t variables (Raised x) new = new ≡ old
