-- The rows of all variables, and what a line asks of them and leaves of them.
use Rattle.std.specs.Prelude.{◌≡◌, ℕ, pos, ◌<◌, Bool, true, false, IsTrue, Option, List, length, Contains, None, Some, replicate, slice_get, slice_index_or, ◌↔◌}
use Rattle.gl_model.specs.declared.event.Event.TheVariants.{Commit as Commits}
use Rattle.gl_model.specs.declared.event.Stamp.{Stamp}
use Rattle.gl_model.specs.declared.limits.TheConstants.{THREADS}
use Rattle.gl_model.specs.declared.row.Judged.{Judged}
use Rattle.gl_model.specs.declared.row.Judged.TheVariants.{NoAccess, Performed, Raised}
use Rattle.gl_model.specs.declared.row.Question.{Question}
use Rattle.gl_model.specs.declared.row.Row.{Row}
use Rattle.gl_model.specs.Machine.{trace_setting}
use Rattle.gl_model.specs.Trace.{is_in}
use Rattle.gl_draws.specs.RowFacts.{SomeFails}
use Rattle.gl_judge.specs.Noted.{IsNoted}
use Rattle.gl_judge.specs.Standing.{InfosStand}
use Rattle.gl_lines.specs.Traced.{with_stamp}
use Rattle.gl_shortcut.specs.Ordering.{IsOfNext}

-- a row of which no access was made
abbrev pub untouched : Row
untouched = record { value = pos 0; last_write = None; reads = replicate THREADS None }

-- the row of the variable y
abbrev pub row_of : List Row → ℕ → Row
row_of rows y = slice_index_or rows y untouched

-- what a plain access asks, what a commit on these variables asks of any of them but for whether it writes, and what of the variable y
abbrev pub asked_plain : ℕ → Bool → List ℕ → Question
asked_plain t write held = record { thread = t; write = write; commit = None; held = held }

abbrev pub asked_commit : ℕ → List ℕ → List ℕ → Question
asked_commit t variables held = record { thread = t; write = false; commit = Some variables; held = held }

abbrev pub asked_part : Question → List ℕ → ℕ → Question
asked_part q writes y = record { thread = q.thread; write = is_in y writes; commit = q.commit; held = q.held }

-- the answer is yes exactly where some Info of the row fails, if the question is of a next access behind these events and the Infos stand
abbrev pub Tells : List Stamp → Row → Question → Bool → Type 0
Tells h row q b = IsOfNext trace_setting h q → InfosStand trace_setting h row → IsTrue b ↔ SomeFails h row q

-- the answer is yes for this one of the variables and no for each before it, or no for all
abbrev pub TellsFirst : List Stamp → List Row → List ℕ → (ℕ → Question) → Option ℕ → Type 0
TellsFirst h rows variables asked None = (k y : ℕ) → slice_get variables k ≡ Some y → Tells h (row_of rows y) (asked y) false
TellsFirst h rows variables asked (Some x) =
    (i : ℕ) × (slice_get variables i ≡ Some x) × Tells h (row_of rows x) (asked x) true ×
    ((k y : ℕ) → k < i → slice_get variables k ≡ Some y → Tells h (row_of rows y) (asked y) false)

-- the access was noted in the rows of these variables, and in no other
pub record AreNoted (variables : List ℕ) (asked : ℕ → Question) (at : ℕ) (old new : List Row) : Type 0 where
  pub noted : (y : ℕ) → Contains variables y → IsNoted (row_of old y) (asked y) at (row_of new y)
  pub others : (y : ℕ) → (Contains variables y → ⊥) → row_of new y ≡ row_of old y

-- a plain access of x is judged by its row, and noted there where it is performed
abbrev pub PlainDone : List Stamp → Row → Question → ℕ → Judged → Row → Type 0
PlainDone h old q x NoAccess new = ⊥
PlainDone h old q x Performed new = Tells h old q false × IsNoted old q (length h) new
PlainDone h old q x (Raised var) new = (var ≡ x) × Tells h old q true × (new ≡ old)

-- a commit is judged by the rows of its variables, and is an event and is noted there where it is performed
abbrev pub CommitDone : List Stamp → List Row → ℕ → List ℕ → (ℕ → Question) → Judged → List Stamp → List Row → Type 0
CommitDone h old t variables asked NoAccess h' new = ⊥
CommitDone h old t variables asked Performed h' new =
    TellsFirst h old variables asked None × (h' ≡ with_stamp h t (Commits variables)) × AreNoted variables asked (length h') old new
CommitDone h old t variables asked (Raised x) h' new = TellsFirst h old variables asked (Some x) × (h' ≡ h) × (new ≡ old)
