-- How the rows of a trace go on at a line: a row that is not noted stands, and so does one in which the line's access was noted.
use Rattle.std.specs.Prelude.{◌≡◌, ℕ, true, List, [], ◌∷◌, ◌++◌, length, replicate, slice_set, Some, None, ◌↔◌}
use Rattle.gl_model.specs.declared.limits.TheConstants.{THREADS}
use Rattle.gl_model.specs.declared.row.Info.{Info}
use Rattle.gl_model.specs.declared.row.Item.{Item}
use Rattle.gl_model.specs.declared.row.Item.TheVariants.{Act as Acts, Access as AccessTo, Commit as CommitsOn}
use Rattle.gl_model.specs.declared.row.Judged.{Judged}
use Rattle.gl_model.specs.declared.row.Judged.TheVariants.{NoAccess, Performed, Raised}
use Rattle.gl_model.specs.declared.row.Row.{Row}
use Rattle.gl_model.specs.Infos.{InfoFor}
use Rattle.gl_model.specs.Locksets.{Access}
use Rattle.gl_model.specs.Machine.{trace_setting}
use Rattle.gl_model.specs.Trace.{Line}
use Rattle.gl_draws.specs.RowFacts.{RowStands}
use Rattle.gl_lines.specs.Traced.{block_of, traced, history, draws_of}
use Rattle.gl_lines.specs.TraceLaws.{Accesses, WritesTo, commit_of}
use Rattle.gl_lines.specs.TraceStates.{AreSound}

-- the line was raised
abbrev pub IsRaised : Judged → Type 0
IsRaised NoAccess = ⊥
IsRaised Performed = ⊥
IsRaised (Raised var) = Unit {0}

-- the block of a performed line's access: its thread's last event before it, or the commit that it is
abbrev pub block_at : List Line → ℕ → Item → ℕ
block_at lines t (Acts act) = block_of t (traced lines)
block_at lines t (AccessTo x write) = block_of t (traced lines)
block_at lines t (CommitsOn reads writes) = length (history lines)

-- a performed line's access
abbrev pub access_at : List Line → Line → Access
access_at lines l = record { thread = l.thread; block = block_at lines l.thread l.item; variables = commit_of l.item }

-- the row of y stands on where the line does not access y, or was raised
abbrev pub RowsStay : Type 0
RowsStay =
    (lines : List Line) (l : Line) → AreSound (lines ++ l ∷ []) → (y : ℕ) (row : Row)
    → RowStands trace_setting (history lines) y (draws_of lines y) row →
    (Accesses l.item y → IsRaised l.judged) → RowStands trace_setting (history (lines ++ l ∷ [])) y (draws_of (lines ++ l ∷ []) y) row

-- the row has the Info of the line's access noted: a write is the last write and drops the reads, a read takes its thread's place
pub record IsNotedBy (t : ℕ) (item : Item) (y : ℕ) (i : Info) (old new : Row) : Type 0 where
  pub value : new.value ≡ old.value
  pub write : WritesTo item y → (new.last_write ≡ Some i) × (new.reads ≡ replicate THREADS None)
  pub read : (WritesTo item y → ⊥) → (new.last_write ≡ old.last_write) × (new.reads ≡ slice_set old.reads t (Some i))

-- the row of y stands with the line's access noted, where its Info stands for that
abbrev pub RowsFollow : Type 0
RowsFollow =
    (lines : List Line) (l : Line) → AreSound (lines ++ l ∷ []) → (y : ℕ) (old new : Row) (i : Info)
    → RowStands trace_setting (history lines) y (draws_of lines y) old →
    Accesses l.item y → (IsRaised l.judged → ⊥) → InfoFor trace_setting (history (lines ++ l ∷ [])) i (access_at lines l) i.write
    → ((i.write ≡ true) ↔ WritesTo l.item y) →
    IsNotedBy l.thread l.item y i old new → RowStands trace_setting (history (lines ++ l ∷ [])) y (draws_of (lines ++ l ∷ []) y) new
