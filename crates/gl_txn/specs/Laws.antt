-- What the cause of an end rules out. The list is the least one in which a commit can race: thread 0 has begun, and nothing else happened.
use Rattle.std.specs.Prelude.{◌≡◌, ◌≢◌, ◌↔◌, ℕ, ℤ, true, false, List, [], ◌∷◌, Some, None}
use Rattle.std.specs.List.{All}
use Rattle.gl_model.specs.declared.event.Act.TheVariants.{Begin}
use Rattle.gl_model.specs.declared.event.Element.{Element}
use Rattle.gl_model.specs.declared.event.Element.TheVariants.{Thread}
use Rattle.gl_model.specs.declared.event.Event.TheVariants.{Act as Does}
use Rattle.gl_model.specs.declared.event.Stamp.{Stamp}
use Rattle.gl_model.specs.declared.row.Info.{Info}
use Rattle.gl_model.specs.declared.row.Row.{Row}
use Rattle.gl_model.specs.Lockset.{Has}
use Rattle.gl_model.specs.Machine.{Setting}
use Rattle.gl_draws.specs.RowFacts.{read_of}
use Rattle.gl_rule.specs.View.{Read, shelf}
use Rattle.gl_table.specs.PassView.{PassView}
use Rattle.gl_table.specs.TableView.{TableView}
use Rattle.gl_txn.specs.Attempts.{Attempting}
use Rattle.gl_txn.specs.Ending.{WasChanged, WasDone, WasRaised}
use Rattle.gl_txn.specs.declared.taken.TakenRow.{TakenRow}

-- the one event
abbrev pub begun : Setting → List Stamp
begun setting = record { thread = 0; event = Does (Begin setting.main) } ∷ []

-- thread 0 wrote the variable in its first block, which is the only access of it: the row's Info stands behind the one event
pub record IsFirstWrite (row : Row) : Type 0 where
  pub info : Info
  pub there : row.last_write ≡ Some info
  pub unread : (t : ℕ) → read_of row.reads t ≡ None
  pub thread : info.thread ≡ 0
  pub write : info.write ≡ true
  pub commit : info.commit ≡ false
  pub held : info.held ≡ []
  pub pos : info.pos ≡ 1
  pub set : (y : Element) → Has info.set y ↔ (y ≡ Thread 0)

-- nobody has accessed the variable
pub record IsUntouched (row : Row) : Type 0 where
  pub unwritten : row.last_write ≡ None
  pub unread : (t : ℕ) → read_of row.reads t ≡ None

-- the pass knows the one event, if any, and any events behind it, as its own commit there
abbrev pub KnowsBegun : Setting → PassView → Type 0
KnowsBegun setting q = All (λ (k : ℕ × Stamp). k.0 ≡ 0 → k.1 ≡ record { thread = 0; event = Does (Begin setting.main) }) q.known

-- a commit of another thread behind the one event races with that write, so it is not Done there
abbrev pub RacyIsNotDone : Type 0
RacyIsNotDone = (z : TableView) (a : Attempting) (t : ℕ) (before : List Read) (r : TakenRow) (q : PassView) → t ≢ 0 → IsFirstWrite r.row
    → KnowsBegun z.key.setting q → WasDone z a 1 (shelf t []) 1 before (r ∷ []) q → ⊥

-- one on an untouched variable races with nothing, so it is not Raised
abbrev pub ClearIsNotRaised : Type 0
ClearIsNotRaised = (setting : Setting) (a : Attempting) (x t : ℕ) (before : List Read) (r : TakenRow) (q : PassView) → t ≢ 0
    → IsUntouched r.row → KnowsBegun setting q → q.seen ≡ 1 → WasRaised setting a x (shelf t []) 1 before (r ∷ []) q → ⊥

-- an attempt that looked at nothing is not Changed
abbrev pub UnlookedIsNotChanged : Type 0
UnlookedIsNotChanged = (a : Attempting) (x : ℕ) (read found : ℤ) (before : List Read) (rows : List TakenRow) (q : PassView) → a.looks ≡ []
    → WasChanged a x read found before rows q → ⊥
