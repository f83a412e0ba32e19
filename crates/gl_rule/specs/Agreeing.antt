-- What all lists that fit a pass agree on. By these laws a pass meets what is asked over each of them: by the events that it knows, and by
-- its own accesses.
use Rattle.std.specs.Prelude.{◌≡◌, ℕ, ◌+◌, ◌-◌, ◌<◌, ◌≤◌, Bool, true, false, List, length, take, drop, slice_get, Contains, Some, None, ◌↔◌}
use Rattle.gl_model.specs.declared.event.Stamp.{Stamp}
use Rattle.gl_model.specs.declared.event.Element.{Element}
use Rattle.gl_model.specs.declared.row.Info.{Info}
use Rattle.gl_model.specs.declared.row.Question.{Question}
use Rattle.gl_model.specs.declared.row.Row.{Row}
use Rattle.gl_model.specs.declared.tx.Tx.{Tx}
use Rattle.gl_model.specs.Entries.{Commit}
use Rattle.gl_model.specs.Form.{At}
use Rattle.gl_model.specs.Infos.{InfoFor, AreLeastOwned}
use Rattle.gl_model.specs.Lockset.{Has}
use Rattle.gl_model.specs.Locksets.{InitialLockset, AfterAll}
use Rattle.gl_model.specs.Machine.{Setting, State, Allows}
use Rattle.gl_model.specs.Records.{variables_of}
use Rattle.gl_draws.specs.RowFacts.{SomeFails, set_after}
use Rattle.gl_draws.specs.Ties.{last_position}
use Rattle.gl_rule.specs.Fitting.{IsFitting, IsNotOver}
use Rattle.gl_rule.specs.Values.{InRow}
use Rattle.gl_rule.specs.View.{Shelf}

-- the pass knows each event of the window, which stands from `from` on and ends at what was seen
pub record IsWindow (seen : ℕ) (known : List (ℕ × Stamp)) (from : ℕ) (window : List Stamp) : Type 0 where
  pub ends : from + length window ≡ seen
  pub is_known : (k : ℕ) (x : Stamp) → slice_get window k ≡ Some x → Contains known (from + k, x)

-- each fitting list has the known events in their places
abbrev pub KnownEventsAgree : Type 0
KnownEventsAgree =
    (setting : Setting) (s : Shelf) (seen : ℕ) (known : List (ℕ × Stamp)) (from : ℕ) (window : List Stamp)
    → IsWindow seen known from window →
    (l : List Stamp) → IsFitting setting s seen known l → drop from l ≡ window

-- so the set of an Info from there on is that over the known events
abbrev pub KnownSetsAgree : Type 0
KnownSetsAgree =
    (setting : Setting) (s : Shelf) (seen : ℕ) (known : List (ℕ × Stamp)) (from : ℕ) (window : List Stamp)
    → IsWindow seen known from window →
    (l : List Stamp) → IsFitting setting s seen known l → (i : Info) → from ≤ i.pos → (y : Element)
    → set_after l i y ↔ AfterAll (Has i.set) (drop (i.pos - from) window) y

-- and a question fails on a row with such Infos over one fitting list where it does over another
abbrev pub KnownTestsAgree : Type 0
KnownTestsAgree =
    (setting : Setting) (s : Shelf) (seen : ℕ) (known : List (ℕ × Stamp)) (from : ℕ) (window : List Stamp)
    → IsWindow seen known from window →
    (row : Row) → ((i : Info) → InRow row i → from ≤ i.pos) → (l m : List Stamp) → IsFitting setting s seen known l
    → IsFitting setting s seen known m → (question : Question) →
    SomeFails l row question ↔ SomeFails m row question

-- what is asked of an Info that a pass gives for a plain access of its own, in the block at p
pub record IsOwnPlain (setting : Setting) (s : Shelf) (seen : ℕ) (known : List (ℕ × Stamp)) (p : ℕ) (write : Bool) (i : Info) : Type 0 where
  pub block : last_position s.marked ≡ Some p
  pub goes_on : IsNotOver s.marked
  pub thread : i.thread ≡ s.thread
  pub writes : i.write ≡ write
  pub no_commit : i.commit ≡ false
  pub behind : p < i.pos
  pub within : i.pos ≤ seen
  -- its set is the one that a plain access starts with
  pub starts : (y : Element) → Has i.set y ↔ InitialLockset s.thread None y
  pub held : (l : List Stamp) (owner : State) → IsFitting setting s seen known l → Allows setting (take (p + 1) l) owner
      → AreLeastOwned owner s.thread i.held

-- it stands for the access over each fitting list
abbrev pub OwnPlainStands : Type 0
OwnPlainStands =
    (setting : Setting) (s : Shelf) (seen : ℕ) (known : List (ℕ × Stamp)) (p : ℕ) (write : Bool) (i : Info)
    → IsOwnPlain setting s seen known p write i →
    (l : List Stamp) → IsFitting setting s seen known l
    → InfoFor setting l i (record { thread = s.thread; block = p; variables = None }) write

-- what is asked of an Info that a pass gives for a commit of its own at position p
pub record IsOwnCommit (setting : Setting) (s : Shelf) (seen : ℕ) (known : List (ℕ × Stamp)) (p : ℕ) (tx : Tx) (write : Bool)
    (i : Info) : Type 0 where
  pub index : ℕ
  pub there : At s.marked index (Commit p tx)
  pub thread : i.thread ≡ s.thread
  pub writes : i.write ≡ write
  pub commit : i.commit ≡ true
  -- it stands directly behind the commit, with the set that this starts with
  pub at : i.pos ≡ p + 1
  pub starts : (y : Element) → Has i.set y ↔ InitialLockset s.thread (Some (variables_of tx)) y
  pub held : (l : List Stamp) (owner : State) → IsFitting setting s seen known l → Allows setting (take (p + 1) l) owner
      → AreLeastOwned owner s.thread i.held

-- it stands for the commit over each fitting list
abbrev pub OwnCommitStands : Type 0
OwnCommitStands =
    (setting : Setting) (s : Shelf) (seen : ℕ) (known : List (ℕ × Stamp)) (p : ℕ) (tx : Tx) (write : Bool) (i : Info)
    → IsOwnCommit setting s seen known p tx write i →
    (l : List Stamp) → IsFitting setting s seen known l
    → InfoFor setting l i (record { thread = s.thread; block = p; variables = Some (variables_of tx) }) write
