-- Infos that are moved up to a position, over the events from another position up to it.
use Rattle.std.specs.Prelude.{◌≡◌, ◌⊎◌, ◌↔◌, ℕ, ◌-◌, ◌<◌, ◌≤◌, List, drop, length, Option, Some, None}
use Rattle.gl_model.specs.declared.event.Element.{Element}
use Rattle.gl_model.specs.declared.event.Stamp.{Stamp}
use Rattle.gl_model.specs.declared.row.Info.{Info}
use Rattle.gl_model.specs.declared.row.Row.{Row}
use Rattle.gl_model.specs.Lockset.{Has}
use Rattle.gl_model.specs.Locksets.{AfterAll}
use Rattle.gl_draws.specs.RowFacts.{read_of}

-- the Info stands at the position, with its set after the events of the window from its own position on
pub record HasWalkedOver (from to : ℕ) (window : List Stamp) (old new : Info) : Type 0 where
  pub thread : new.thread ≡ old.thread
  pub write : new.write ≡ old.write
  pub commit : new.commit ≡ old.commit
  pub held : new.held ≡ old.held
  pub pos : new.pos ≡ to
  pub set : (y : Element) → Has new.set y ↔ AfterAll (Has old.set) (drop (old.pos - from) window) y

-- an Info that stands there or behind stays
abbrev pub IsMovedTo : ℕ → ℕ → List Stamp → Info → Info → Type 0
IsMovedTo from to window old new = ((to ≤ old.pos) × (new ≡ old)) ⊎ ((old.pos < to) × HasWalkedOver from to window old new)

abbrev pub AreMovedTo : ℕ → ℕ → List Stamp → Option Info → Option Info → Type 0
AreMovedTo from to window None None = Unit {0}
AreMovedTo from to window None (Some new) = ⊥
AreMovedTo from to window (Some old) None = ⊥
AreMovedTo from to window (Some old) (Some new) = IsMovedTo from to window old new

pub record IsRowMovedTo (from to : ℕ) (window : List Stamp) (old new : Row) : Type 0 where
  pub value : new.value ≡ old.value
  pub last_write : AreMovedTo from to window old.last_write new.last_write
  pub threads : length new.reads ≡ length old.reads
  pub reads : (t : ℕ) → AreMovedTo from to window (read_of old.reads t) (read_of new.reads t)
