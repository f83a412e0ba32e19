-- An Info that was walked on: it stands for the same access, with its set further on.
use Rattle.std.specs.Prelude.{◌≡◌, ℕ, ◌≤◌, List, length, slice_range, Option, Some, None, ◌↔◌}
use Rattle.gl_model.specs.declared.event.Stamp.{Stamp}
use Rattle.gl_model.specs.declared.event.Element.{Element}
use Rattle.gl_model.specs.declared.row.Info.{Info}
use Rattle.gl_model.specs.declared.row.Row.{Row}
use Rattle.gl_model.specs.Lockset.{Has}
use Rattle.gl_model.specs.Locksets.{AfterAll}
use Rattle.gl_draws.specs.RowFacts.{read_of}

-- the new Info has walked the events between the two positions, and no other
pub record IsMoved (h : List Stamp) (old new : Info) : Type 0 where
  pub thread : new.thread ≡ old.thread
  pub write : new.write ≡ old.write
  pub commit : new.commit ≡ old.commit
  pub held : new.held ≡ old.held
  pub forward : old.pos ≤ new.pos
  pub within : new.pos ≤ length h
  pub set : (y : Element) → Has new.set y ↔ AfterAll (Has old.set) (slice_range h old.pos new.pos) y

-- each of the two is there exactly where the other is, and is it walked on
abbrev pub AreMoved : List Stamp → Option Info → Option Info → Type 0
AreMoved h None None = Unit {0}
AreMoved h (Some old) (Some new) = IsMoved h old new
AreMoved h None (Some new) = ⊥
AreMoved h (Some old) None = ⊥

-- each Info of the row was walked on, or stayed
pub record IsRowMoved (h : List Stamp) (old new : Row) : Type 0 where
  pub value : new.value ≡ old.value
  pub last_write : AreMoved h old.last_write new.last_write
  pub threads : length new.reads ≡ length old.reads
  pub reads : (t : ℕ) → AreMoved h (read_of old.reads t) (read_of new.reads t)
