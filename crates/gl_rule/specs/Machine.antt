-- The machine: the events of the list are its steps, with the values that their entries carry.
use Rattle.std.specs.Prelude.{◌≡◌, ℕ, ℤ, suc, length, Some}
use Rattle.std.specs.List.{All}
use Rattle.gl_model.specs.declared.event.Stamp.{Stamp}
use Rattle.gl_model.specs.Edges.{EventAt}
use Rattle.gl_model.specs.Entries.{Entry}
use Rattle.gl_model.specs.Form.{At, value_of}
use Rattle.gl_model.specs.Machine.{Setting, Step, Allows, start}
use Rattle.gl_model.specs.Records.{position_of}
use Rattle.gl_rule.specs.View.{View, Shelf}
use Rattle.gl_rule.specs.World.{World}

-- the state is that behind the list; so is each state between, step by step
pub record MachineHolds (setting : Setting) (w : World) : Type 0 where
  pub allowed : Allows setting w.log w.now
  pub first : w.states 0 ≡ start setting
  pub last : w.states (length w.log) ≡ w.now
  pub steps : (p : ℕ) (x : Stamp) → EventAt w.log p x → Step setting (w.states p) x (w.values p) (w.states (suc p))

-- the entries of events carry these values
abbrev pub ShelfCarries : (ℕ → ℤ) → Shelf → Type 0
ShelfCarries values s = (i p : ℕ) (e : Entry) → At s.marked i e → position_of e ≡ Some p → values p ≡ value_of e

pub record CarriesFit (values : ℕ → ℤ) (v : View) : Type 0 where
  pub shelves : All (ShelfCarries values) v.shelves
