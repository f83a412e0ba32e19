-- Values: the list's state is the machine's, and each row is that of its variable's last performed accesses, at home or as it was taken. No
-- Info of a row stands below the row's hold.
use Rattle.std.specs.Prelude.{◌≡◌, ℕ, zero, suc, ◌<◌, ◌≤◌, List, ◌∷◌, Option, Some, None, ◌⊎◌}
use Rattle.std.specs.List.{All}
use mathlib.Core.Option as home
use lib.ListN.{get_elem?}
use Rattle.gl_model.specs.declared.row.Info.{Info}
use Rattle.gl_model.specs.declared.row.Row.{Row}
use Rattle.gl_model.specs.Machine.{Setting}
use Rattle.gl_draws.specs.Draws.{Draw}
use Rattle.gl_draws.specs.RowFacts.{read_of, RowStands}
use Rattle.gl_rule.specs.declared.slot.Slot.{Slot}
use Rattle.gl_rule.specs.declared.slot.Slot.TheVariants as slot
use Rattle.gl_rule.specs.Objects.{objects}
use Rattle.gl_state.specs.States.{IsStateOf}
use Rattle.gl_rule.specs.View.{View, Held}
use Rattle.gl_rule.specs.World.{World}

-- the row has the Info
abbrev pub InRow : Row → Info → Type 0
InRow row i = (row.last_write ≡ Some i) ⊎ ((t : ℕ) × (read_of row.reads t ≡ Some i))

-- no Info of the row stands below n
pub record IsAbove (row : Row) (n : ℕ) : Type 0 where
  pub at : (i : Info) → InRow row i → n ≤ i.pos

-- the object's value is as it has to be at home
abbrev pub Stands : Setting → World → (ℕ → ℕ) → ℕ → Slot → Type 0
Stands setting w hold zero (slot.List l) = IsStateOf l w.now
Stands setting w hold (suc x) (slot.Row row) = RowStands setting w.log x (w.draws x) row × IsAbove row (hold (suc x))
Stands setting w hold zero (slot.Row row) = ⊥
Stands setting w hold zero slot.Empty = ⊥
Stands setting w hold (suc x) (slot.List l) = ⊥
Stands setting w hold (suc x) slot.Empty = ⊥

-- the draws with one that was made since, if there is one
abbrev pub with_draw : Option Draw → List Draw → List Draw
with_draw None ds = ds
with_draw (Some d) ds = d ∷ ds

-- the row as it was taken is that of the draws before the one that was made since
pub record RowHeld (setting : Setting) (w : World) (x : ℕ) (drew : Option Draw) (row : Row) : Type 0 where
  pub before : List Draw
  pub draws_are : w.draws x ≡ with_draw drew before
  pub stands : RowStands setting w.log x before row

-- and while it is held
abbrev pub StandsHeld : Setting → World → (ℕ → ℕ) → Option Draw → ℕ → Slot → Type 0
StandsHeld setting w hold drew zero (slot.List l) = IsStateOf l w.now
StandsHeld setting w hold drew (suc x) (slot.Row row) = RowHeld setting w x drew row × IsAbove row (hold (suc x))
StandsHeld setting w hold drew zero (slot.Row row) = ⊥
StandsHeld setting w hold drew zero slot.Empty = ⊥
StandsHeld setting w hold drew (suc x) (slot.List l) = ⊥
StandsHeld setting w hold drew (suc x) slot.Empty = ⊥

abbrev pub HeldStands : Setting → World → (ℕ → ℕ) → Held → Type 0
HeldStands setting w hold h = StandsHeld setting w hold h.drew h.object h.taken

pub record ValuesFit (setting : Setting) (w : World) (hold : ℕ → ℕ) (v : View) : Type 0 where
  pub held : All (HeldStands setting w hold) v.held

-- each object whose turn is free is at home, with a value as it has to be
pub record ValuesHold (setting : Setting) (w : World) (turn hold : ℕ → ℕ) (homes : List (home.Option Slot)) : Type 0 where
  pub home : (k : ℕ) → k < objects → turn k ≡ 0 → (y : Slot) × (get_elem? homes k ≡ home.some (home.some y)) × Stands setting w hold k y
