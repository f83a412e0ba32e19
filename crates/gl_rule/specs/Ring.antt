-- The ring: each event from the first kept segment on stands in its cell, nothing that a row or a hold names lies before that segment, and
-- that segment is the one of the last Trim.
use Rattle.std.specs.Prelude.{◌≡◌, ◌≢◌, ℕ, suc, ◌+◌, ◌<◌, ◌≤◌, List, [], ◌∷◌, length, Option, Some, None, slice_get, slice_index, Contains, ◌⊎◌}
use Rattle.std.specs.List.{All}
use Rattle.gl_model.specs.declared.event.Stamp.{Stamp}
use Rattle.gl_model.specs.declared.limits.TheConstants.{THREADS, VARIABLES}
use Rattle.gl_model.specs.Entries.{Trim}
use Rattle.gl_model.specs.Form.{At}
use Rattle.gl_model.specs.declared.row.Info.{Info}
use Rattle.gl_model.specs.declared.row.Row.{Row}
use Rattle.gl_rule.specs.declared.slot.Slot.{Slot}
use Rattle.gl_rule.specs.declared.slot.Slot.TheVariants as slot
use Rattle.gl_rule.specs.Objects.{Board}
use Rattle.gl_rule.specs.Cells.{packed}
use Rattle.gl_rule.specs.Values.{InRow}
use Rattle.gl_rule.specs.View.{View, Shelf, Held, HasObject}

-- the first position of the first segment that is kept is from; the ring has cap cells
pub record RingHolds (cap from : ℕ) (b : Board) (log : List Stamp) : Type 0 where
  pub cells : (p i : ℕ) (x : Stamp) → from ≤ p → slice_get log p ≡ Some x → i < 5 → b.cell p i ≡ slice_index (packed x) i
  pub room : length log ≤ from + cap
  pub holds : (x : ℕ) → x < VARIABLES → (from ≤ b.hold (suc x)) × (b.hold (suc x) ≤ length log)

-- the hold of the list is the segment of the last Trim
pub record LowHolds (low : ℕ) (trims : List (ℕ × ℕ)) : Type 0 where
  pub below : (o : ℕ × ℕ) → Contains trims o → o.1 ≤ low
  pub last : (trims ≡ []) × (low ≡ 0) ⊎ ((t : ℕ) × (rest : List (ℕ × ℕ)) × (trims ≡ (t, low) ∷ rest))
  pub once : (o r : ℕ × ℕ) → Contains trims o → Contains trims r → o.1 ≡ r.1 → o.0 ≡ r.0
  pub named : (o : ℕ × ℕ) → Contains trims o → o.0 < THREADS

-- the Trims of the list are those that its thread made
pub record ShelfTrims (trims : List (ℕ × ℕ)) (s : Shelf) : Type 0 where
  pub made : (i low : ℕ) → At s.marked i (Trim low) → Contains trims (s.thread, low)
  pub kept : (low : ℕ) → Contains trims (s.thread, low) → (i : ℕ) × At s.marked i (Trim low)

-- the hold of a held row is the one that was loaded, or that it was raised to; where there is none, no Info of the row as it was taken at
-- first lies below it
pub record IsFloor (hold : ℕ → ℕ) (object : ℕ) (first : Slot) (floor : Option ℕ) : Type 0 where
  pub exact : (n : ℕ) → floor ≡ Some n → (hold object ≡ n) × (object ≢ 0)
  pub named : (row : Row) (i : Info) → first ≡ slot.Row row → InRow row i → floor ≡ None → object ≢ 0 → hold object ≤ i.pos

abbrev pub FloorFits : (ℕ → ℕ) → Held → Type 0
FloorFits hold h = IsFloor hold h.object h.first h.floor

-- what the view says of holds, of the words that it stored in the tail's cell, and of its Trims
pub record RingFits (b : Board) (log : List Stamp) (trims : List (ℕ × ℕ)) (v : View) : Type 0 where
  pub floors : All (FloorFits b.hold) v.held
  -- what was stored stands in the cell of the tail, and only the list's holder has stored
  pub stored : (i : ℕ) → i < length v.stored → b.cell (length log) i ≡ slice_index v.stored i
  pub few : length v.stored ≤ 5
  pub by_holder : (v.stored ≡ []) ⊎ HasObject v 0
  pub lows : All (ShelfTrims trims) v.shelves
