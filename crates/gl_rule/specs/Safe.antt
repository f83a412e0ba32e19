-- The table is safe: no cell is given again while somebody may still walk from its event.
use Rattle.std.specs.Prelude.{◌≡◌, ℕ, suc, ◌+◌, ◌-◌, ◌*◌, ◌/◌, ◌<◌, ◌≤◌, List, length, Contains, Some, slice_get, slice_index}
use mathlib.Core.Option.{some}
use lib.ListN.{get_elem?}
use Rattle.atomic_table.specs.Table as table
use Rattle.gl_model.specs.declared.event.Stamp.{Stamp}
use Rattle.gl_model.specs.declared.limits.TheConstants.{VARIABLES}
use Rattle.gl_model.specs.declared.row.Info.{Info}
use Rattle.gl_rule.specs.declared.slot.Slot.{Slot}
use Rattle.gl_rule.specs.declared.slot.Slot.TheVariants as slot
use Rattle.gl_rule.specs.Cells.{packed}
use Rattle.gl_rule.specs.Fitting.{MayStoreWord}
use Rattle.gl_rule.specs.Objects.{Key, Board, board, capacity, cell_words}
use Rattle.gl_rule.specs.Rule.{Rule}
use Rattle.gl_rule.specs.Values.{InRow}
use Rattle.gl_rule.specs.View.{View, Held}

-- an Info of the row stands at p
abbrev pub HasInfoAt : Slot → ℕ → Type 0
HasInfoAt (slot.Row row) p = (i : Info) × InRow row i × (i.pos ≡ p)
HasInfoAt (slot.List l) p = ⊥
HasInfoAt slot.Empty p = ⊥

-- p is named for object k: an Info of its row stands there, at home or held, or stood there when a pass took the row, and is not below a
-- hold that the pass raised or loaded since
pub data IsNamed (b : Board) (s : table.State Slot View) (k p : ℕ) : Type 0 where
  at_home : (y : Slot) → b.turn k ≡ 0 → get_elem? s.homes k ≡ some (some y) → HasInfoAt y p → IsNamed b s k p
  as_held : (id : ℕ) → (v : View) → (h : Held) → get_elem? s.views id ≡ some v → Contains v.held h → h.object ≡ k → HasInfoAt h.taken p
      → IsNamed b s k p
  as_taken : (id : ℕ) → (v : View) → (h : Held) → get_elem? s.views id ≡ some v → Contains v.held h → h.object ≡ k → HasInfoAt h.first p
      → ((n : ℕ) → h.floor ≡ Some n → n ≤ p)
      → IsNamed b s k p

-- the words, read as b, keep the events of log safely
pub record IsSafe (key : Key) (b : Board) (s : table.State Slot View) (log : List Stamp) : Type 0 where
  pub tail : b.count 0 ≡ length log
  -- the first segment that is kept is at most that of each hold, which is at most the tail
  pub low : (x : ℕ) → x < VARIABLES → b.hold 0 * key.cells ≤ b.hold (suc x)
  pub holds : (x : ℕ) → x < VARIABLES → b.hold (suc x) ≤ length log
  -- what is named is at or above the hold
  pub named : (x p : ℕ) → x < VARIABLES → IsNamed b s (suc x) p → b.hold (suc x) ≤ p
  -- each event from there on stands in its cell, and there are cells for all of them
  pub cells : (p i : ℕ) (e : Stamp) → b.hold 0 * key.cells ≤ p → slice_get log p ≡ Some e → i < cell_words → b.cell p i
      ≡ slice_index (packed e) i
  pub room : length log ≤ b.hold 0 * key.cells + capacity key

-- each table is safe
abbrev pub TablesAreSafe : Type 0
TablesAreSafe = (key : Key) (s : table.State Slot View) → Rule key s → (log : List Stamp) × IsSafe key (board (capacity key) s.words) s log

-- the event that the next one takes the cell of stands in a segment below that of each position that is named
abbrev pub OverwritesUnnamed : Type 0
OverwritesUnnamed =
    (key : Key) (s : table.State Slot View) (id : ℕ) (v : View) (h : Held) (tail : ℕ) → 0 < key.cells → Rule key s → get_elem? s.views id
    ≡ some v →
    MayStoreWord key v h tail → capacity key ≤ tail → (x p : ℕ) → x < VARIABLES → IsNamed (board (capacity key) s.words) s (suc x) p →
    ((board (capacity key) s.words).count 0 ≡ tail) × ((tail - capacity key) / key.cells < p / key.cells)
