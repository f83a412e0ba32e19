-- A pass that moved a row up.
use Rattle.std.specs.Prelude.{◌≡◌, ◌⊎◌, ℕ, suc, ◌+◌, ◌*◌, ◌<◌, ◌≤◌, List, [], ◌∷◌, ◌++◌, length}
use Rattle.gl_model.specs.declared.event.Stamp.{Stamp}
use Rattle.gl_model.specs.declared.row.Row.{Row}
use Rattle.gl_rule.specs.declared.slot.Slot.TheVariants as slot
use Rattle.gl_rule.specs.View.{Read, Taken, Hold, moved, with_loads}
use Rattle.gl_table.specs.PassView.{PassView}
use Rattle.gl_rows.specs.Walks.{placed_from}

-- the holds that were loaded while x's row was held: the first is no less than the position already, or it is below, and the second is
-- that position. The first takes five steps, the second three more: for the tail, to raise the hold, and to load it
abbrev pub LoadedHolds : ℕ → ℕ → ℕ → List Read → ℕ → Type 0
LoadedHolds x to hold reads steps =
    ((to ≤ hold) × (reads ≡ Hold (suc x) hold ∷ []) × (steps ≡ 5))
    ⊎ ((before : ℕ) × (before < to) × (hold ≡ to) × (reads ≡ Hold (suc x) before ∷ Hold (suc x) hold ∷ []) × (steps ≡ 8))

-- x's row was taken, and then its hold was loaded, which is this in the end; the events before the position that were loaded are each
-- loaded once
pub record HasAdvanced (x to : ℕ) (p : PassView) (hold : ℕ) (q : PassView) : Type 0 where
  pub row : Row
  pub holds : List Read
  pub steps : ℕ
  pub loaded : LoadedHolds x to hold holds steps
  pub reads : q.reads ≡ p.reads ++ Taken (suc x) (slot.Row row) ∷ holds
  pub from : ℕ
  pub events : List Stamp
  pub known : q.known ≡ p.known ++ placed_from from events
  pub ends : (events ≡ []) ⊎ (from + length events ≡ to)
  pub cost : q.moves ≡ with_loads (5 * length events) (moved steps p.moves)
