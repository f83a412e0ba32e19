-- A pass that loads events.
use Rattle.std.specs.Prelude.{◌≡◌, ◌≢◌, ◌⊎◌, ℕ, suc, ◌+◌, ◌*◌, ◌<◌, List, [], ◌∷◌, ◌++◌, length, Contains}
use Rattle.gl_model.specs.declared.event.Stamp.{Stamp}
use Rattle.gl_model.specs.declared.limits.TheConstants.{THREADS}
use Rattle.gl_model.specs.declared.row.Info.{Info}
use Rattle.gl_model.specs.declared.row.Row.{Row}
use Rattle.gl_rule.specs.declared.slot.Slot.TheVariants as slot
use Rattle.gl_rule.specs.Values.{InRow}
use Rattle.gl_rule.specs.View.{Held, Busy, moved, with_loads}
use Rattle.gl_table.specs.PassView.{PassView}

-- the pass holds a row, which is this as it was taken
abbrev pub HoldsRow : PassView → Row → Type 0
HoldsRow p row = (h : Held) × Contains p.own.held h × ((x : ℕ) × (h.object ≡ suc x)) × (h.taken ≡ slot.Row row)

-- the events with their positions, of which the first is n
abbrev pub placed_from : ℕ → List Stamp → List (ℕ × Stamp)
placed_from n [] = []
placed_from n (x ∷ xs) = (n, x) ∷ placed_from (suc n) xs

-- the pass loaded these events from a position on, five words of each; it knows them, and nothing else of it changed
abbrev pub KnowsFrom : ℕ → List Stamp → PassView → PassView → Type 0
KnowsFrom n xs p q = q ≡ record p { known = p.known ++ placed_from n xs; loaded = q.loaded; moves = with_loads (5 * length xs) p.moves }

-- the pass loaded the events from a position up to another, each of them once, and did nothing else. The first position is that of an
-- Info of the row, or nothing was loaded
pub record HasWalkedTo (row : Row) (to : ℕ) (p q : PassView) : Type 0 where
  pub from : ℕ
  pub events : List Stamp
  pub is : KnowsFrom from events p q
  pub ends : from + length events ≡ to
  pub named : (events ≡ []) ⊎ ((i : Info) × InRow row i × (i.pos ≡ from))

-- up to the last tail that it saw
abbrev pub HasWalked : Row → PassView → PassView → Type 0
HasWalked row p q = HasWalkedTo row p.seen p q

-- the pass read the turn of x's row as held by this one, which is another, and did nothing else
pub record ReadBusy (x by : ℕ) (p q : PassView) : Type 0 where
  pub near : by < THREADS
  pub other : by ≢ p.own.id
  pub reads : q.reads ≡ p.reads ++ Busy (suc x) by ∷ []
  pub own : q.own ≡ p.own
  pub spare : q.spare ≡ p.spare
  pub seen : q.seen ≡ p.seen
  pub known : q.known ≡ p.known
  pub cost : q.moves ≡ moved 1 p.moves
