-- Knowledge: what a pass has seen agrees with the table, for good.
use Rattle.std.specs.Prelude.{◌≡◌, ℕ, zero, suc, ◌<◌, ◌≤◌, List, length, Some, slice_get, slice_index, Contains}
use Rattle.std.specs.List.{All}
use Rattle.gl_model.specs.declared.event.Stamp.{Stamp}
use Rattle.gl_model.specs.Entries.{Entry}
use Rattle.gl_model.specs.Form.{At}
use Rattle.gl_model.specs.Records.{position_of}
use Rattle.gl_draws.specs.RowFacts.{IsWithin}
use Rattle.gl_rule.specs.declared.slot.Slot.{Slot}
use Rattle.gl_rule.specs.declared.slot.Slot.TheVariants as slot
use Rattle.gl_rule.specs.Objects.{objects}
use Rattle.gl_rule.specs.Cells.{packed}
use Rattle.gl_rule.specs.View.{View, Shelf, Held, Read, Busy, Taken, Hold, Stop, SetStop, CellWord}

-- the events of the list are below n
abbrev pub AreBelow : ℕ → Shelf → Type 0
AreBelow n s = (i p : ℕ) (e : Entry) → At s.marked i e → position_of e ≡ Some p → p < n

-- of the list's holder a tail that it saw since is the tail now; of a row's holder such a tail is at least each position of the row's
-- Infos, and the hold
abbrev pub TailFits : ℕ → (ℕ → ℕ) → ℕ → ℕ → Slot → ℕ → Type 0
TailFits long hold seen zero y n = n ≡ long
TailFits long hold seen (suc x) (slot.Row row) n = (n ≤ seen) × IsWithin row n × (hold (suc x) ≤ n)
TailFits long hold seen (suc x) (slot.List l) n = ⊥
TailFits long hold seen (suc x) slot.Empty n = ⊥

-- so of each tail that was seen while the object was held
abbrev pub TailsFit : ℕ → (ℕ → ℕ) → ℕ → Held → Type 0
TailsFit long hold seen h = (n : ℕ) → Contains h.tails n → TailFits long hold seen h.object h.taken n

-- no hold falls
abbrev pub ReadFits : (ℕ → ℕ) → Read → Type 0
ReadFits hold (Hold k n) = (k < objects) × (n ≤ hold k)
ReadFits hold (Busy k by) = Unit {0}
ReadFits hold (Taken k y) = Unit {0}
ReadFits hold (Stop n) = Unit {0}
ReadFits hold SetStop = Unit {0}

-- a word that was loaded is that of the event at its position
abbrev pub WordFits : List Stamp → CellWord → Type 0
WordFits log c = (x : Stamp) → slice_get log c.position ≡ Some x → c.word ≡ slice_index (packed x) c.index

-- what the view says it has seen: the tail, its own events, known events, tails while it held an object, holds, and words of cells
pub record KnowledgeFits (hold : ℕ → ℕ) (log : List Stamp) (v : View) : Type 0 where
  pub seen : v.seen ≤ length log
  pub own : All (AreBelow v.seen) v.shelves
  pub known : All (λ (k : ℕ × Stamp). slice_get log k.0 ≡ Some k.1) v.known
  pub tails : All (TailsFit (length log) hold v.seen) v.held
  pub reads : All (ReadFits hold) v.reads
  pub loaded : All (λ (c : CellWord). (c.position < length log) × WordFits log c) v.loaded
