-- What is said of a table whose passes are done.
use Rattle.std.specs.Prelude.{◌≡◌, ◌⊎◌, ℕ, ◌+◌, ◌-◌, ◌*◌, ◌/◌, ◌<◌, ◌≤◌, List, [], length, Contains}
use mathlib.Core.Option.{some}
use lib.ListN.{get_elem?}
use Rattle.atomic_table.specs.Table as table
use Rattle.gl_model.specs.declared.event.Stamp.{Stamp}
use Rattle.gl_model.specs.declared.limits.TheConstants.{THREADS}
use Rattle.gl_model.specs.Entries.{Entry, Trim}
use Rattle.gl_model.specs.Lawful.{IsLawful}
use Rattle.gl_model.specs.Records.{Lists, Place, EntryAt, IsEventList}
use Rattle.gl_draws.specs.Cached.{IsEntryRising}
use Rattle.gl_rule.specs.declared.slot.Slot.{Slot}
use Rattle.gl_rule.specs.Bounded.{IsBounded}
use Rattle.gl_rule.specs.Closed.{IsDone, lists_in}
use Rattle.gl_rule.specs.Objects.{Key}
use Rattle.gl_rule.specs.Rule.{Rule}
use Rattle.gl_rule.specs.View.{View, Shelf}

-- one seat has the lists of all threads, each done, and holds nothing
pub record HasAll (v : View) : Type 0 where
  pub held : v.held ≡ []
  pub all : (t : ℕ) → t < THREADS → (s : Shelf) × Contains v.shelves s × (s.thread ≡ t)
  pub done : (s : Shelf) → Contains v.shelves s → IsDone s.marked v.quiet

-- no two Trims have the same low; the greatest, or 0, is at most the segment of the tail, and with the ring's segments it is above that
-- of the last event
pub record AreTrims (cells segments : ℕ) (R : Lists) (events : ℕ) : Type 0 where
  pub once : (c d : Place) (low : ℕ) → EntryAt R c (Trim low) → EntryAt R d (Trim low) → c ≡ d
  pub greatest : ℕ
  pub upto : (c : Place) (low : ℕ) → EntryAt R c (Trim low) → low ≤ greatest
  pub is : (greatest ≡ 0) ⊎ ((c : Place) × EntryAt R c (Trim greatest))
  pub below : greatest * cells ≤ events
  pub room : events ≤ greatest * cells + segments * cells

-- then the record of these lists is lawful, where the parts of its transactions rise, as their types say
abbrev pub ClosedIsLawful : Type 0
ClosedIsLawful =
    (key : Key) (s : table.State Slot View) (id : ℕ) (v : View) → Rule key s → get_elem? s.views id ≡ some v → HasAll v →
    ((d : Place) (e : Entry) → EntryAt (lists_in v.shelves) d e → IsEntryRising e) → IsLawful key.setting (lists_in v.shelves)

-- and its Trims are those of the ring
abbrev pub ClosedIsTrimmed : Type 0
ClosedIsTrimmed =
    (key : Key) (s : table.State Slot View) (id : ℕ) (v : View) → Rule key s → get_elem? s.views id ≡ some v → HasAll v →
    (h : List Stamp) × IsEventList h (lists_in v.shelves) × AreTrims key.cells key.segments (lists_in v.shelves) (length h)

-- and its positions, numbers and low marks are bounded, where a segment has a cell
abbrev pub ClosedIsBounded : Type 0
ClosedIsBounded =
    (key : Key) (s : table.State Slot View) (id : ℕ) (v : View) → 0 < key.cells → Rule key s → get_elem? s.views id ≡ some v → HasAll v →
    IsBounded (lists_in v.shelves)

-- by segments: the greatest low is at most the segment of the tail, and with the ring's segments it is above that of the last event
abbrev pub TrimsBySegments : Type 0
TrimsBySegments =
    (cells segments : ℕ) (R : Lists) (events : ℕ) → 0 < cells → (t : AreTrims cells segments R events) →
    (t.greatest ≤ events / cells) × (0 < events → (events - 1) / cells < t.greatest + segments)
