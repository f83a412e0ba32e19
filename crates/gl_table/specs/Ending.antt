-- What a table is closed to.
use Rattle.std.specs.Prelude.{◌≡◌, ◌<◌, ℕ, List, [], length, map, slice_get, Some, Contains}
use Rattle.atomic_table.specs.Seated.{TableId}
use Rattle.gl_model.specs.declared.event.Stamp.{Stamp}
use Rattle.gl_model.specs.declared.limits.TheConstants.{THREADS}
use Rattle.gl_model.specs.Entries.{Entry}
use Rattle.gl_model.specs.Lawful.{IsLawful}
use Rattle.gl_model.specs.Records.{Lists, Place, EntryAt, IsEventList}
use Rattle.gl_draws.specs.Cached.{IsEntryRising}
use Rattle.gl_rule.specs.Bounded.{IsBounded}
use Rattle.gl_rule.specs.Closed.{IsDone, lists_in}
use Rattle.gl_rule.specs.Laws.{HasAll, AreTrims}
use Rattle.gl_rule.specs.Objects.{Key}
use Rattle.gl_rule.specs.Told.{Seat}
use Rattle.gl_rule.specs.View.{View, Shelf}
use Rattle.gl_table.specs.PassView.{PassView, shelf_of}

-- the pass of thread j is of this table, holds nothing, and is done
pub record IsDonePass (z : TableId) (j : ℕ) (p : PassView) : Type 0 where
  pub table : p.own.table ≡ z
  pub id : p.own.id ≡ j
  pub held : p.own.held ≡ []
  pub done : IsDone p.own.mine p.quiet

-- all passes of the table, in the order of their numbers, each done
pub record AreAllDone (z : TableId) (ps : List PassView) : Type 0 where
  pub count : length ps ≡ THREADS
  pub each : (j : ℕ) (p : PassView) → slice_get ps j ≡ Some p → IsDonePass z j p

abbrev pub shelves_of : List PassView → List Shelf
shelves_of ps = map shelf_of ps

-- the list of the pass with this number
abbrev pub mine_at : List PassView → Lists
mine_at ps = lists_in (shelves_of ps)

-- its Trims are those of the ring: no two with one low, the greatest as the events need it
pub record IsTrimmed (key : Key) (R : Lists) : Type 0 where
  pub events : List Stamp
  pub listed : IsEventList events R
  pub trims : AreTrims key.cells key.segments R (length events)

-- the record of these lists is lawful, its Trims are those of the ring, and it is bounded, where one seat has all of them
pub record ClosedTold (key : Key) (v : View) (w : Seat) : Type 0 where
  pub lawful : HasAll v → ((d : Place) (e : Entry) → EntryAt (lists_in v.shelves) d e → IsEntryRising e)
      → IsLawful key.setting (lists_in v.shelves)
  pub trims : HasAll v → IsTrimmed key (lists_in v.shelves)
  pub bounded : 0 < key.cells → HasAll v → IsBounded (lists_in v.shelves)

-- a seat that has taken in the lists of these passes, each done
pub record IsRoot (me : Seat) (ps : List PassView) : Type 0 where
  pub out : me.1 ≡ []
  pub shelves : me.0.shelves ≡ shelves_of ps
  pub unread : me.0.shelves ≡ [] → me.0.reads ≡ []
  pub held : me.0.held ≡ []
  pub drawn : me.0.drawn ≡ []
  pub stored : me.0.stored ≡ []
  pub owed : me.0.owed ≡ []
  pub done : (s : Shelf) → Contains me.0.shelves s → IsDone s.marked me.0.quiet
