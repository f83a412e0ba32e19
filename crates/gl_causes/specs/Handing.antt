-- Where a thread first hands on what it did, so that others can come after it.
use Rattle.std.specs.Prelude.{◌≡◌, ℕ, ℤ, ◌<◌, ◌||◌, Bool, if◌then◌else◌, true, Option, Some, None, is_some, slice_get}
use Rattle.gl_model.specs.declared.event.Act.{Act}
use Rattle.gl_model.specs.declared.event.Act.TheVariants.{Begin, End, Acq, Rel, VRead, VWrite, Fork, Join, Alloc, Print, Input, Fail}
use Rattle.gl_model.specs.declared.tx.Tx.{Tx}
use Rattle.gl_model.specs.Entries.{Entry, Sync, Commit, Plain, Abort, Trim, Over}
use Rattle.gl_model.specs.Records.{At, EntryAt, Lists, Place}
use Rattle.gl_places.specs.Places.{seen}
use Rattle.gl_causes.specs.declared.handing.Handing.{Handing}
use Rattle.gl_causes.specs.declared.handing.Way.{Way}
use Rattle.gl_causes.specs.declared.handing.Way.TheVariants.{Releases, Writes, Forks, Commits, Ends}

-- it looked at a variable or writes one
abbrev pub touches : Tx → Bool
touches tx = is_some (slice_get tx.looks 0) || is_some (slice_get tx.writes 0)

-- the entry hands on in this way what its thread did before it: others acquire the monitor, read the volatile, are the thread that is
-- forked, commit on a variable of the commit, or join the thread
abbrev pub HandsOn : Entry → Way → Type 0
HandsOn e (Releases m) = (at : ℕ) × ((value : ℤ) × (e ≡ Sync at (Rel m) value))
HandsOn e (Writes v) = (at : ℕ) × ((value : ℤ) × (e ≡ Sync at (VWrite v) value))
HandsOn e (Forks u) = (at : ℕ) × ((f : ℕ) × ((value : ℤ) × (e ≡ Sync at (Fork u f) value)))
HandsOn e Commits = (at : ℕ) × ((tx : Tx) × ((e ≡ Commit at tx) × (touches tx ≡ true)))
HandsOn e Ends = (at : ℕ) × ((value : ℤ) × (e ≡ Sync at End value))

-- no entry of the list of c's thread, behind c and before place n, hands on what the thread did
abbrev pub NoneHandsOn : Lists → Place → ℕ → Type 0
NoneHandsOn R c n = (i : ℕ) (e : Entry) (way : Way) → c.index < i → i < n → At (R c.thread) i e → HandsOn e way → ⊥

-- the first entry behind c in the list of its thread that hands on what the thread did
pub record IsFirstHanding (R : Lists) (c : Place) (h : Handing) : Type 0 where
  pub entry : Entry
  pub thread : h.place.thread ≡ c.thread
  pub behind : c.index < h.place.index
  pub there : EntryAt R (seen h.place) entry
  pub hands : HandsOn entry h.way
  pub first : NoneHandsOn R c h.place.index

-- the same, where there may be none
abbrev pub IsHanded : Lists → Place → Option Handing → Type 0
IsHanded R c None = (n : ℕ) → NoneHandsOn R c n
IsHanded R c (Some h) = IsFirstHanding R c h

-- ## The same, computed (inside only: no public clause names this)

abbrev pub act_way : Act → Option Way
act_way (Begin f) = None
act_way End = Some Ends
act_way (Acq m) = None
act_way (Rel m) = Some (Releases m)
act_way (VRead v) = None
act_way (VWrite v) = Some (Writes v)
act_way (Fork u f) = Some (Forks u)
act_way (Join u) = None
act_way (Alloc c) = None
act_way Print = None
act_way Input = None
act_way (Fail k) = None

abbrev pub entry_way : Entry → Option Way
entry_way (Sync at act value) = act_way act
entry_way (Commit at tx) = if touches tx then Some Commits else None
entry_way (Plain var nth cached write value raised) = None
entry_way (Abort tx why) = None
entry_way (Trim low) = None
entry_way (Over ending) = None
