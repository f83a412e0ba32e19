-- The entries of a record, laid out: each with its place and its block.
use Rattle.std.specs.Prelude.{◌≡◌, ℕ, ◌+◌, ◌<◌, List, slice_get, Some}
use Rattle.std.specs.Borrow.{Bor}
use Rattle.gl_model.specs.Entries.{Entry, seen as seen_entry}
use Rattle.gl_model.specs.declared.record.Entry.{Entry as StoredEntry}
use Rattle.gl_model.specs.Records.{Lists, Place, EntryAt}
use Rattle.gl_model.specs.declared.limits.TheConstants.{THREADS}
use Rattle.gl_places.specs.Places.{Before, seen}
use Rattle.gl_places.specs.declared.place.Place.{Place as StoredPlace}
use Rattle.gl_raised.specs.Gathers.{block_before}

-- an entry with its place and its block
pub record Stand : Type 0 where
  pub place : Place
  pub block : ℕ
  pub entry : Entry

-- one of the program, as definitions see it
abbrev pub stand_seen : StoredPlace × ℕ × Bor StoredEntry → Stand
stand_seen s = record { place = seen s.0; block = s.1; entry = seen_entry s.2.now }

-- it stands so in the record
pub record IsStand (R : Lists) (s : Stand) : Type 0 where
  pub there : EntryAt R s.place s.entry
  pub block : s.block ≡ block_before (R s.place.thread) (s.place.index + 1)

-- these are the entries before the place d, by thread and place
pub record AreStands (R : Lists) (d : Place) (stands : List Stand) : Type 0 where
  pub each : (k : ℕ) (s : Stand) → slice_get stands k ≡ Some s → IsStand R s × Before s.place d
  pub all : (c : Place) (e : Entry) → EntryAt R c e → Before c d → (k : ℕ) × ((s : Stand) × (slice_get stands k ≡ Some s) × (s.place ≡ c))
  pub rising : (j k : ℕ) (r s : Stand) → slice_get stands j ≡ Some r → slice_get stands k ≡ Some s → j < k → Before r.place s.place

-- each is of a thread that there is
abbrev pub AreOfThreads : List Stand → Type 0
AreOfThreads stands = (i : ℕ) (s : Stand) → slice_get stands i ≡ Some s → s.place.thread < THREADS
