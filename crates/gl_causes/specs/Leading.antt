-- The last of what a thread did that leads to an entry of another one.
use Rattle.std.specs.Prelude.{◌≡◌, ℕ, ◌+◌, ◌-◌, ◌<◌, ◌≤◌, ◌&&◌, nat_lt, Bool, false, is_some, List, take, Option, Some, None}
use Rattle.gl_draws.specs.Ties.{last_position}
use Rattle.gl_model.specs.Entries.{Entry}
use Rattle.gl_model.specs.HappensBefore.{HappensBefore}
use Rattle.gl_model.specs.Records.{At, EntryAt, Lists, Place, position_of}
use Rattle.gl_places.specs.Places.{seen}
use Rattle.gl_places.specs.declared.place.Place.{Place as StoredPlace}

-- of thread u nothing from index n on happens before the entry at d
abbrev pub NothingLeads : Lists → Place → ℕ → ℕ → Type 0
NothingLeads R d u n = (i : ℕ) → n ≤ i → HappensBefore R (record { thread = u; index = i }) d → ⊥

-- the last entry of thread u that happens before the entry at d; it is an event
pub record IsLastLeading (R : Lists) (d : Place) (u : ℕ) (c : StoredPlace) : Type 0 where
  pub thread : c.thread ≡ u
  pub entry : Entry
  pub there : EntryAt R (seen c) entry
  pub position : ℕ
  pub event : position_of entry ≡ Some position
  pub leads : HappensBefore R (seen c) d
  pub last : NothingLeads R d u (c.index + 1)

-- the same, where there may be none
abbrev pub IsLed : Lists → Place → ℕ → Option StoredPlace → Type 0
IsLed R d u None = NothingLeads R d u 0
IsLed R d u (Some c) = IsLastLeading R d u c

-- ## How it is found (inside only: no public clause names this)

-- a clock that has come so far has passed the block
abbrev pub passes : Option ℕ → ℕ → Bool
passes None n = false
passes (Some block) n = nat_lt block (n - 1)

-- the entry is an event, and such a clock has passed the block before it
abbrev pub is_passed : Option ℕ → ℕ → Entry → Bool
is_passed block n e = is_some (position_of e) && passes block n

-- that is so of the entry at i
pub record IsPassed (es : List Entry) (n i : ℕ) : Type 0 where
  pub entry : Entry
  pub there : At es i entry
  pub position : ℕ
  pub event : position_of entry ≡ Some position
  pub block : ℕ
  pub before : last_position (take i es) ≡ Some block
  pub passed : block + 1 < n

-- the last such entry of a list, if there is one
abbrev pub IsLastPassed : List Entry → ℕ → Option ℕ → Type 0
IsLastPassed es n None = (i : ℕ) → IsPassed es n i → ⊥
IsLastPassed es n (Some i) = IsPassed es n i × ((j : ℕ) → i < j → IsPassed es n j → ⊥)

-- and its place in the list of thread t
abbrev pub IsPlacePassed : List Entry → ℕ → ℕ → Option StoredPlace → Type 0
IsPlacePassed es t n None = IsLastPassed es n None
IsPlacePassed es t n (Some c) = (c.thread ≡ t) × IsLastPassed es n (Some c.index)
