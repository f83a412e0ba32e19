-- What is said of a race of a record.
use Rattle.std.specs.Prelude.{◌≡◌, ◌≢◌, ℕ, ◌+◌, ◌<◌, ◌≤◌, ◌↔◌, List, length, Contains, slice_get, Some}
use Rattle.gl_model.specs.Entries.{Entry}
use Rattle.gl_model.specs.Form.{NumberDraws, Numbered}
use Rattle.gl_model.specs.HappensBefore.{HappensBefore}
use Rattle.gl_model.specs.Records.{Lists, Place, EntryAt, NumberOn, IsPerformed, Conflict}
use Rattle.gl_places.specs.Places.{Before, seen}
use Rattle.gl_raised.specs.Accesses.{raised_on}
use Rattle.gl_causes.specs.declared.cause.Cause.{Cause}
use Rattle.gl_causes.specs.Leading.{IsLed}

-- The access at d races on x with the one at c, which drew the number k on x: that was performed by another thread, comes before it there,
-- conflicts with it and does not happen before it. The race law (`IsRacy`) names such a one, or a cached repeat of it; a repeat has the
-- number of the access that it repeats and is named by that.
pub record RacesWith (R : Lists) (d : Place) (x : ℕ) (c : Place) (k : ℕ) : Type 0 where
  pub earlier : Entry
  pub refused : Entry
  pub later : ℕ
  pub there : EntryAt R c earlier
  pub here : EntryAt R d refused
  pub drawn : NumberDraws earlier x k
  pub numbered : NumberOn refused x later
  pub before : k < later
  pub another : c.thread ≢ d.thread
  pub performed : IsPerformed earlier
  pub conflict : Conflict earlier refused x
  pub unordered : HappensBefore R c d → ⊥

-- these are the places of all that the access at d races with on x, by thread and place
pub record AreRaces (R : Lists) (d : Place) (x : ℕ) (cs : List Place) : Type 0 where
  pub each : (c : Place) → Contains cs c ↔ ((k : ℕ) × RacesWith R d x c k)
  pub rising : (i j : ℕ) (b c : Place) → slice_get cs i ≡ Some b → slice_get cs j ≡ Some c → i < j → Before b c

-- why the entry at its place was refused
pub record IsCause (R : Lists) (e : Cause) : Type 0 where
  pub entry : Entry
  pub here : EntryAt R (seen e.at) entry
  -- the variable on which it was refused
  pub refused : raised_on entry ≡ Some e.var
  -- what it races with: of all such accesses that with the greatest number on the variable
  pub number : ℕ
  pub culprit : RacesWith R (seen e.at) e.var (seen e.other) number
  pub latest : (c : Place) (k : ℕ) → RacesWith R (seen e.at) e.var c k → k ≤ number
  -- how many others there are
  pub races : List Place
  pub are_races : AreRaces R (seen e.at) e.var races
  pub others : length races ≡ e.others + 1
  -- the last entry of the other thread that happens before the refused one
  pub leading : IsLed R (seen e.at) e.other.thread e.leading

-- the causes are of the entries that were refused, of each one, by thread and place
pub record AreCauses (R : Lists) (causes : List Cause) : Type 0 where
  pub each : (i : ℕ) (e : Cause) → slice_get causes i ≡ Some e → IsCause R e
  pub all : (c : Place) (f : Entry) (x : ℕ) → EntryAt R c f → raised_on f ≡ Some x → (i : ℕ) × ((e : Cause)
      × (slice_get causes i ≡ Some e) × (seen e.at ≡ c))
  pub rising : (i j : ℕ) (e f : Cause) → slice_get causes i ≡ Some e → slice_get causes j ≡ Some f → i < j → Before (seen e.at) (seen f.at)

-- two causes of one entry are the same
abbrev pub OneCause : Type 0
OneCause = (R : Lists) → Numbered R → (e f : Cause) → IsCause R e → IsCause R f → e.at ≡ f.at → e ≡ f
