-- What is found of the refused entries among the entries of a record R that is laid out, where these are the clocks of the blocks.
use Rattle.std.specs.Prelude.{◌≡◌, ℕ, ◌+◌, ◌<◌, List, length, slice_get, Some}
use Rattle.gl_core.specs.Cells.{at}
use Rattle.gl_model.specs.Records.{Lists}
use Rattle.gl_places.specs.Places.{Before, seen}
use Rattle.gl_places.specs.declared.place.Place.{Place as StoredPlace}
use Rattle.gl_causes.specs.declared.cause.Cause.{Cause}
use Rattle.gl_causes.specs.declared.races.Asked.{Asked}
use Rattle.gl_causes.specs.declared.refusals.Refusal.{Refusal}
use Rattle.gl_causes.specs.Judging.{IsLatest, race_number, races_among, refusal_of}
use Rattle.gl_causes.specs.Leading.{IsPlacePassed}
use Rattle.gl_causes.specs.Learning.{Knows}
use Rattle.gl_causes.specs.Stands.{Stand}

-- this is asked of the entry that stands so and was so refused
pub record IsAsked (rows : List (List ℕ)) (stands : List Stand) (s : Stand) (r : Refusal) (a : Asked) : Type 0 where
  pub thread : a.thread ≡ s.place.thread
  pub refusal : a.refusal ≡ r
  pub knows : Knows rows stands s.block s.entry a.known

-- something races with it
abbrev pub HasRace : Asked → List Stand → Type 0
HasRace a stands = (i : ℕ) × ((s : Stand) × ((k : ℕ) × ((slice_get stands i ≡ Some s) × (race_number a s ≡ Some k))))

-- so it is with each refused entry
abbrev pub HaveRaces : List (List ℕ) → List Stand → Type 0
HaveRaces rows stands = (i : ℕ) (s : Stand) (r : Refusal) (a : Asked) → slice_get stands i ≡ Some s → refusal_of s.entry ≡ Some r
    → IsAsked rows stands s r a → HasRace a stands

-- this is found of what is asked of the entry at the place
pub record IsFound (R : Lists) (a : Asked) (stands : List Stand) (place : StoredPlace) (e : Cause) : Type 0 where
  pub at_is : e.at ≡ place
  pub var_is : e.var ≡ a.refusal.var
  pub nth : ℕ
  pub last : IsLatest a stands (Some (record { place = e.other; nth = nth }))
  pub others : length (races_among a stands) ≡ e.others + 1
  pub leading : IsPlacePassed (R e.other.thread) e.other.thread (at a.known e.other.thread) e.leading

-- it is of a refused one of the first n
pub record IsOfRefused (R : Lists) (rows : List (List ℕ)) (stands : List Stand) (n : ℕ) (e : Cause) : Type 0 where
  pub index : ℕ
  pub stand : Stand
  pub refusal : Refusal
  pub asked : Asked
  pub near : index < n
  pub there : slice_get stands index ≡ Some stand
  pub refused : refusal_of stand.entry ≡ Some refusal
  pub place : seen e.at ≡ stand.place
  pub is_asked : IsAsked rows stands stand refusal asked
  pub found : IsFound R asked stands e.at e

-- these are of the refused ones of the first n
pub record AreFound (R : Lists) (rows : List (List ℕ)) (stands : List Stand) (n : ℕ) (causes : List Cause) : Type 0 where
  pub each : (j : ℕ) (e : Cause) → slice_get causes j ≡ Some e → IsOfRefused R rows stands n e
  pub all : (i : ℕ) (s : Stand) (r : Refusal) → i < n → slice_get stands i ≡ Some s → refusal_of s.entry ≡ Some r → (j : ℕ) × ((e : Cause)
      × (slice_get causes j ≡ Some e) × (seen e.at ≡ s.place))
  pub rising :
      ((i j : ℕ) (r s : Stand) → slice_get stands i ≡ Some r → slice_get stands j ≡ Some s → i < j → Before r.place s.place) →
      (i j : ℕ) (e f : Cause) → slice_get causes i ≡ Some e → slice_get causes j ≡ Some f → i < j → Before (seen e.at) (seen f.at)
