-- Which of two places of a record comes first, and the first place where something fails.
use Rattle.std.specs.Prelude.{◌≡◌, ℕ, ◌<◌, ◌⊎◌, ◌↔◌, List, slice_get, Some}
use Rattle.gl_model.specs.declared.event.Stamp.{Stamp}
use Rattle.gl_model.specs.Records.{IsEventAt, Lists, Place}
use Rattle.gl_places.specs.declared.place.Place.{Place as StoredPlace}

-- a place of the program, as definitions see it
abbrev pub seen : StoredPlace → Place
seen c = record { thread = c.thread; index = c.index }

-- by thread, then by place
abbrev pub Before : Place → Place → Type 0
Before c d = (c.thread < d.thread) ⊎ ((c.thread ≡ d.thread) × (c.index < d.index))

-- the first place, in an order, where something fails
abbrev pub IsFirstBy : (Place → Place → Type 0) → (Place → Type 0) → Place → Type 0
IsFirstBy Earlier Fails c = Fails c × ((d : Place) → Fails d → Earlier d c → ⊥)

-- the places of the record's events, by position: at p stands the place of the event with position p, and no event is left out
abbrev pub AreEventPlaces : Lists → List Place → Type 0
AreEventPlaces R cs = (p : ℕ) (c : Place) → (slice_get cs p ≡ Some c) ↔ ((s : Stamp) × IsEventAt R c p s)
