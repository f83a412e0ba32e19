-- What stands first at each position of the list of events.
use Rattle.std.specs.Prelude.{◌≡◌, ℕ, ◌<◌, List, length, Option, None, slice_index_or}
use Rattle.std.specs.List.{find}
use Rattle.std.specs.Option.{option_map}
use Rattle.gl_model.specs.Entries.{Entry}
use Rattle.gl_model.specs.Report.{is_event_at}

-- each slot has the first of the entries that has the slot's place as its position, if one has
abbrev pub AreFirsts : {A : Type 0} → (A → Entry) → List Entry → List (Option A) → Type 0
AreFirsts v es slots = (p : ℕ) → p < length slots → option_map v (slice_index_or slots p None) ≡ find (is_event_at p) es
