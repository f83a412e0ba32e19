-- What is told of an object that was taken.
use Rattle.std.specs.Prelude.{◌≡◌, ℕ, zero, suc, ◌<◌, ◌≤◌, List, [], ◌∷◌, length, Some, slice_get}
use Rattle.std.specs.List.{All}
use Rattle.gl_model.specs.declared.event.Stamp.{Stamp}
use Rattle.gl_model.specs.declared.limits.TheConstants.{THREADS}
use Rattle.gl_model.specs.Machine.{Setting, State, Allows}
use Rattle.gl_draws.specs.Events.{AreEvents}
use Rattle.gl_rule.specs.declared.slot.Slot.{Slot}
use Rattle.gl_rule.specs.declared.slot.Slot.TheVariants as slot
use Rattle.gl_state.specs.ListView.{ListView}
use Rattle.gl_draws.specs.Forming.{events_by}
use Rattle.gl_state.specs.States.{IsStateOf}
use Rattle.gl_rule.specs.View.{View, Shelf}
use Rattle.gl_rule.specs.Bounded.{most_entries}

-- the list's state is that after some list of events, which the pass can not tell from the one in the table
pub record StateTold (setting : Setting) (v : View) (l : ListView) : Type 0 where
  pub log : List Stamp
  pub now : State
  pub allowed : Allows setting log now
  pub is : IsStateOf l now
  pub shelf : Shelf
  pub one : v.shelves ≡ shelf ∷ []
  pub named : shelf.thread < THREADS
  pub own : AreEvents log shelf.thread shelf.marked
  pub later : v.seen ≤ length log
  -- the events that the pass knows stand in their places
  pub known : All (λ (k : ℕ × Stamp). slice_get log k.0 ≡ Some k.1) v.known
  pub few : (t : ℕ) → events_by t log ≤ most_entries

-- the list's slot has a list's state, and a row's slot a row
abbrev pub TakenTold : Setting → View → ℕ → Slot → Type 0
TakenTold setting v zero (slot.List l) = StateTold setting v l
TakenTold setting v (suc x) (slot.Row row) = Unit {0}
TakenTold setting v zero (slot.Row row) = ⊥
TakenTold setting v zero slot.Empty = ⊥
TakenTold setting v (suc x) (slot.List l) = ⊥
TakenTold setting v (suc x) slot.Empty = ⊥
