-- Positions: the tail counts the events, and each list has its thread's events in their order and a form that it may have so far.
use Rattle.std.specs.Prelude.{◌≡◌, ℕ, ◌<◌, ◌≤◌, List, length}
use Rattle.std.specs.List.{All}
use Rattle.gl_model.specs.declared.event.Stamp.{Stamp}
use Rattle.gl_model.specs.declared.limits.TheConstants.{THREADS}
use Rattle.gl_model.specs.Elements.{IsStampInRange}
use Rattle.gl_draws.specs.Events.{AreEvents}
use Rattle.gl_draws.specs.Forming.{events_by, IsFormed}
use Rattle.gl_draws.specs.Ties.{counted}
use Rattle.gl_rule.specs.View.{View, Shelf}
use Rattle.gl_rule.specs.Bounded.{most_entries}

-- the tail counts the events, each of which is in range, and no thread made so many that a count of them wraps
pub record PositionsHold (tail : ℕ) (log : List Stamp) : Type 0 where
  pub count : tail ≡ length log
  pub kept : All IsStampInRange log
  pub few : (t : ℕ) → events_by t log ≤ most_entries

-- the list of one thread, which seat j has
pub record ShelfFits (log : List Stamp) (seat : ℕ → ℕ) (j : ℕ) (s : Shelf) : Type 0 where
  pub here : seat s.thread ≡ j
  pub named : s.thread < THREADS
  pub events : AreEvents log s.thread s.marked
  pub form : IsFormed s.thread s.marked
  pub made : events_by s.thread log ≤ counted s.marked

pub record PositionsFit (log : List Stamp) (seat : ℕ → ℕ) (j : ℕ) (v : View) : Type 0 where
  pub shelves : All (ShelfFits log seat j) v.shelves
