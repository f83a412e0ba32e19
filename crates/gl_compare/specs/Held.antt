-- Who owns a monitor behind a list of events.
use Rattle.std.specs.Prelude.{◌≡◌, ℕ, ◌<◌, ◌≤◌, List, length, Contains, true, None, ◌⊎◌}
use Rattle.std.specs.List.{fold}
use Rattle.std.specs.List.Sorted.{IsStrictlyIncreasing}
use Rattle.gl_model.specs.declared.event.Event.{Event}
use Rattle.gl_model.specs.declared.event.Event.TheVariants.{Act as Does, Commit as Commits}
use Rattle.gl_model.specs.declared.event.Stamp.{Stamp}
use Rattle.gl_model.specs.declared.limits.TheConstants.{HELD}
use Rattle.gl_model.specs.TraceSteps.{Hold, act_leaves, is_held_by}

-- what an event of thread t leaves of the monitor m
abbrev pub happens : ℕ → ℕ → Event → Hold → Hold
happens m t (Does act) held = act_leaves m t act held
happens m t (Commits xs) held = held

abbrev pub event_leaves : ℕ → Stamp → Hold → Hold
event_leaves m s held = happens m s.thread s.event held

-- the owner of the monitor m behind these events and how often it has entered it, if it has an owner
abbrev pub hold_of : ℕ → List Stamp → Hold
hold_of m h = fold (λ held s. event_leaves m s held) None h

-- the least monitors that thread t owns: all of them, or as many as are kept, and the others are above them
pub record AreLeastHeld (holds : ℕ → Hold) (t : ℕ) (held : List ℕ) : Type 0 where
  pub rising : IsStrictlyIncreasing held
  pub owned : (m : ℕ) → Contains held m → is_held_by t (holds m) ≡ true
  pub few : length held ≤ HELD
  pub least : (m : ℕ) → is_held_by t (holds m) ≡ true → Contains held m ⊎ ((length held ≡ HELD) × ((k : ℕ) → Contains held k → k < m))
