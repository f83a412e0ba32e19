-- Tries: what passes read of the turns and of the stop word is so for good. Who was read as holding a turn has taken it, by what its own
-- pass says; and the stop word rises only.
use Rattle.std.specs.Prelude.{◌≡◌, ◌≢◌, ℕ, suc, ◌<◌, ◌≤◌, List, [], ◌∷◌, Contains}
use Rattle.std.specs.List.{All}
use Rattle.gl_rule.specs.declared.slot.Slot.{Slot}
use Rattle.gl_rule.specs.Objects.{objects}
use Rattle.gl_rule.specs.View.{Shelf, Read, Busy, Taken, Hold, Stop, SetStop}

-- `stopped` is the stop word as it is by now, and takers has the threads that took the turn of each object
abbrev pub TryFits : ℕ → (ℕ → List ℕ) → Read → Type 0
TryFits stopped takers (Busy k by) = Contains (takers k) by
TryFits stopped takers (Taken k y) = Unit {0}
TryFits stopped takers (Hold k n) = Unit {0}
TryFits stopped takers (Stop n) = n ≤ stopped
TryFits stopped takers SetStop = stopped ≡ 1

-- by these reads the thread has taken each object of which it is a taker
abbrev pub TellsTaken : (ℕ → List ℕ) → List Read → Shelf → Type 0
TellsTaken takers reads s = (k : ℕ) → Contains (takers k) s.thread → (y : Slot) × Contains reads (Taken k y)

pub record TriesFit (stopped : ℕ) (takers : ℕ → List ℕ) (shelves : List Shelf) (reads : List Read) : Type 0 where
  pub each : All (TryFits stopped takers) reads
  pub taken : All (TellsTaken takers reads) shelves
  -- a pass never reads a turn as held by itself
  pub others : (s : Shelf) (k by : ℕ) → shelves ≡ s ∷ [] → Contains reads (Busy k by) → by ≢ s.thread

-- who has a turn has taken it; and the stop word is 0 or 1
pub record TriesHold (turn : ℕ → ℕ) (stop stopped : ℕ) (takers : ℕ → List ℕ) : Type 0 where
  pub named : (k t : ℕ) → k < objects → turn k ≡ suc t → Contains (takers k) t
  pub word : stop ≡ stopped
  pub least : stopped ≤ 1
