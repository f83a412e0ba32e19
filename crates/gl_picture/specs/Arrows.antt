-- Which rows lead to which. A row is a line of the trace that is drawn; the rows stand in the order of the trace.
use Rattle.std.specs.Prelude.{◌≡◌, ◌≢◌, ◌⊎◌, ℕ, ◌+◌, ◌<◌, ◌≤◌, false, if◌then◌else◌, List, [], ◌∷◌, ◌++◌, length, slice_get, Option, Some, None}
use Rattle.gl_model.specs.declared.event.Act.TheVariants.{Begin, End}
use Rattle.gl_model.specs.declared.event.Event.{Event}
use Rattle.gl_model.specs.declared.event.Event.TheVariants.{Act as Does, Commit}
use Rattle.gl_model.specs.declared.event.Stamp.{Stamp}
use Rattle.gl_model.specs.declared.row.Item.{Item}
use Rattle.gl_model.specs.declared.row.Item.TheVariants.{Act as Acts, Access, Commit as CommitsOn}
use Rattle.gl_model.specs.Edges.{SynchronizesWith}
use Rattle.gl_model.specs.Rising.{with_all}
use Rattle.gl_model.specs.TraceSteps.{is_too_wide}
use Rattle.gl_trace.specs.Verdicts.{is_race}
use Rattle.gl_explain.specs.declared.told.Told.{Told}

-- the event that a line makes, or would have made: an access that is no commit makes none
abbrev pub event_of : Item → Option Event
event_of (Acts act) = Some (Does act)
event_of (Access x write) = None
event_of (CommitsOn reads writes) = Some (Commit (with_all writes reads))

-- the event by which it hands on: what is raised was not performed
abbrev pub handed_of : Told → Option Event
handed_of k = if is_race k.judged then None else event_of k.item

abbrev pub stamped : ℕ → Event → Stamp
stamped t e = record { thread = t; event = e }

-- one of the rows from one place up to another is of thread t
abbrev pub HasRow : List Told → ℕ → ℕ → ℕ → Type 0
HasRow rows t from to = (i : ℕ) × (k : Told) × (from ≤ i) × (i < to) × (slice_get rows i ≡ Some k) × (k.thread ≡ t)

-- the row i, which is the line a, synchronizes with the later row j, which is the line b
pub data Leads (rows : List Told) (a b : Told) (i j : ℕ) : Type 0 where
  -- by their own events
  by_events : (e f : Event) → handed_of a ≡ Some e → event_of b.item ≡ Some f
      → SynchronizesWith (stamped a.thread e) (stamped b.thread f) → Leads rows a b i j
  -- a thread begins before its first row
  to_first : (e : Event) → handed_of a ≡ Some e → (HasRow rows b.thread 0 j → ⊥)
      → SynchronizesWith (stamped a.thread e) (stamped b.thread (Does (Begin 0))) → Leads rows a b i j
  -- and ends behind its last row
  from_last : (f : Event) → event_of b.item ≡ Some f → (HasRow rows a.thread (i + 1) (length rows) → ⊥)
      → SynchronizesWith (stamped a.thread (Does End)) (stamped b.thread f) → Leads rows a b i j

-- the row k, which is the line c, stands between: it is one of i's thread and leads to j, or one of j's thread and i leads to it
abbrev pub IsBetween : List Told → Told → Told → ℕ → ℕ → ℕ → Told → Type 0
IsBetween rows a b i j k c = ((c.thread ≡ a.thread) × Leads rows c b k j) ⊎ ((c.thread ≡ b.thread) × Leads rows a c i k)

-- an arrow is drawn from row i to row j: i synchronizes with j, which is a later row of another thread, and no row stands between
pub record IsArrow (rows : List Told) (i j : ℕ) : Type 0 where
  pub first : Told
  pub second : Told
  pub there : slice_get rows i ≡ Some first
  pub here : slice_get rows j ≡ Some second
  pub before : i < j
  pub apart : first.thread ≢ second.thread
  pub leads : Leads rows first second i j
  pub nearest : (k : ℕ) (c : Told) → i < k → k < j → slice_get rows k ≡ Some c → IsBetween rows first second i j k c → ⊥

-- of the numbers below n these are such, rising
pub data Selects (P : ℕ → Type 0) : ℕ → List ℕ → Type 0 where
  none_yet : Selects P 0 []
  one_more : (n : ℕ) (ns : List ℕ) → Selects P n ns → P n → Selects P (n + 1) (ns ++ n ∷ [])
  not_one : (n : ℕ) (ns : List ℕ) → Selects P n ns → (P n → ⊥) → Selects P (n + 1) ns

-- no row is a commit of more variables than a transaction may have
abbrev pub AreNarrow : List Told → Type 0
AreNarrow rows = (i : ℕ) (k : Told) → slice_get rows i ≡ Some k → is_too_wide k.item ≡ false
