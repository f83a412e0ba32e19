-- A thread enters a monitor.
use Rattle.std.specs.Prelude.{◌≡◌, ◌≢◌, ℕ, ◌+◌, ◌<◌, ◌^◌, Option, Some, None, slice_index_or, slice_set, length}
use Rattle.gl_state.specs.ListView.{ListView}

-- owner and depth, entered once more by t
abbrev pub EnteredAs : ℕ → Option (ℕ × ℕ) → ℕ × ℕ → Type 0
EnteredAs t None m = m ≡ (t, 1)
EnteredAs t (Some o) m = (o.0 ≡ t) × (m ≡ (t, o.1 + 1))

abbrev pub monitor_of : ListView → ℕ → Option (ℕ × ℕ)
monitor_of l o = slice_index_or l.monitors o None

pub record Enters (t o : ℕ) (l l' : ListView) : Type 0 where
  pub near : o < length l.monitors
  pub next : ℕ × ℕ
  pub entered : EnteredAs t (monitor_of l o) next
  pub is : l' ≡ record l { monitors = slice_set l.monitors o (Some next) }

-- the monitor was not entered so often that it could not be counted
pub record IsShallow (l : ListView) (o : ℕ) : Type 0 where
  pub few : (m : ℕ × ℕ) → monitor_of l o ≡ Some m → m.1 < 2 ^ 62

-- another thread owns it
pub record IsOfOther (l : ListView) (o t owner : ℕ) : Type 0 where
  pub depth : ℕ
  pub owned : monitor_of l o ≡ Some (owner, depth)
  pub other : owner ≢ t
