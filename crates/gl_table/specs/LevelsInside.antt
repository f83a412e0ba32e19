-- The levels of a thread's monitors: what is kept of them, and what is true of it.
use Rattle.std.specs.Prelude.{◌≡◌, ◌⊎◌, ℕ, ◌<◌, List, Contains, length, slice_index}
use Rattle.std.specs.List.Sorted.{IsStrictlyIncreasing}
use Rattle.gl_model.specs.declared.limits.TheConstants.{MONITORS}
use Rattle.gl_rule.specs.Levels.{AreLeastEntered}
use Rattle.gl_table.specs.declared.levels.Levels.TheInside.{Inside}

abbrev pub levels_view : Inside → List ℕ
levels_view l = l.counts.items

pub record AreLevels (l : Inside) : Type 0 where
  pub long : length l.counts.items ≡ MONITORS
  pub least : AreLeastEntered l.counts.items l.least

-- these are the least monitors at levels behind which one more is entered
pub record HasEntered (held levels : List ℕ) (monitor : ℕ) : Type 0 where
  pub before : List ℕ
  pub least : AreLeastEntered before held
  pub entered : 0 < slice_index levels monitor
  pub kept : (o : ℕ) → 0 < slice_index before o → 0 < slice_index levels o
  pub alone : (o : ℕ) → 0 < slice_index levels o → (o ≡ monitor) ⊎ (0 < slice_index before o)

-- these are the least monitors at levels behind which no other is entered
pub record HasLeft (held levels : List ℕ) : Type 0 where
  pub before : List ℕ
  pub long : length before ≡ MONITORS
  pub least : AreLeastEntered before held
  pub none : (o : ℕ) → 0 < slice_index levels o → 0 < slice_index before o

-- each monitor that is entered is one of these
pub record AreCandidates (levels monitors : List ℕ) : Type 0 where
  pub rising : IsStrictlyIncreasing monitors
  pub near : (o : ℕ) → Contains monitors o → o < MONITORS
  pub all : (o : ℕ) → 0 < slice_index levels o → Contains monitors o
