-- How often the thread of a list is in each monitor, read off its entries, and what that says of each list of events that has them.
use Rattle.std.specs.Prelude.{◌≡◌, ◌⊎◌, ◌↔◌, ℕ, ◌+◌, ◌-◌, ◌<◌, ◌≤◌, List, [], ◌∷◌, length, replicate, slice_index, slice_index_or, slice_set, Contains}
use Rattle.std.specs.List.{All}
use Rattle.std.specs.List.Sorted.{IsStrictlyIncreasing}
use Rattle.gl_model.specs.declared.event.Act.{Act}
use Rattle.gl_model.specs.declared.event.Act.TheVariants.{Begin, End, Acq, Rel, VRead, VWrite, Fork, Join, Alloc, Print, Input, Fail}
use Rattle.gl_model.specs.declared.event.Stamp.{Stamp}
use Rattle.gl_model.specs.declared.limits.TheConstants.{MONITORS, HELD}
use Rattle.gl_model.specs.declared.row.Question.{Question}
use Rattle.gl_model.specs.Entries.{Entry, Sync, Commit, Plain, Abort, Trim, Over}
use Rattle.gl_model.specs.Infos.{AreLeastOwned, QuestionOf}
use Rattle.gl_model.specs.Kept.{IsEntryKept}
use Rattle.gl_model.specs.Machine.{Setting, State, Owned, Allows}
use Rattle.gl_draws.specs.Events.{AreEvents}
use Rattle.gl_rule.specs.Lives.{Running, life_of}

-- after an act
abbrev pub levels_act : List ℕ → Act → List ℕ
levels_act levels (Begin f) = levels
levels_act levels End = levels
levels_act levels (Acq o) = slice_set levels o (slice_index levels o + 1)
levels_act levels (Rel o) = slice_set levels o (slice_index levels o - 1)
levels_act levels (VRead v) = levels
levels_act levels (VWrite v) = levels
levels_act levels (Fork u f) = levels
levels_act levels (Join u) = levels
levels_act levels (Alloc c) = levels
levels_act levels Print = levels
levels_act levels Input = levels
levels_act levels (Fail k) = levels

-- after an entry
abbrev pub levels_entry : List ℕ → Entry → List ℕ
levels_entry levels (Sync at act value) = levels_act levels act
levels_entry levels (Commit at tx) = levels
levels_entry levels (Plain var nth cached write value raised) = levels
levels_entry levels (Abort tx why) = levels
levels_entry levels (Trim low) = levels
levels_entry levels (Over ending) = levels

abbrev pub levels_from : List ℕ → List Entry → List ℕ
levels_from levels [] = levels
levels_from levels (e ∷ es) = levels_from (levels_entry levels e) es

-- of a whole list: at the start it is in none
unfoldable pub levels_of : List Entry → List ℕ
levels_of es = levels_from (replicate MONITORS 0) es

-- these are the least monitors that are entered at these levels: all of them, or as many as are kept, and the others are above them
pub record AreLeastEntered (levels held : List ℕ) : Type 0 where
  pub rising : IsStrictlyIncreasing held
  pub entered : (o : ℕ) → Contains held o → 0 < slice_index levels o
  pub at_most_four : length held ≤ HELD
  pub least : (o : ℕ) → 0 < slice_index levels o → Contains held o ⊎ ((length held ≡ HELD) × ((m : ℕ) → Contains held m → m < o))

-- behind each list of events that has the entries of thread t, it owns a monitor exactly as often as they say
abbrev pub LevelsTell : Type 0
LevelsTell =
    (setting : Setting) (h : List Stamp) (now : State) (t : ℕ) (es : List Entry) → Allows setting h now → AreEvents h t es → (o d : ℕ)
    → o < MONITORS →
    (now.monitors o ≡ Owned t d) ↔ ((slice_index_or (levels_of es) o 0 ≡ d) × (0 < d))

-- and the least that it owns are those by its entries, whose ids are ones that there are
abbrev pub MonitorsTell : Type 0
MonitorsTell =
    (setting : Setting) (h : List Stamp) (now : State) (t : ℕ) (es : List Entry) → Allows setting h now → AreEvents h t es
    → All IsEntryKept es → (held : List ℕ) →
    AreLeastEntered (levels_of es) held → AreLeastOwned now t held

-- a question of a thread that runs by its own entries, with the least monitors that it owns, is of a next access behind each list that
-- has its entries
abbrev pub QuestionsTell : Type 0
QuestionsTell =
    (setting : Setting) (h : List Stamp) (now : State) (t : ℕ) (es : List Entry) → Allows setting h now → AreEvents h t es → life_of es
    ≡ Running → (q : Question) → q.thread ≡ t →
    AreLeastOwned now t q.held → QuestionOf setting h q q.thread q.write q.commit
