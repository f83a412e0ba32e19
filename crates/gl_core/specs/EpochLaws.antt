-- The last write and each thread's last read since, as epochs, tell whether a next access is racy.
use Rattle.std.specs.Prelude.{◌≡◌, ℕ, Bool, true, false, List, Option, Some, None, ◌↔◌}
use Rattle.gl_model.specs.declared.event.Event.TheVariants.{Commit as Commits}
use Rattle.gl_model.specs.declared.event.Stamp.{Stamp}
use Rattle.gl_model.specs.declared.event.Element.TheVariants.{Thread}
use Rattle.gl_model.specs.Entries.{Entry}
use Rattle.gl_model.specs.Machine.{Setting, State, Allows, Running}
use Rattle.gl_model.specs.Records.{Writes}
use Rattle.gl_draws.specs.Draws.{Draw}
use Rattle.gl_draws.specs.NextRaces.{IsNextOn, IsRacyNext}
use Rattle.gl_draws.specs.Verdicts.{DrawsHold}
use Rattle.gl_clocks.specs.Clocks.{clocks, taken}
use Rattle.gl_core.specs.Marks.{Marks, latest_fails}
use Rattle.gl_core.specs.Stands.{LatestStands}

-- what thread u knows when it makes the next access: a plain one, or a commit on these variables
abbrev pub known_next : List Stamp → ℕ → Option (List ℕ) → ℕ → ℕ
known_next h u None = clocks h (Thread u)
known_next h u (Some xs) = taken (clocks h) (record { thread = u; event = Commits xs })

abbrev pub is_commit : Option (List ℕ) → Bool
is_commit None = false
is_commit (Some xs) = true

-- over draws of which all was said rightly, a next access is racy exactly where what is kept fails by what its thread knows
abbrev pub EpochsTell : Type 0
EpochsTell =
    (setting : Setting) (h : List Stamp) (now : State) → Allows setting h now → (u : ℕ) → now.threads u ≡ Running
    → (x : ℕ) (ds : List Draw) → DrawsHold h x ds →
    (l : Marks) → LatestStands x ds l → (v : Option (List ℕ)) (write : Bool) (f : Entry) → IsNextOn x v f → (write ≡ true) ↔ Writes f x →
    (latest_fails (known_next h u v) (is_commit v) write l ≡ true) ↔ IsRacyNext h x ds u v f
