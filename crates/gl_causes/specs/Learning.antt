-- What a refused attempt learns from the commits that are before it on its variables.
use Rattle.std.specs.Prelude.{◌≡◌, ℕ, ◌-◌, ◌<◌, ◌==◌, ◌⊎◌, ◌↔◌, nat_lt, Bool, true, false, if◌then◌else◌, List, [], slice_get, Option, Some, None}
use Rattle.std.specs.List.{list_any}
use Rattle.gl_core.specs.Cells.{at, cell}
use Rattle.gl_model.specs.Entries.{Entry, Sync, Commit, Plain, Abort, Trim, Over}
use Rattle.gl_model.specs.declared.tx.Number.{Number}
use Rattle.gl_causes.specs.Judging.{number_on}
use Rattle.gl_causes.specs.Stands.{Stand}

abbrev pub is_lower_than : ℕ → Option ℕ → Bool
is_lower_than k None = false
is_lower_than k (Some own) = nat_lt own k

-- on some variable of both the first has a lower number
abbrev pub is_lower : List Number → List Number → Bool
is_lower earlier later = list_any (λ n. is_lower_than n.nth (number_on earlier n.var)) later

-- the entry is a commit that has a lower number on some variable of both
abbrev pub commits_before : List Number → Entry → Bool
commits_before later (Sync at act value) = false
commits_before later (Commit at tx) = is_lower tx.numbers later
commits_before later (Plain var nth cached write value raised) = false
commits_before later (Abort tx why) = false
commits_before later (Trim low) = false
commits_before later (Over ending) = false

-- what a commit hands on of thread u, where these are the clocks of the blocks: of its own thread all up to itself
abbrev pub handed_on : List (List ℕ) → Stand → ℕ → ℕ
handed_on rows s u = if u == s.place.thread then cell rows s.block u - 1 else cell rows s.block u

-- one of these commits hands on more than n of thread u
abbrev pub IsLearned : List (List ℕ) → List Stand → List Number → ℕ → ℕ → Type 0
IsLearned rows stands later u n =
    (i : ℕ) × ((s : Stand) × (slice_get stands i ≡ Some s) × (commits_before later s.entry ≡ true) × (n < handed_on rows s u))

-- the numbers of a refused attempt
abbrev pub refused_numbers : Entry → List Number
refused_numbers (Sync at act value) = []
refused_numbers (Commit at tx) = []
refused_numbers (Plain var nth cached write value raised) = []
refused_numbers (Abort tx why) = tx.numbers
refused_numbers (Trim low) = []
refused_numbers (Over ending) = []

-- what is known by its thread where the entry stands in this block: what its block knows, and what it learns
abbrev pub Knows : List (List ℕ) → List Stand → ℕ → Entry → List ℕ → Type 0
Knows rows stands block f known =
    (u n : ℕ) → (n < at known u) ↔ ((n < cell rows block u) ⊎ IsLearned rows stands (refused_numbers f) u n)
