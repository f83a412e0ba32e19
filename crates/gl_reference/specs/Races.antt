-- The race law of a next access, said of the list of events and of all performed accesses so far.
use Rattle.std.specs.Prelude.{◌≡◌, ◌≢◌, ◌<◌, ℕ, List, true, slice_get, Contains, Option, Some, None, ◌⊎◌, ◌↔◌}
use Rattle.gl_model.specs.declared.event.Stamp.{Stamp}
use Rattle.gl_model.specs.Next.{HappensBeforeNext}
use Rattle.gl_reference.specs.Steps.{access_of}
use Rattle.gl_reference.specs.declared.races.Performed.{Performed}
use Rattle.gl_reference.specs.declared.races.Next.{Next}

-- both are of one variable and of two threads, one writes it, and they are not both parts of commits
abbrev pub Conflicts : Performed → Next → Type 0
Conflicts p n =
    (((p.var ≡ n.var) × (p.access.thread ≢ n.thread)) × ((p.write ≡ true) ⊎ (n.write ≡ true)))
    × ((p.access.variables ≡ None) ⊎ (n.variables ≡ None))

-- the next access conflicts with the performed one, which does not happen before it
abbrev pub RacesWith : List Stamp → Next → Performed → Type 0
RacesWith h n p = Conflicts p n × (HappensBeforeNext h (access_of p.access) n.thread n.variables → ⊥)

-- the next access races with one of these
abbrev pub IsRacyNext : List Stamp → List Performed → Next → Type 0
IsRacyNext h ps n = (i : ℕ) × ((p : Performed) × (slice_get ps i ≡ Some p) × RacesWith h n p)

-- the access of x that is part of thread t's next commit on these variables, which writes those
abbrev pub IsPartOf : ℕ → List ℕ → List ℕ → ℕ → Next → Type 0
IsPartOf t variables writes x n = (n.thread ≡ t) × (n.var ≡ x) × (n.variables ≡ Some variables) × ((n.write ≡ true) ↔ Contains writes x)

-- the next commit is racy on x
abbrev pub IsRacyPart : List Stamp → List Performed → ℕ → List ℕ → List ℕ → ℕ → Type 0
IsRacyPart h ps t variables writes x = (n : Next) × IsPartOf t variables writes x n × IsRacyNext h ps n

-- it is racy on this one and on none before it, or on none
abbrev pub IsFirstRacy : List Stamp → List Performed → ℕ → List ℕ → List ℕ → Option ℕ → Type 0
IsFirstRacy h ps t variables writes None = (k : ℕ) (y : ℕ) → slice_get variables k ≡ Some y → IsRacyPart h ps t variables writes y → ⊥
IsFirstRacy h ps t variables writes (Some x) =
    (i : ℕ) × (slice_get variables i ≡ Some x) × IsRacyPart h ps t variables writes x ×
    ((k : ℕ) (y : ℕ) → k < i → slice_get variables k ≡ Some y → IsRacyPart h ps t variables writes y → ⊥)
