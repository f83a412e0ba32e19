-- What the judge knows after the first i accesses.
use Rattle.std.specs.Prelude.{◌≡◌, ◌≢◌, ℕ, ◌<◌, ◌≤◌, ◌⊎◌, ◌↔◌, Bool, true, false, min, List, slice_get, Option, Some, None}
use Rattle.gl_core.specs.Cells.{cell}
use Rattle.gl_model.specs.declared.limits.TheConstants.{THREADS}
use Rattle.gl_raised.specs.Earlier.{Earlier}
use Rattle.gl_raised.specs.Lasts.{at_least, mark_of}
use Rattle.gl_raised.specs.declared.access.Access.{Access}
use Rattle.gl_raised.specs.declared.lasts.Lasts.{Lasts}

-- thread t performed an access of x of the kind, among the first i, at the tick n or later
abbrev pub IsPerformedSince : List Access → ℕ → ℕ → ℕ → Bool → Bool → ℕ → Type 0
IsPerformedSince us i x t commit write n =
    (v : Access) × Earlier us i v × (v.var ≡ x) × (v.thread ≡ t) × (v.performed ≡ true) × (v.commit ≡ commit) × (v.write ≡ write)
    × (n ≤ v.tick)

-- the marks of each variable are those of the first i accesses
abbrev pub AreLasts : List Access → ℕ → List Lasts → Type 0
AreLasts us i lasts =
    (x t n : ℕ) (commit write : Bool) (l : Lasts) → slice_get lasts x ≡ Some l
    → (at_least (mark_of l commit write t) n ≡ true) ↔ IsPerformedSince us i x t commit write n

-- one of two accesses writes, and one is plain
abbrev pub Conflicts : Access → Access → Type 0
Conflicts v u = ((v.write ≡ true) ⊎ (u.write ≡ true)) × ((v.commit ≡ false) ⊎ (u.commit ≡ false))

-- among the first i is a performed access of another thread that conflicts with u and is not known to it
abbrev pub IsRacyBy : List (List ℕ) → List Access → ℕ → Access → Type 0
IsRacyBy known us i u =
    (v : Access) × Earlier us i v × (v.var ≡ u.var) × (v.thread ≢ u.thread) × (v.performed ≡ true) × Conflicts v u
    × (cell known u.claim v.thread ≤ v.tick)

-- among the first i is an access of x of the claim k that is racy by those before it
abbrev pub IsRacyClaim : List (List ℕ) → List Access → ℕ → ℕ → ℕ → Type 0
IsRacyClaim known us i k x =
    (j : ℕ) × (u : Access) × (j < i) × (slice_get us j ≡ Some u) × (u.claim ≡ k) × (u.var ≡ x) × IsRacyBy known us j u

-- the least number that has the property, if any has it
abbrev pub IsLeast : (ℕ → Type 0) → Option ℕ → Type 0
IsLeast P None = (x : ℕ) → P x → ⊥
IsLeast P (Some x) = P x × ((y : ℕ) → y < x → P y → ⊥)

-- of each claim the least variable on which it is racy
abbrev pub AreLeast : List (List ℕ) → List Access → ℕ → List (Option ℕ) → Type 0
AreLeast known us i least = (k : ℕ) (o : Option ℕ) → slice_get least k ≡ Some o → IsLeast (IsRacyClaim known us i k) o

abbrev pub least_of : Option ℕ → ℕ → Option ℕ
least_of None x = Some x
least_of (Some before) x = Some (min before x)

-- each access is of a thread that there is
abbrev pub AreOfThreads : List Access → Type 0
AreOfThreads us = (j : ℕ) (v : Access) → slice_get us j ≡ Some v → v.thread < THREADS
