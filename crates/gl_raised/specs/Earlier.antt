-- What the walks over the accesses, in the order of their numbers, know after the first i of them.
use Rattle.std.specs.Prelude.{◌≡◌, ℕ, ◌-◌, ◌<◌, ◌==◌, ◌⊎◌, true, false, if◌then◌else◌, List, slice_get, Some, ◌↔◌}
use Rattle.gl_core.specs.Cells.{cell}
use Rattle.gl_raised.specs.declared.access.Access.{Access}

-- one of the first i accesses
abbrev pub Earlier : List Access → ℕ → Access → Type 0
Earlier us i v = (j : ℕ) × (j < i) × (slice_get us j ≡ Some v)

-- what a commit hands on of thread u, where these are the clocks of the blocks: of its own thread all up to itself
abbrev pub handed_on : List (List ℕ) → Access → ℕ → ℕ
handed_on rows v u = if u == v.thread then cell rows v.tick u - 1 else cell rows v.tick u

-- a commit of x among the first i hands on more than n of thread u
abbrev pub IsHandedOn : List (List ℕ) → List Access → ℕ → ℕ → ℕ → ℕ → Type 0
IsHandedOn rows us i x u n =
    (v : Access) × Earlier us i v × (v.var ≡ x) × (v.commit ≡ true) × (v.performed ≡ true) × (n < handed_on rows v u)

-- a refused access of the claim k among the first i comes after a commit of its variable that hands on more than n of thread u
abbrev pub IsLearned : List (List ℕ) → List Access → ℕ → ℕ → ℕ → ℕ → Type 0
IsLearned rows us i k u n =
    (j : ℕ) × (w : Access) × (j < i) × (slice_get us j ≡ Some w) × (w.claim ≡ k) × (w.commit ≡ true) × (w.performed ≡ false)
    × IsHandedOn rows us j w.var u n

-- the variables know what their commits among the first i hand on
abbrev pub VariablesKnow : List (List ℕ) → List Access → ℕ → List (List ℕ) → Type 0
VariablesKnow rows us i learned = (x u n : ℕ) → (n < cell learned x u) ↔ IsHandedOn rows us i x u n

-- the claims know what they did before, and what their refused accesses among the first i learn
abbrev pub ClaimsKnow : List (List ℕ) → List Access → ℕ → List (List ℕ) → List (List ℕ) → Type 0
ClaimsKnow rows us i before after = (k u n : ℕ) → (n < cell after k u) ↔ ((n < cell before k u) ⊎ IsLearned rows us i k u n)
