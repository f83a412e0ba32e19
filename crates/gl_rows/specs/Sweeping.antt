-- A pass that makes room in the ring.
use Rattle.std.specs.Prelude.{◌≡◌, ◌≢◌, ◌⊎◌, ℕ, suc, ◌+◌, ◌/◌, ◌*◌, max, ◌<◌, ◌≤◌, List, [], ◌∷◌, ◌++◌, Contains}
use Rattle.gl_model.specs.declared.limits.TheConstants.{VARIABLES}
use Rattle.gl_rule.specs.View.{Read, Hold, Busy}
use Rattle.gl_table.specs.PassView.{PassView}
use Rattle.gl_table.specs.TableView.{TableView}
use Rattle.gl_events.specs.Settling.{trims}
use Rattle.gl_rows.specs.Costs.{CostsAtMost}

-- by these reads of pass t the hold of x's row is at least the position, or its turn was read as held by another pass
abbrev pub IsFar : ℕ → ℕ → ℕ → List Read → Type 0
IsFar t x to reads =
    ((m : ℕ) × Contains reads (Hold (suc x) m) × (to ≤ m)) ⊎ ((by : ℕ) × Contains reads (Busy (suc x) by) × (by ≢ t))

-- nothing of the pass's own changed
pub record IsStill (p q : PassView) : Type 0 where
  pub own : q.own ≡ p.own
  pub spare : q.spare ≡ p.spare
  pub quiet : q.quiet ≡ p.quiet
  pub later : p.seen ≤ q.seen

-- x's row was tried
pub record IsTried (x to : ℕ) (p q : PassView) : Type 0 where
  pub still : IsStill p q
  pub further : List Read
  pub reads : q.reads ≡ p.reads ++ further
  pub far : IsFar p.own.id x to further
  pub cost : CostsAtMost 9 p q

-- the rows of the variables below k were tried
pub record AreTried (k to : ℕ) (p q : PassView) : Type 0 where
  pub still : IsStill p q
  pub further : List Read
  pub reads : q.reads ≡ p.reads ++ further
  pub far : (x : ℕ) → x < k → IsFar p.own.id x to further
  pub cost : CostsAtMost (9 * k) p q

-- the segment is at least that of the tail, or, of a row whose turn pass t read as held by another as it tried the rows, at least that of
-- its hold, as it was loaded after the tries
abbrev pub Reaches : ℕ → ℕ → ℕ → ℕ → List Read → List Read → Type 0
Reaches t cells tail low tries holds =
    (tail / cells ≤ low) ⊎ ((x : ℕ) × (by : ℕ) × (m : ℕ) × Contains tries (Busy (suc x) by) × (by ≢ t) × Contains holds (Hold (suc x) m)
    × (m / cells ≤ low))

-- the pass stored a Trim of the first segment exactly where that rose, and the first segment is as far as the rows let it
pub record IsSwept (z : TableView) (p q : PassView) (low : ℕ) : Type 0 where
  -- the first segment as it was found
  pub before : ℕ
  pub own : q.own ≡ record p.own { mine = p.own.mine ++ trims before low }
  -- what it read as it tried the rows, then of all their holds, and then of the first segment, before and after
  pub tries : List Read
  pub holds : List Read
  pub reads : q.reads ≡ p.reads ++ (tries ++ (holds ++ (Hold 0 before ∷ Hold 0 low ∷ [])))
  -- the tail that the rows were moved up to
  pub tail : ℕ
  pub later : (p.seen ≤ tail) × (tail ≤ q.seen)
  pub far : (x : ℕ) → x < VARIABLES → IsFar p.own.id x (tail / z.key.cells * z.key.cells) tries
  -- the first segment is that of the least hold, or it was found to be more
  pub least : ℕ
  pub each : (x : ℕ) → x < VARIABLES → (n : ℕ) × Contains holds (Hold (suc x) n) × (least ≤ n)
  pub is_one : (x : ℕ) × (x < VARIABLES) × Contains holds (Hold (suc x) least)
  pub low_is : low ≡ max before (least / z.key.cells)
  pub reaches : Reaches p.own.id z.key.cells tail low tries holds
  -- ten steps a row, and two
  pub cost : CostsAtMost (10 * VARIABLES + 2) p q
