-- What is asked of a pass that raises the first segment of the ring, and what it learns.
use Rattle.std.specs.Prelude.{◌≡◌, ◌⊎◌, ℕ, suc, ◌+◌, ◌<◌, ◌≤◌, ◌-◌, ◌/◌, List, [], ◌∷◌, ◌++◌, Contains, nat_lt, if◌then◌else◌, max}
use Rattle.gl_model.specs.declared.limits.TheConstants.{VARIABLES}
use Rattle.gl_model.specs.Entries.{Entry, Trim}
use Rattle.gl_rule.specs.Lives.{Unbegun, Running, life_of}
use Rattle.gl_rule.specs.View.{Read, Hold, moved}
use Rattle.gl_table.specs.PassView.{PassView}
use Rattle.gl_table.specs.TableView.{TableView}

-- the thread has not ended
abbrev pub IsOpen : List Entry → Type 0
IsOpen es = (life_of es ≡ Unbegun) ⊎ (life_of es ≡ Running)

-- the pass is of this table, holds nothing, has room for an entry, and its thread has not ended
pub record MaySettle (z : TableView) (p : PassView) : Type 0 where
  pub table : p.own.table ≡ z.id
  pub held : p.own.held ≡ []
  pub spare : 0 < p.spare
  pub goes_on : IsOpen p.own.mine

-- the pass, which was p and is q, loaded the holds of the variables below k, each in one step, and did nothing else; the least of them is
-- this
pub record AreLoaded (k : ℕ) (p q : PassView) (least : ℕ) : Type 0 where
  pub further : List Read
  pub is : q ≡ record p { reads = p.reads ++ further; moves = moved k p.moves }
  pub each : (x : ℕ) → x < k → (n : ℕ) × Contains further (Hold (suc x) n) × (least ≤ n)
  pub one : 0 < k → (x : ℕ) × (x < VARIABLES) × Contains further (Hold (suc x) least)
  -- each is no less than the pass had loaded it before
  pub risen : (x n m : ℕ) → Contains further (Hold (suc x) n) → Contains p.reads (Hold (suc x) m) → m ≤ n

-- a Trim where the first segment rose
abbrev pub trims : ℕ → ℕ → List Entry
trims before to = if nat_lt before to then Trim to ∷ [] else []

-- the holds of all variables were loaded, and the first segment, which was read as `before`, is at least that of the least
pub record IsSettled (z : TableView) (p q : PassView) (low : ℕ) : Type 0 where
  pub loaded : PassView
  pub least : ℕ
  pub holds : AreLoaded VARIABLES p loaded least
  pub before : ℕ
  pub answer : low ≡ max before (least / z.key.cells)
  pub own : q.own ≡ record p.own { mine = p.own.mine ++ trims before (least / z.key.cells) }
  pub reads : q.reads ≡ loaded.reads ++ (Hold 0 before ∷ Hold 0 low ∷ [])
  pub seen : q.seen ≡ p.seen
  pub known : q.known ≡ p.known
  pub quiet : q.quiet ≡ p.quiet
  pub spare : p.spare - 1 ≤ q.spare
  pub cost : q.moves ≡ moved (VARIABLES + 1) p.moves
