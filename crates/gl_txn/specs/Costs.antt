-- What the end of an attempt costs on the table.
use Rattle.std.specs.Prelude.{◌≡◌, ℕ, ◌+◌, ◌*◌, ◌≤◌, length}
use Rattle.gl_table.specs.PassView.{PassView}
use Rattle.gl_txn.specs.Attempts.{Attempting, size}
use Rattle.gl_txn.specs.declared.stops.TxEnd.{TxEnd}
use Rattle.gl_txn.specs.declared.stops.TxEnd.TheVariants as end

-- so many words were stored in cells, and at most so many steps made beside loads and stores of such words; five words were loaded for
-- each event that the pass has come to know, or, of its own, stored
pub record EndCosts (stored steps : ℕ) (p q : PassView) : Type 0 where
  pub words : q.moves.loads + q.moves.stores + 5 * length p.known ≡ p.moves.loads + p.moves.stores + 5 * length q.known
  pub stores : q.moves.stores ≡ p.moves.stores + stored
  pub others : q.moves.others ≤ p.moves.others + steps

-- a commit stores its event
abbrev pub stored_by : TxEnd → ℕ
stored_by (end.Done at) = 5
stored_by (end.Raised var) = 0
stored_by (end.Changed var read found) = 0

-- five steps for each variable of the attempt, and eight: each row is taken and put back, and a number drawn on it; one for the tail, and
-- seven with the list
abbrev pub IsEndCost : Attempting → ℕ → PassView → PassView → Type 0
IsEndCost a stored p q = EndCosts stored (5 * size a + 8) p q
