-- How many steps walks over rows make on the table.
use Rattle.std.specs.Prelude.{◌≡◌, ℕ, ◌+◌, ◌-◌, ◌*◌, ◌≤◌, length}
use Rattle.gl_model.specs.declared.row.Info.{Info}
use Rattle.gl_model.specs.declared.row.Row.{Row}
use Rattle.gl_rule.specs.Values.{InRow}
use Rattle.gl_table.specs.PassView.{PassView}

-- at most five words were loaded for each event up to the tail, from any position on before which no Info of the row stands; no word was
-- stored, and so many other steps were made
pub record WalkCosts (row : Row) (tail steps : ℕ) (p q : PassView) : Type 0 where
  pub loads : (n : ℕ) → n ≤ tail → ((i : Info) → InRow row i → n ≤ i.pos) → q.moves.loads ≤ p.moves.loads + 5 * (tail - n)
  pub stores : q.moves.stores ≡ p.moves.stores
  pub others : q.moves.others ≡ p.moves.others + steps

-- five words were loaded for each event that the pass has come to know, no word was stored, and at most so many other steps were made
pub record CostsAtMost (steps : ℕ) (p q : PassView) : Type 0 where
  pub loads : q.moves.loads + 5 * length p.known ≡ p.moves.loads + 5 * length q.known
  pub stores : q.moves.stores ≡ p.moves.stores
  pub others : q.moves.others ≤ p.moves.others + steps
