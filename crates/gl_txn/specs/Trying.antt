-- What is asked of a pass that goes on with an attempt.
use Rattle.std.specs.Prelude.{◌≡◌, ℕ, ℤ, ◌<◌, ◌≤◌, ◌↔◌, [], Contains, Some, None}
use Rattle.gl_draws.specs.Ties.{counted}
use Rattle.gl_rule.specs.Lives.{Running, life_of}
use Rattle.gl_rule.specs.Numbers.{count_on}
use Rattle.gl_table.specs.PassView.{Own, PassView}
use Rattle.gl_table.specs.TableView.{TableView}
use Rattle.gl_txn.specs.Attempts.{Attempting}
use Rattle.gl_rule.specs.Bounded.{most_entries}

-- the numbers that wait for their entry are those of the attempt's looks, at most one a variable
pub record Draws (a : Attempting) (o : Own) : Type 0 where
  pub looks : (y k : ℕ) (value : ℤ) → Contains o.drawn (record { var = y; nth = k; look = Some value }) ↔ Contains a.looks
      (record { var = y; value = value; nth = k })
  pub ends : (y k : ℕ) → Contains o.drawn (record { var = y; nth = k; look = None }) → ⊥
  pub each : (y : ℕ) → count_on y o.drawn ≤ 1

-- the pass is of this table, holds and owes nothing, its thread runs, and what it drew is what the attempt looked at
pub record MayTry (z : TableView) (p : PassView) (a : Attempting) : Type 0 where
  pub table : p.own.table ≡ z.id
  pub held : p.own.held ≡ []
  pub owed : p.own.owed ≡ []
  pub few : counted p.own.mine < most_entries
  pub runs : life_of p.own.mine ≡ Running
  pub draws : Draws a p.own
