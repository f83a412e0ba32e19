-- the rows of the first variables were taken, and nothing else was done
use Rattle.std.proofs.Common.{◌≡◌, ◌*◌, take, vec_capacity}
use Rattle.gl_txn.specs.Costs.{EndCosts}
use Rattle.gl_txn.specs.Holding.{HaveTaken, HaveWrites}
use Rattle.gl_txn.proofs.taken.take_rows.Given as goal

abbrev pub invariant-loop-var : goal.invariant-loop-var
invariant-loop-var l = HaveTaken l.fn.pass l.pass (take l.var-index l.ids) l.rows.items × HaveWrites l.writes l.rows.items
    × (vec_capacity l.rows ≡ vec_capacity l.fn.rows) × EndCosts 0 (2 * l.var-index) l.fn.pass l.pass
