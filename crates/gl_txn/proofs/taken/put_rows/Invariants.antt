-- those that are left are held, and nothing else changed
use Rattle.std.proofs.Common.{◌≡◌, ◌+◌, ◌*◌, vec_len, vec_capacity}
use Rattle.gl_txn.specs.Costs.{EndCosts}
use Rattle.gl_txn.specs.Holding.{AreUnused}
use Rattle.gl_txn.proofs.taken.put_rows.Given as goal

abbrev pub invariant-loop : goal.invariant-loop
invariant-loop l =
    (l.pass ≡ record l.fn.pass { own = record l.fn.pass.own { held = l.pass.own.held }; moves = l.pass.moves })
    × AreUnused l.pass.own.held l.rows.items
    × (vec_len l.rows + l.counter ≡ vec_len l.fn.rows) × (vec_capacity l.rows ≡ vec_capacity l.fn.rows)
    × EndCosts 0 (2 * l.counter) l.fn.pass l.pass
