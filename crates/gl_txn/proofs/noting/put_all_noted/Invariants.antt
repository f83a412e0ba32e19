-- those that are left are held, and nothing else changed
use Rattle.std.proofs.Common.{◌≡◌, ◌+◌, ◌*◌, vec_len}
use Rattle.gl_txn.specs.Costs.{EndCosts}
use Rattle.gl_txn.specs.Noting.{AreCommitted}
use Rattle.gl_txn.proofs.noting.put_all_noted.Given as goal

abbrev pub invariant-loop : goal.invariant-loop
invariant-loop l = (l.pass ≡ record l.fn.pass { own = record l.fn.pass.own { held = l.pass.own.held }; moves = l.pass.moves })
    × AreCommitted l.pass l.rows.items l.base l.at × (vec_len l.rows + l.counter ≡ vec_len l.fn.rows)
    × EndCosts 0 (2 * l.counter) l.fn.pass l.pass
