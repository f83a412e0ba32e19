-- the first rows have their numbers, and nothing else was done
use Rattle.std.proofs.Common.{◌≡◌, ℕ, take}
use Rattle.std.specs.Prelude.{List, Option}
use Rattle.gl_rule.specs.View.{Held}
use Rattle.gl_txn.specs.Costs.{EndCosts}
use Rattle.gl_txn.specs.Drawing.{HasDrawn, numbered}
use Rattle.gl_txn.specs.Holding.{AreHeld, undrawn, vars_of}
use Rattle.gl_txn.proofs.dropping.draw_numbers.Given as goal

abbrev pub invariant-loop-taken : goal.invariant-loop-taken
invariant-loop-taken l =
    ((list : Option Held) (tails : List ℕ) → AreHeld l.fn.pass.own.held list l.rows tails undrawn
    → HasDrawn l.fn.pass l.pass list l.rows tails l.numbers) × (numbered l.numbers ≡ take l.taken-index (vars_of l.rows))
    × EndCosts 0 l.taken-index l.fn.pass l.pass
