-- Numbers that are drawn for the end of an attempt.
use Rattle.std.specs.Prelude.{◌≡◌, ℕ, ℤ, ◌-◌, ◌<◌, ◌≤◌, if◌then◌else◌, List, [], ◌∷◌, ◌++◌, map, length, Contains, Option, Some, None}
use Rattle.gl_model.specs.declared.tx.Number.{Number}
use Rattle.gl_model.specs.declared.tx.Tx.{Tx}
use Rattle.gl_model.specs.declared.tx.Why.{Why}
use Rattle.gl_model.specs.Entries.{Entry, Abort}
use Rattle.gl_model.specs.Trace.{is_in}
use Rattle.gl_draws.specs.Draws.{Draw, draw, Open}
use Rattle.gl_draws.specs.Ties.{Drawn, counted}
use Rattle.gl_rule.specs.Lives.{Running, life_of}
use Rattle.gl_rule.specs.Numbers.{count_on}
use Rattle.gl_rule.specs.View.{Held, moved}
use Rattle.gl_table.specs.CaughtUp.{block_of}
use Rattle.gl_table.specs.PassView.{PassView}
use Rattle.gl_txn.specs.Attempts.{Attempting}
use Rattle.gl_txn.specs.Holding.{AreHeld, undrawn}
use Rattle.gl_txn.specs.declared.taken.TakenRow.{TakenRow}
use Rattle.gl_rule.specs.Bounded.{most_entries}

-- a number of an end that waits for its entry
abbrev pub end_of : Number → Drawn
end_of n = record { var = n.var; nth = n.nth; look = None }

abbrev pub numbered : List Number → List ℕ
numbered numbers = map (λ n. n.var) numbers

-- what was drawn on a row, where these have their number
abbrev pub drew_on : PassView → List ℕ → ℕ → Option Draw
drew_on p ys y = if is_in y ys then Some (draw p.own.id (block_of p.own.mine) Open) else None

-- the pass holds these rows, as they were taken, and perhaps the list; its thread runs, it owes nothing, and at most one number of a
-- variable waits
pub record MayNumber (p : PassView) (rows : List TakenRow) : Type 0 where
  pub list : Option Held
  pub tails : List ℕ
  pub held : AreHeld p.own.held list rows tails undrawn
  pub owed : p.own.owed ≡ []
  pub few : counted p.own.mine < most_entries
  pub runs : life_of p.own.mine ≡ Running
  pub each : (y : ℕ) → count_on y p.own.drawn ≤ 1

-- the pass, which was p and is q, drew these numbers, each in one step, and did nothing else; each is above those of its variable that
-- waited before
pub record HasDrawn (p q : PassView) (list : Option Held) (rows : List TakenRow) (tails : List ℕ) (numbers : List Number) : Type 0 where
  pub is : q ≡ record p {
    own = record p.own { held = q.own.held; drawn = p.own.drawn ++ map end_of numbers };
    moves = moved (length numbers) p.moves;
  }
  pub held : AreHeld q.own.held list rows tails (drew_on p (numbered numbers))
  pub above : (y k m : ℕ) (look : Option ℤ) → Contains p.own.drawn (record { var = y; nth = k; look = look })
      → Contains numbers (record { var = y; nth = m }) → k < m

-- the attempt of a transaction
abbrev pub attempt_in : Tx → Attempting
attempt_in tx = record { looks = tx.looks; writes = tx.writes }

-- the pass stored an entry more, holds nothing, and no number waits
abbrev pub with_entry : PassView → Entry → PassView
with_entry p e = record p { own = record p.own { mine = p.own.mine ++ e ∷ []; drawn = []; held = [] }; spare = p.spare - 1 }

-- the attempt was dropped with these looks and writes, and nothing else was done
pub record HasDropped (tx : Tx) (why : Why) (p q : PassView) : Type 0 where
  pub ended : Tx
  pub looks : ended.looks ≡ tx.looks
  pub writes : ended.writes ≡ tx.writes
  pub is : q ≡ record (with_entry p (Abort ended why)) { moves = q.moves }
