-- Rows after a commit.
use Rattle.std.specs.Prelude.{◌≡◌, ℕ, ℤ, ◌<◌, ◌+◌, true, false, List, Contains, Option, Some, None}
use Rattle.gl_model.specs.declared.event.Stamp.{Stamp}
use Rattle.gl_model.specs.declared.limits.TheConstants.{THREADS}
use Rattle.gl_model.specs.declared.row.Question.{Question}
use Rattle.gl_model.specs.declared.row.Row.{Row}
use Rattle.gl_model.specs.declared.tx.Tx.{Tx}
use Rattle.gl_model.specs.Entries.{Commit}
use Rattle.gl_model.specs.Form.{At}
use Rattle.gl_model.specs.Infos.{AreLeastOwned}
use Rattle.gl_model.specs.Machine.{Setting, State, Allows}
use Rattle.gl_model.specs.Records.{variables_of}
use Rattle.gl_draws.specs.Draws.{Draw, draw, Entered}
use Rattle.gl_draws.specs.Events.{AreEvents}
use Rattle.gl_judge.specs.Noted.{IsNoted}
use Rattle.gl_table.specs.PassView.{PassView}
use Rattle.gl_txn.specs.Holding.{AreHeld, HaveWrites}
use Rattle.gl_txn.specs.declared.taken.TakenRow.{TakenRow}

-- the row with the access of the commit noted, and with the word that it writes
abbrev pub IsNotedRow : Question → ℕ → Option ℤ → Row → Row → Type 0
IsNotedRow base at None old new = IsNoted old (record base { write = false }) at new
IsNotedRow base at (Some value) old new = (mid : Row) × IsNoted old (record base { write = true }) at mid
    × (new ≡ record mid { value = value })

-- what was drawn on the rows of these variables by the commit of tx at n
abbrev pub drew_commit_at : PassView → Tx → ℕ → ℕ → Option Draw
drew_commit_at p tx n y = Some (draw p.own.id n (Entered (Commit n tx)))

-- the pass published a commit at the position before this one, which is the last event that it has seen, and holds these rows of it
pub record AreCommitted (p : PassView) (rows : List TakenRow) (base : Question) (at : ℕ) : Type 0 where
  pub tx : Tx
  pub position : ℕ
  pub behind : at ≡ position + 1
  pub seen : p.seen ≡ at
  pub index : ℕ
  pub there : At p.own.mine index (Commit position tx)
  pub tails : List ℕ
  pub fresh : Contains tails at
  pub held : AreHeld p.own.held None rows tails (drew_commit_at p tx position)
  pub writes : HaveWrites tx.writes rows
  pub thread : base.thread ≡ p.own.id
  pub near : base.thread < THREADS
  pub commit : base.commit ≡ Some (variables_of tx)
  pub owned : (setting : Setting) (l : List Stamp) (now : State) → AreEvents l p.own.id p.own.mine → Allows setting l now
      → AreLeastOwned now p.own.id base.held
