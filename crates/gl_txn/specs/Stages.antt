-- What the parts of an attempt's end leave of the pass.
use Rattle.std.specs.Prelude.{◌≡◌, ◌≢◌, ℕ, suc, ◌-◌, ◌<◌, ◌≤◌, List, [], ◌∷◌, ◌++◌, None}
use Rattle.gl_model.specs.declared.tx.Tx.{Tx}
use Rattle.gl_model.specs.Records.{variables_of}
use Rattle.gl_model.specs.declared.event.Stamp.{Stamp}
use Rattle.gl_model.specs.declared.limits.TheConstants.{THREADS}
use Rattle.gl_draws.specs.Ties.{counted}
use Rattle.gl_rule.specs.declared.slot.Slot.TheVariants as slot
use Rattle.gl_rule.specs.View.{Busy, Taken, Hold}
use Rattle.gl_state.specs.ListView.{ListView}
use Rattle.gl_table.specs.TableView.{TableView}
use Rattle.gl_rule.specs.Lives.{Running, life_of}
use Rattle.gl_table.specs.PassView.{PassView}
use Rattle.gl_txn.specs.Drawing.{attempt_in}
use Rattle.gl_txn.specs.Ending.{entry_of, HasRoomAt}
use Rattle.gl_txn.specs.Holding.{AreHeld, undrawn, vars_of, HaveWrites}
use Rattle.gl_txn.specs.Trying.{Draws}
use Rattle.gl_txn.specs.declared.stops.TxEnd.{TxEnd}
use Rattle.gl_txn.specs.declared.stops.TxEnd.TheVariants as end
use Rattle.gl_txn.specs.declared.stops.TxWait.{TxWait}
use Rattle.gl_txn.specs.declared.stops.TxWait.TheVariants as wait
use Rattle.gl_txn.specs.declared.taken.TakenRow.{TakenRow}
use Rattle.gl_rule.specs.Bounded.{most_entries}

-- the pass holds just the rows of the variables of tx, as they were taken; its thread runs
pub record HoldsRows (p : PassView) (rows : List TakenRow) (tx : Tx) : Type 0 where
  pub of : vars_of rows ≡ variables_of tx
  pub held : AreHeld p.own.held None rows [] undrawn
  pub owed : p.own.owed ≡ []
  pub few : counted p.own.mine < most_entries
  pub runs : life_of p.own.mine ≡ Running
  pub draws : Draws (attempt_in tx) p.own
  pub writes : HaveWrites tx.writes rows

-- the end was stored, with these looks and writes, and nothing is held
pub record EndsAs (tx : Tx) (e : TxEnd) (p q : PassView) : Type 0 where
  pub ended : Tx
  pub looks : ended.looks ≡ tx.looks
  pub writes : ended.writes ≡ tx.writes
  pub own : q.own ≡ record p.own { mine = p.own.mine ++ entry_of e ended ∷ []; drawn = []; held = [] }
  pub quiet : q.quiet ≡ p.quiet
  pub spare : q.spare ≡ p.spare - 1

-- nothing was stored, and nothing is held
pub record IsPutBack (p q : PassView) : Type 0 where
  pub own : q.own ≡ record p.own { held = [] }
  pub quiet : q.quiet ≡ p.quiet
  pub spare : q.spare ≡ p.spare

-- the list was taken, had room, and the commit stands at this position
pub record ReachedDone (z : TableView) (at : ℕ) (p q : PassView) : Type 0 where
  pub list : ListView
  pub low : ℕ
  pub tail : ℕ
  pub reads : q.reads ≡ p.reads ++ (Taken 0 (slot.List list) ∷ Hold 0 low ∷ [])
  pub later : p.seen ≤ tail
  pub here : at ≡ tail
  pub room : HasRoomAt z low tail
  pub seen : q.seen ≡ suc at
  pub more : List (ℕ × Stamp)
  pub known : q.known ≡ p.known ++ more

abbrev pub ReachedEnd : TableView → TxEnd → PassView → PassView → Type 0
ReachedEnd z (end.Done at) p q = ReachedDone z at p q
ReachedEnd z (end.Raised var) p q = ⊥
ReachedEnd z (end.Changed var read found) p q = ⊥

-- the list's turn was held by another pass
pub record ReachedBusy (by : ℕ) (p q : PassView) : Type 0 where
  pub near : by < THREADS
  pub other : by ≢ p.own.id
  pub reads : q.reads ≡ p.reads ++ Busy 0 by ∷ []
  pub seen : q.seen ≡ p.seen
  pub known : q.known ≡ p.known

-- the list had no room
pub record ReachedFull (z : TableView) (low tail : ℕ) (p q : PassView) : Type 0 where
  pub list : ListView
  pub reads : q.reads ≡ p.reads ++ (Taken 0 (slot.List list) ∷ Hold 0 low ∷ [])
  pub later : p.seen ≤ tail
  pub seen : q.seen ≡ tail
  pub known : q.known ≡ p.known
  pub full : HasRoomAt z low tail → ⊥

abbrev pub ReachedWait : TableView → TxWait → PassView → PassView → Type 0
ReachedWait z (wait.Busy by) p q = ReachedBusy by p q
ReachedWait z (wait.RingFull low tail) p q = ReachedFull z low tail p q
