-- A pass that reaches for the list, and publishes a commit.
use Rattle.std.specs.Prelude.{◌≡◌, ◌≢◌, ℕ, suc, false, slice_get, ◌<◌, ◌≤◌, List, [], ◌∷◌, ◌++◌, map, Some, None}
use Rattle.gl_model.specs.declared.limits.TheConstants.{THREADS}
use Rattle.gl_model.specs.declared.tx.Tx.{Tx}
use Rattle.gl_model.specs.Entries.{Commit}
use Rattle.gl_model.specs.Kept.{AreVariables}
use Rattle.gl_model.specs.Records.{variables_of}
use Rattle.gl_draws.specs.RowFacts.{SomeFails}
use Rattle.gl_draws.specs.Ties.{counted}
use Rattle.gl_rule.specs.Knowledge.{AreBelow}
use Rattle.gl_rule.specs.Lives.{Running, life_of}
use Rattle.gl_rule.specs.Taken.{StateTold}
use Rattle.gl_table.specs.Committing.{commit_stamp}
use Rattle.gl_table.specs.PassView.{shelf_of}
use Rattle.gl_txn.specs.Changing.{AreUnchangedIn}
use Rattle.gl_txn.specs.Drawing.{attempt_in, with_entry}
use Rattle.gl_txn.specs.Holding.{AreHeld, undrawn, vars_of, HaveWrites}
use Rattle.gl_txn.specs.Racing.{Over, asked_of}
use Rattle.gl_txn.specs.Trying.{Draws}
use Rattle.gl_txn.specs.declared.taken.TakenRow.{TakenRow}
use Rattle.gl_rule.specs.declared.slot.Slot.TheVariants as slot
use Rattle.gl_rule.specs.View.{Busy, Hold, moved, saw, saw_tail, took, left}
use Rattle.gl_state.specs.ListView.{ListView}
use Rattle.gl_table.specs.PassView.{PassView, view_of, after}
use Rattle.gl_table.specs.TableView.{TableView}
use Rattle.gl_txn.specs.Ending.{HasRoomAt}
use Rattle.gl_txn.specs.declared.stops.TxWait.{TxWait}
use Rattle.gl_txn.specs.declared.stops.TxWait.TheVariants as wait
use Rattle.gl_rule.specs.Bounded.{most_entries}

-- the list was taken, and the first segment and the tail loaded
abbrev pub with_list : PassView → ListView → PassView
with_list p l = after p (took (view_of p) 0 (slot.List l))

abbrev pub with_low : PassView → ListView → ℕ → PassView
with_low p l low = after (with_list p l) (saw (view_of (with_list p l)) (Hold 0 low))

abbrev pub with_room : PassView → ListView → ℕ → ℕ → PassView
with_room p l low tail = after (with_low p l low) (saw_tail (view_of (with_low p l low)) tail)

-- there is room for an event
pub record HasReached (z : TableView) (p : PassView) (l : ListView) (q : PassView) : Type 0 where
  pub low : ℕ
  pub tail : ℕ
  pub later : p.seen ≤ tail
  pub room : HasRoomAt z low tail
  pub is : q ≡ with_room p l low tail

-- the list's turn was held by another pass, or there was no room, and the list was put back
abbrev pub IsReachStop : TableView → TxWait → PassView → PassView → Type 0
IsReachStop z (wait.Busy by) p q = (by < THREADS) × (by ≢ p.own.id)
    × (q ≡ record p { reads = p.reads ++ Busy 0 by ∷ []; moves = moved 1 p.moves })
IsReachStop z (wait.RingFull low tail) p q = (l : ListView) × (p.seen ≤ tail) × (HasRoomAt z low tail → ⊥)
    × (q ≡ after (with_room p l low tail) (left (view_of (with_room p l low tail)) 0 false))

-- the pass holds just the rows of the variables of tx, and has seen this tail since; nothing speaks against the commit
pub record IsReady (p : PassView) (rows : List TakenRow) (tx : Tx) : Type 0 where
  pub of : vars_of rows ≡ variables_of tx
  pub held : AreHeld p.own.held None rows (p.seen ∷ []) undrawn
  pub below : AreBelow p.seen (shelf_of p)
  pub owed : p.own.owed ≡ []
  pub few : counted p.own.mine < most_entries
  pub runs : life_of p.own.mine ≡ Running
  pub draws : Draws (attempt_in tx) p.own
  pub looks : AreVariables (map (λ l. l.var) tx.looks)
  pub writes : HaveWrites tx.writes rows
  pub unchanged : AreUnchangedIn tx.looks rows
  pub clear : (k : ℕ) (r : TakenRow) → slice_get rows k ≡ Some r → Over p rows (λ l. SomeFails l r.row (asked_of p.own.id tx r.var) → ⊥)

-- it was, and then it reached the list, which has this state
pub record MayPublish (z : TableView) (p : PassView) (rows : List TakenRow) (tx : Tx) (l : ListView) : Type 0 where
  pub first : PassView
  pub ready : IsReady first rows tx
  pub told : StateTold z.key.setting (view_of first) l
  pub reached : HasReached z first l p

-- the commit was published there with these looks and writes, and all was put back
pub record HasPublished (tx : Tx) (at : ℕ) (p q : PassView) : Type 0 where
  pub ended : Tx
  pub looks : ended.looks ≡ tx.looks
  pub writes : ended.writes ≡ tx.writes
  pub is : q ≡ record (with_entry p (Commit at ended)) {
    seen = suc at;
    known = p.known ++ (at, commit_stamp p.own.id ended)
        ∷ [];
    stored = [];
    moves = q.moves;
  }
