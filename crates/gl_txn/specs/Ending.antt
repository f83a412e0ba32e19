-- How an attempt ends, and why; and why it has not ended yet.
use Rattle.std.specs.Prelude.{◌≡◌, ◌≢◌, ◌⊎◌, ℕ, ℤ, suc, ◌+◌, ◌*◌, ◌<◌, ◌≤◌, Bool, List, [], ◌∷◌, ◌++◌, map, Contains, Some}
use Rattle.gl_model.specs.declared.event.Stamp.{Stamp}
use Rattle.gl_model.specs.declared.limits.TheConstants.{THREADS}
use Rattle.gl_model.specs.declared.row.Question.{Question}
use Rattle.gl_model.specs.declared.tx.Look.{Look}
use Rattle.gl_model.specs.declared.tx.Tx.{Tx}
use Rattle.gl_model.specs.declared.tx.Why.TheVariants.{Changed, Raised}
use Rattle.gl_model.specs.Entries.{Entry, Commit, Abort}
use Rattle.gl_model.specs.Machine.{Setting}
use Rattle.gl_model.specs.Trace.{is_in}
use Rattle.gl_draws.specs.RowFacts.{IsWithin, SomeFails}
use Rattle.gl_rule.specs.declared.slot.Slot.TheVariants as slot
use Rattle.gl_rule.specs.Fitting.{IsFitting, InfosStand}
use Rattle.gl_rule.specs.Objects.{capacity}
use Rattle.gl_rule.specs.View.{Shelf, Read, Busy, Taken, Hold}
use Rattle.gl_state.specs.ListView.{ListView}
use Rattle.gl_table.specs.PassView.{Own, PassView, shelf_of}
use Rattle.gl_table.specs.TableView.{TableView}
use Rattle.gl_txn.specs.Attempts.{Attempting, variables_in, writes_at}
use Rattle.gl_txn.specs.Holding.{takes, vars_of, WereBusy}
use Rattle.gl_txn.specs.declared.taken.TakenRow.{TakenRow}
use Rattle.gl_txn.specs.declared.stops.TxEnd.{TxEnd}
use Rattle.gl_txn.specs.declared.stops.TxEnd.TheVariants as end
use Rattle.gl_txn.specs.declared.stops.TxWait.{TxWait}
use Rattle.gl_txn.specs.declared.stops.TxWait.TheVariants as wait

-- what is stored of the attempt: its looks, and its writes where they are kept
pub record IsEndOf (a : Attempting) (keep : Bool) (tx : Tx) : Type 0 where
  pub looks : tx.looks ≡ a.looks
  pub writes : tx.writes ≡ writes_at a keep

abbrev pub entry_of : TxEnd → Tx → Entry
entry_of (end.Done at) tx = Commit at tx
entry_of (end.Raised var) tx = Abort tx (Raised var)
entry_of (end.Changed var read found) tx = Abort tx (Changed var read found)

-- an entry more, and no number waits
abbrev pub ended : Entry → Own → Own
ended e o = record o { mine = o.mine ++ e ∷ []; drawn = [] }

pub record HasEnded (a : Attempting) (keep : Bool) (end : TxEnd) (old new : Own) : Type 0 where
  pub tx : Tx
  pub whole : IsEndOf a keep tx
  pub own : new ≡ ended (entry_of end tx) old

-- what of an attempt is to be committed: its looks, and its writes where they are kept
abbrev pub kept_of : Bool → Attempting → Attempting
kept_of keep a = record { looks = a.looks; writes = writes_at a keep }

-- the row has the word that was looked at, if it was
abbrev pub AreUnchangedBelow : ℕ → Attempting → List TakenRow → Type 0
AreUnchangedBelow n a rows = (l : Look) (r : TakenRow) → Contains a.looks l → Contains rows r → r.var ≡ l.var → l.var < n → r.row.value
    ≡ l.value

abbrev pub AreUnchanged : Attempting → List TakenRow → Type 0
AreUnchanged a rows = (l : Look) (r : TakenRow) → Contains a.looks l → Contains rows r → r.var ≡ l.var → r.row.value ≡ l.value

-- the next access of y by the attempt's commit, made by thread t
abbrev pub asked : ℕ → Attempting → ℕ → Question
asked t a y = record { thread = t; write = is_in y (map (λ w. w.var) a.writes); commit = Some (variables_in a.looks a.writes); held = [] }

-- over each list of n events that the pass of these entries, which knows these events, cannot tell from the table's, and in which the
-- rows' Infos stand for accesses
abbrev pub OverEach : Setting → Shelf → ℕ → List (ℕ × Stamp) → List TakenRow → (List Stamp → Type 0) → Type 0
OverEach setting s n known rows P = (l : List Stamp) → IsFitting setting s n known l
    → ((r : TakenRow) → Contains rows r → InfosStand setting l r.row) → P l

-- the commit completes a race on the row
abbrev pub RacesAt : ℕ → Attempting → List Stamp → TakenRow → Type 0
RacesAt t a l r = SomeFails l r.row (asked t a r.var)

-- each Info of the rows stands at this tail or before
abbrev pub AreWithin : List TakenRow → ℕ → Type 0
AreWithin rows tail = (r : TakenRow) → Contains rows r → IsWithin r.row tail

-- no word was changed, and the commit completes no race, judged up to a tail that is at most the limit and not below what was seen before
-- the call, with each row's Infos within it: s is the pass's list before, and from what it had seen then
pub record IsClear (setting : Setting) (a : Attempting) (s : Shelf) (from limit : ℕ) (rows : List TakenRow) (q : PassView) : Type 0 where
  pub unchanged : AreUnchanged a rows
  pub upto : ℕ
  pub later : from ≤ upto
  pub within : upto ≤ limit
  pub reaches : AreWithin rows upto
  pub unraced : OverEach setting s upto q.known rows (λ l. (r : TakenRow) → Contains rows r → RacesAt s.thread a l r → ⊥)

-- there is room for an event at this tail, where the ring begins with the segment low
abbrev pub HasRoomAt : TableView → ℕ → ℕ → Type 0
HasRoomAt z low tail = tail < low * z.key.cells + capacity z.key

-- why the attempt was committed: nothing speaks against it, up to a tail at or before its own position, and the list was free and had
-- room. It stands at the tail that was loaded then. What was read before is what its rows' turns gave
pub record WasDone (z : TableView) (a : Attempting) (at : ℕ) (s : Shelf) (from : ℕ) (before : List Read) (rows : List TakenRow)
    (q : PassView) : Type 0 where
  pub clear : IsClear z.key.setting a s from at rows q
  pub list : ListView
  pub low : ℕ
  pub tail : ℕ
  pub reads : q.reads ≡ before ++ (Taken 0 (slot.List list) ∷ Hold 0 low ∷ [])
  pub room : HasRoomAt z low tail
  pub here : at ≡ tail
  pub seen : q.seen ≡ suc at

-- why it was dropped as changed: at the least such variable its look has another word than the row
pub record WasChanged (a : Attempting) (var : ℕ) (read found : ℤ) (before : List Read) (rows : List TakenRow) (q : PassView) : Type 0 where
  pub reads : q.reads ≡ before
  pub look : Look
  pub looked : Contains a.looks look
  pub at : look.var ≡ var
  pub read_is : look.value ≡ read
  pub row : TakenRow
  pub of : Contains rows row
  pub here : row.var ≡ var
  pub found_is : row.row.value ≡ found
  pub other : read ≢ found
  pub least : AreUnchangedBelow var a rows

-- why it was dropped as racy: no word was changed, and at the least such variable the commit completes a race, judged up to what is seen
-- afterwards, with each row's Infos within it
pub record WasRaised (setting : Setting) (a : Attempting) (var : ℕ) (s : Shelf) (from : ℕ) (before : List Read) (rows : List TakenRow)
    (q : PassView) : Type 0 where
  pub reads : q.reads ≡ before
  pub unchanged : AreUnchanged a rows
  pub later : from ≤ q.seen
  pub reaches : AreWithin rows q.seen
  pub row : TakenRow
  pub of : Contains rows row
  pub here : row.var ≡ var
  pub races : OverEach setting s q.seen q.known rows (λ l. RacesAt s.thread a l row)
  pub least : OverEach setting s q.seen q.known rows (λ l. (r : TakenRow) → Contains rows r → r.var < var → RacesAt s.thread a l r → ⊥)

abbrev pub IsCauseBy : TableView → Attempting → TxEnd → Shelf → ℕ → List Read → List TakenRow → PassView → Type 0
IsCauseBy z a (end.Done at) s from before rows q = WasDone z a at s from before rows q
IsCauseBy z a (end.Raised var) s from before rows q = WasRaised z.key.setting a var s from before rows q
IsCauseBy z a (end.Changed var read found) s from before rows q = WasChanged a var read found before rows q

-- the pass, which was p and is q, took the row of each variable, and this is why it ended so
abbrev pub IsCause : TableView → Attempting → TxEnd → PassView → PassView → Type 0
IsCause z a e p q = (rows : List TakenRow) × (vars_of rows ≡ variables_in a.looks a.writes)
    × IsCauseBy z a e (shelf_of p) p.seen (p.reads ++ takes rows) rows q

-- nothing speaks against the commit, and the list's turn was read as held by another pass
pub record ListWasBusy (z : TableView) (a : Attempting) (by : ℕ) (s : Shelf) (from : ℕ) (before : List Read) (rows : List TakenRow)
    (q : PassView) : Type 0 where
  pub near : by < THREADS
  pub other : by ≢ s.thread
  pub clear : IsClear z.key.setting a s from q.seen rows q
  pub reads : q.reads ≡ before ++ Busy 0 by ∷ []

-- nothing speaks against the commit, and the list had no room
pub record RingWasFull (z : TableView) (a : Attempting) (low tail : ℕ) (s : Shelf) (from : ℕ) (before : List Read) (rows : List TakenRow)
    (q : PassView) : Type 0 where
  pub clear : IsClear z.key.setting a s from q.seen rows q
  pub list : ListView
  pub reads : q.reads ≡ before ++ (Taken 0 (slot.List list) ∷ Hold 0 low ∷ [])
  pub seen : q.seen ≡ tail
  pub full : HasRoomAt z low tail → ⊥

abbrev pub IsWaitBy : TableView → Attempting → TxWait → Shelf → ℕ → List Read → List TakenRow → PassView → Type 0
IsWaitBy z a (wait.Busy by) s from before rows q = ListWasBusy z a by s from before rows q
IsWaitBy z a (wait.RingFull low tail) s from before rows q = RingWasFull z a low tail s from before rows q

-- all rows were taken, and then it had to wait
abbrev pub WaitsWithAll : TableView → Attempting → TxWait → PassView → PassView → Type 0
WaitsWithAll z a w p q = (rows : List TakenRow) × (vars_of rows ≡ variables_in a.looks a.writes)
    × IsWaitBy z a w (shelf_of p) p.seen (p.reads ++ takes rows) rows q

-- some of its rows, the first ones, were taken, and the turn of the next one was read as held by another pass
abbrev pub RowWasBusy : Attempting → TxWait → PassView → PassView → Type 0
RowWasBusy a (wait.Busy by) p q = WereBusy (variables_in a.looks a.writes) by p q
RowWasBusy a (wait.RingFull low tail) p q = ⊥

-- why the attempt has to wait
abbrev pub IsWaitCause : TableView → Attempting → TxWait → PassView → PassView → Type 0
IsWaitCause z a w p q = RowWasBusy a w p q ⊎ WaitsWithAll z a w p q
