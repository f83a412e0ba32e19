-- Why an ask was not answered.
use Rattle.std.specs.Prelude.{◌≡◌, ◌≢◌, ◌⊎◌, ℕ, ℤ, ◌==◌, if◌then◌else◌, Bool, List, [], ◌∷◌, Contains, Option, Some, None}
use Rattle.gl_bytecode.specs.declared.ask.Ask.{Ask}
use Rattle.gl_bytecode.specs.declared.ask.Ask.TheVariants.{Read, TxEnd}
use Rattle.gl_events.specs.Answers.{IsStop}
use Rattle.gl_events.specs.declared.call.Call.{Call}
use Rattle.gl_events.specs.declared.done.Stop.{Stop}
use Rattle.gl_events.specs.declared.done.Stop.TheVariants as stop
use Rattle.gl_rows.specs.Walks.{ReadBusy}
use Rattle.gl_rows.specs.WritingBack.{IsWrittenBack}
use Rattle.gl_table.specs.PassView.{PassView}
use Rattle.gl_table.specs.RightOf.{right_of}
use Rattle.gl_table.specs.TableView.{TableView}
use Rattle.gl_txn.specs.Attempts.{Attempting}
use Rattle.gl_txn.specs.Ending.{IsWaitCause, kept_of}
use Rattle.gl_txn.specs.Reading.{IsReadStop}
use Rattle.gl_txn.specs.declared.stops.TxStop.TheVariants.{Busy}
use Rattle.gl_txn.specs.declared.stops.TxWait.{TxWait}
use Rattle.gl_txn.specs.declared.stops.TxWait.TheVariants as wait
use Rattle.gl_riders.specs.Events.{event_call}
use Rattle.gl_riders.specs.Owing.{repeat_number}
use Rattle.gl_riders.specs.Tries.{access_ask}
use Rattle.gl_riders.specs.declared.tried.Tried.{Tried}
use Rattle.gl_riders.specs.declared.tried.Tried.TheVariants.{Again, Full, Unforked}

-- what the stop of an event call comes to
abbrev pub stopped : Stop → Tried
stopped (stop.RingFull low tail) = Full
stopped (stop.NotForked live) = if live == 0 then Unforked else Again
stopped (stop.Busy by) = Again
stopped (stop.Blocked owner) = Again
stopped (stop.NotEnded thread) = Again

-- what the wait of an attempt's end comes to
abbrev pub waited : TxWait → Tried
waited (wait.RingFull low tail) = Full
waited (wait.Busy by) = Again

-- the event call that the ask names stopped
pub record EventStops (z : TableView) (ask : Ask) (p q : PassView) (t : Tried) : Type 0 where
  pub call : Call
  pub named : event_call ask ≡ Some call
  pub why : Stop
  pub stops : IsStop call z p q why
  pub comes : t ≡ stopped why

-- there is no right to repeat the plain access, and the turn of its row was held by another pass
pub record AccessStops (ask : Ask) (p q : PassView) (t : Tried) : Type 0 where
  pub var : ℕ
  pub write : Option ℤ
  pub named : ask ≡ access_ask var write
  pub unrepeated : repeat_number (right_of p.own.mine var) write ≡ None
  pub by : ℕ
  pub stops : ReadBusy var by p q
  pub comes : t ≡ Again

-- a read of the attempt needed a look, and the turn of its row was held by another pass
pub record ReadStops (a : Attempting) (ask : Ask) (p q : PassView) (t : Tried) : Type 0 where
  pub var : ℕ
  pub named : ask ≡ Read var
  pub by : ℕ
  pub stops : IsReadStop (Busy by) a var p q
  pub comes : t ≡ Again

-- the end of the attempt had to wait
pub record EndStops (z : TableView) (a : Attempting) (ask : Ask) (p q : PassView) (t : Tried) : Type 0 where
  pub keep : Bool
  pub named : ask ≡ TxEnd keep
  pub why : TxWait
  pub stops : IsWaitCause z (kept_of keep a) why p q
  pub comes : t ≡ waited why

abbrev pub Owes : PassView → ℕ → Type 0
Owes p x = (value : ℤ) × Contains p.own.owed (x, value)

-- the words of these variables, which were owed, were written back one after another
abbrev pub HavePaid : List ℕ → PassView → PassView → Type 0
HavePaid [] p q = q ≡ p
HavePaid (x ∷ xs) p q = (mid : PassView) × Owes p x × IsWrittenBack p x mid × HavePaid xs mid q

-- all that was owed was written back
pub record IsPaid (p q : PassView) : Type 0 where
  pub vars : List ℕ
  pub paid : HavePaid vars p q
  pub none : q.own.owed ≡ []

-- some words were written back, and the turn of the row of another one that is owed was held by another pass
pub record PayStops (p q : PassView) : Type 0 where
  pub vars : List ℕ
  pub mid : PassView
  pub paid : HavePaid vars p mid
  pub var : ℕ
  pub owed : Owes mid var
  pub by : ℕ
  pub stops : ReadBusy var by mid q

abbrev pub IsNoAccess : Ask → Type 0
IsNoAccess ask = (x : ℕ) (write : Option ℤ) → ask ≢ access_ask x write

-- by the table, once nothing is owed
abbrev pub TableStops : TableView → Option Attempting → Ask → PassView → PassView → Tried → Type 0
TableStops z None ask p q t = EventStops z ask p q t
TableStops z (Some a) ask p q t = ReadStops a ask p q t ⊎ EndStops z a ask p q t

-- outside an attempt what is no plain access waits until nothing is owed
abbrev pub IsUnanswered : TableView → Option Attempting → Ask → PassView → PassView → Tried → Type 0
IsUnanswered z None ask p q t =
    AccessStops ask p q t
    ⊎ (IsNoAccess ask × PayStops p q × (t ≡ Again))
    ⊎ ((mid : PassView) × IsPaid p mid × EventStops z ask mid q t)
IsUnanswered z (Some a) ask p q t = TableStops z (Some a) ask p q t
