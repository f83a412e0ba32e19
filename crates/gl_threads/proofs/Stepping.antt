-- A turn of a thread.
use Rattle.std.proofs.Common.{◌≡◌, ℕ, zero, suc, ◌<◌, Bool, true, false, List, [], ◌∷◌, ◌++◌, length, refl, sym, ◌∙◌, ap, inl, inr, Option, Some, None, subst, is_some}
use Rattle.std.specs.Prelude.{nat_lt, if◌then◌else◌}
use Rattle.std.proofs.lemmas.List.{append-nil}
use Rattle.atomic_table.specs.Seated.{TableId}
use Rattle.gl_model.specs.declared.record.Ending.{Ending}
use Rattle.gl_model.specs.Entries.{Entry, Sync, Commit, Plain, Abort, Trim, Over as IsOverEntry}
use Rattle.gl_model.specs.Form.{At, IsOver as EndsList}
use Rattle.gl_bytecode.specs.Attending.{runs_after}
use Rattle.gl_bytecode.specs.declared.ask.Ask.{Ask}
use Rattle.gl_bytecode.specs.declared.ask.Ask.TheVariants.{Go, Begin, End, Over, Read, Write, VRead, VWrite, Enter, Exit, Fork, Join, Alloc, Print, Input, TxBegin, TxEnd}
use Rattle.gl_bytecode.specs.declared.ask.Reply.{Reply}
use Rattle.gl_bytecode.specs.declared.ask.Reply.TheVariants.{Go as Gone}
use Rattle.gl_bytecode.specs.declared.ask.Stage.{Stage}
use Rattle.gl_bytecode.specs.declared.ask.Stage.TheVariants.{New, Begins, Runs as IsRuns, Waits, Drops, Leaves, Ends, Over as IsOver}
use Rattle.gl_bytecode.specs.Machine.{Attempt, Config, ask_of, next, takes}
use Rattle.gl_bytecode.specs.Programs.{Bytecode}
use Rattle.gl_bytecode.specs.Runs.{Quiet, Progress, Runs, is_quiet}
use Rattle.gl_bytecode.proofs.Growth.{along_over}
use Rattle.gl_cache.specs.Words.{Words}
use Rattle.gl_draws.proofs.Pushes.{at_new}
use Rattle.gl_rows.specs.Sweeping.{IsSwept as HasSwept}
use Rattle.gl_vm.specs.Asking.{AsksInRange}
use Rattle.gl_vm.specs.Orderly.{StageIsOrderly}
use Rattle.gl_vm.proofs.Work.{Falls, step_falls}
use Rattle.gl_events.specs.Settling.{MaySettle, trims}
use Rattle.gl_rule.specs.Closed.{IsDone}
use Rattle.gl_rule.specs.Lives.{Life, Unbegun, Running, Ended, Closed, life_after, life_from, life_of}
use Rattle.gl_table.specs.PassView.{Own, PassView}
use Rattle.gl_table.specs.TableView.{TableView}
use Rattle.gl_txn.specs.Attempts.{Attempting}
use Rattle.gl_riders.specs.Events.{IsAsk}
use Rattle.gl_riders.specs.Exchanges.{IsAnswered}
use Rattle.gl_riders.specs.Owing.{AreKept}
use Rattle.gl_riders.specs.Riding.{Rides, life_at, progress_of}
use Rattle.gl_riders.specs.Sparing.{IsSpared}
use Rattle.gl_riders.specs.Sweeping.{AreTrims, IsSwept}
use Rattle.gl_riders.proofs.Asking.{rides_life}
use Rattle.gl_riders.proofs.Growing.{rides_on, rides_paid, rides_swept, takes_told}
use Rattle.gl_riders.proofs.Lists.{IsOpen}
use Rattle.gl_riders.proofs.Owings.{owns_swept}
use Rattle.gl_riders.proofs.Sparings.{spares_note}
use Rattle.gl_riders.proofs.Telling.{LifeFor}
use Rattle.gl_threads.specs.Aboard.{IsFinished}

-- to go on leaves no entry, inside an attempt or outside
quiet_go : (o : Option Attempt) (p : Progress) → is_quiet o p Go Gone ≡ true
quiet_go None p = refl
quiet_go (Some a) p = refl

-- a thread that rides is answered rightly when it goes on
go_answered : (P : Bytecode) (z : TableId) (c : Config) (own : Own) (txn : Option Attempting) → Rides P z c own txn
    → IsAnswered P c Go Gone own own txn txn
go_answered P z c own txn rides = record {
  exchange = Quiet Gone;
  gives = rw (quiet_go c.attempt (progress_of c txn)) refl;
  kept = refl;
  fitting = refl;
  leaves = tt;
  starts = tt;
  mine = sym (append-nil own.mine);
  rest = refl;
  repeats = tt;
  looks = refl;
  writes = refl;
  running = refl;
  life = refl;
  levels = refl;
  drawn = rides.drawn;
}

-- the thread after a turn, and what has not changed
pub record Stays (P : Bytecode) (z : TableId) (c d : Config) (own new : Own) (after : Option Attempting) : Type 0 where
  pub rides : Rides P z d new after
  pub limit : d.limit ≡ c.limit
  pub id : new.id ≡ own.id
  pub table : new.table ≡ own.table

-- a thread that rides stays, with what it does next, after a right answer to what it asked
pub answered_on :
    (P : Bytecode) (z : TableId) (c d : Config) (own mid new : Own) (txn after : Option Attempting) (ask r : Ask) (reply : Reply)
    → Rides P z c own txn →
    mid ≡ own → ask ≡ ask_of c.stage → IsAnswered P c ask reply mid new txn after → d ≡ next P c reply → r ≡ ask_of d.stage
    → AsksInRange P r →
    is_some d.attempt ≡ runs_after (ask_of c.stage) (is_some c.attempt) → Stays P z c d own new after
answered_on P z c d own mid new txn after ask r reply rides same asks answered steps is range attempt =
    let a : IsAnswered P c (ask_of c.stage) reply own new txn after =
    (let at : Ask × Own → Type 0 = λ t. IsAnswered P c t.0 reply t.1 new txn after in subst at (λ i. (asks i, same i)) answered) in
    let range' : AsksInRange P (ask_of (next P c reply).stage) =
    (let at : Config → Type 0 = λ e. AsksInRange P (ask_of e.stage) in subst at steps (rw is at range)) in
    let taken : takes c reply ≡ true = takes_told P c reply rides.orderly a.fitting a.leaves in
    let f : Falls P c (ask_of c.stage) reply (next P c reply) = step_falls P c reply rides.orderly taken in
    record {
      rides = rw steps (rides_on P z c reply own new txn after rides a range' (ap (λ (e : Config). is_some e.attempt) (sym steps)
          ∙ attempt));
      limit = ap (λ (e : Config). e.limit) steps ∙ f.limit;
      id = ap (λ (v : Own). v.id) a.rest;
      table = ap (λ (v : Own). v.table) a.rest;
    }

-- a thread that rides takes a right answer to what it asked
pub answered_may :
    (P : Bytecode) (z : TableId) (c : Config) (own mid new : Own) (txn after : Option Attempting) (ask : Ask) (reply : Reply)
    → Rides P z c own txn →
    ask ≡ ask_of c.stage → IsAnswered P c ask reply mid new txn after → takes c reply ≡ true
answered_may P z c own mid new txn after ask reply rides asks answered =
    let at : Ask → Type 0 = λ t. IsAnswered P c t reply mid new txn after in
    let a : IsAnswered P c (ask_of c.stage) reply mid new txn after = subst at asks answered in
    takes_told P c reply rides.orderly a.fitting a.leaves

-- a thread that rides stays, with what it does next, when it asked to go on
pub goes_on :
    (P : Bytecode) (z : TableId) (c d : Config) (own mid : Own) (txn : Option Attempting) (r : Ask) → Rides P z c own txn → mid ≡ own → Go
    ≡ ask_of c.stage →
    d ≡ next P c Gone → r ≡ ask_of d.stage → AsksInRange P r → is_some d.attempt ≡ runs_after (ask_of c.stage) (is_some c.attempt)
    → Stays P z c d own mid txn
goes_on P z c d own mid txn r rides same asks steps is range attempt =
    answered_on P z c d own mid mid txn txn Go r Gone rides same asks (rw same (go_answered P z c own txn rides)) steps is range attempt

-- nothing was done but to write some words back, and the machine stands where it stood
pub rides_again :
    (P : Bytecode) (z : TableId) (c d : Config) (own new : Own) (txn after : Option Attempting) → Rides P z c own txn → d ≡ c → new
    ≡ record own { owed = new.owed } → after ≡ txn →
    Stays P z c d own new after
rides_again P z c d own new txn after rides still paid idle = record {
  rides = rw (still, idle) (rides_paid P z c own new txn rides paid);
  limit = ap (λ (e : Config). e.limit) still;
  id = ap (λ (v : Own). v.id) paid;
  table = ap (λ (v : Own). v.table) paid;
}

-- a sweep leaves the private words
pub kept_swept : (words : Words) (txn : Option Attempting) (old new : Own) → IsSwept old new → AreKept txn words old → AreKept txn words new
kept_swept words None old new swept kept = owns_swept words old new swept kept
kept_swept words (Some a) old new swept kept = (kept.0, ap (λ (v : Own). v.owed) swept.own ∙ kept.1)

-- a thread that rides stays after its list was swept, if its life is open
pub rides_swept_on :
    (P : Bytecode) (z : TableId) (c : Config) (old new : Own) (txn : Option Attempting) → Rides P z c old txn → IsOpen (life_of old.mine)
    → IsSwept old new → Stays P z c c old new txn
rides_swept_on P z c old new txn rides goes s = record {
  rides = rides_swept P z c old new txn rides goes s;
  limit = refl;
  id = ap (λ (v : Own). v.id) s.own;
  table = ap (λ (v : Own). v.table) s.own;
}

-- a sweep adds a Trim, or none
pub swept_by : (t : TableView) (p q : PassView) (low : ℕ) → HasSwept t p q low → IsSwept p.own q.own
swept_by t p q low s = record { trims = trims s.before low; are_trims = by (nat_lt s.before low); own = s.own }
  where
    by : (b : Bool) → AreTrims (if b then Trim low ∷ [] else [])
    by true = tt
    by false = tt

-- a thread that asks has not ended
asks_open : (ask : Ask) (l : Life) → IsAsk ask → LifeFor ask l → IsOpen l
asks_open Go l is for = absurd is
asks_open Begin l is for = inl for
asks_open End l is for = inr for
asks_open (Over e) l is for = absurd is
asks_open (Read x) l is for = inr for
asks_open (Write x a) l is for = inr for
asks_open (VRead v) l is for = inr for
asks_open (VWrite v a) l is for = inr for
asks_open (Enter o) l is for = inr for
asks_open (Exit o) l is for = inr for
asks_open (Fork f a) l is for = inr for
asks_open (Join u) l is for = inr for
asks_open (Alloc k) l is for = inr for
asks_open (Print a) l is for = inr for
asks_open Input l is for = inr for
asks_open TxBegin l is for = inr for
asks_open (TxEnd keep) l is for = inr for

-- a thread that rides and asks something has an open life
pub ask_open : (P : Bytecode) (z : TableId) (c : Config) (own : Own) (txn : Option Attempting) (ask : Ask) → ask ≡ ask_of c.stage
    → IsAsk ask → Rides P z c own txn → IsOpen (life_of own.mine)
ask_open P z c own txn ask asks is rides = asks_open ask (life_of own.mine) is (rw asks (rides_life P z c own txn rides (rw asks at is)))

-- a thread that rides, asks something and has steps to spare may be settled
pub may_sweep :
    (P : Bytecode) (t : TableView) (c : Config) (v : PassView) (txn : Option Attempting) (ask : Ask) → Rides P t.id c v.own txn → ask
    ≡ ask_of c.stage → IsAsk ask → 0 < v.spare → MaySettle t v
may_sweep P t c v txn ask rides asks is room =
    record { table = rides.table; held = rides.held; spare = room; goes_on = ask_open P t.id c v.own txn ask asks is rides }

-- where Over stands, the list is closed
closed_stays : (es : List Entry) → life_from Closed es ≡ Closed
closed_stays [] = refl
closed_stays (e ∷ es) = closed_stays es

-- after an entry that ends the list a life is closed
over_closes : (life : Life) (e : Entry) → EndsList e → life_after life e ≡ Closed
over_closes Unbegun (IsOverEntry e) is = refl
over_closes Running (IsOverEntry e) is = refl
over_closes Ended (IsOverEntry e) is = refl
over_closes Closed (IsOverEntry e) is = refl
over_closes life (Sync at act value) is = absurd is
over_closes life (Commit at tx) is = absurd is
over_closes life (Plain x n k w v r) is = absurd is
over_closes life (Abort tx why) is = absurd is
over_closes life (Trim low) is = absurd is

-- a list with an entry that ends it leaves the life closed
closed_by : (life : Life) (es : List Entry) (i : ℕ) (e : Entry) → At es i e → EndsList e → life_from life es ≡ Closed
closed_by life [] i e at is = absurd (cc)
closed_by life (x ∷ es) zero e at is =
    let same : x ≡ e = cc in
    let P : Entry → Type 0 = λ f. EndsList f in
    ap (λ l. life_from l es) (over_closes life x (subst P (sym same) is)) ∙ closed_stays es
closed_by life (x ∷ es) (suc i) e at is = closed_by (life_after life x) es i e at is

-- an open life is not closed
open_not_closed : (l : Life) → IsOpen l → l ≡ Closed → ⊥
open_not_closed Unbegun goes is = cc
open_not_closed Running goes is = cc
open_not_closed Ended goes is = cc
open_not_closed Closed goes is = elim goes [ inl e ↦ (cc) | inr e ↦ (cc) ]

-- a thread that rides, asks something and is done is finished
pub home_unforked :
    (P : Bytecode) (z : TableId) (c : Config) (v : PassView) (txn : Option Attempting) (ask : Ask) → Rides P z c v.own txn → ask
    ≡ ask_of c.stage → IsAsk ask →
    IsDone v.own.mine v.quiet → IsFinished P c.limit z v
home_unforked P z c v txn ask rides asks is done =
    record { table = rides.table; held = rides.held; done = done; runs = λ some. absurd (some (empty done)); spared = rides.spares.spared }
  where
    empty : IsDone v.own.mine v.quiet → v.own.mine ≡ []
    empty (inl over) = absurd (open_not_closed (life_of v.own.mine) (ask_open P z c v.own txn ask asks is rides)
        (closed_by Unbegun v.own.mine over.0 over.1.0 over.1.1 over.1.2))
    empty (inr none) = none.0

-- where nothing comes any more
over_stage : (P : Bytecode) (c : Config) (e : Ending) (stage : Stage) → StageIsOrderly P c stage → Over e ≡ ask_of stage → stage ≡ IsOver e
over_stage P c e New orderly asks = cc
over_stage P c e Begins orderly asks = cc
over_stage P c e IsRuns orderly asks = cc
over_stage P c e (Waits ask) orderly asks =
    absurd (let at : Ask → Type 0 = λ q. StageIsOrderly P c (Waits q)
    in let o : StageIsOrderly P c (Waits (Over e)) = subst at (sym asks) orderly in o.asks)
over_stage P c e (Drops failure) orderly asks = cc
over_stage P c e (Leaves ending o) orderly asks = cc
over_stage P c e (Ends ending) orderly asks = cc
over_stage P c e (IsOver ending) orderly asks = (let is : e ≡ ending = cc in ap IsOver (sym is))

-- a thread that rides and asks to end its list has ended
pub ends_over : (P : Bytecode) (z : TableId) (c : Config) (own : Own) (txn : Option Attempting) (e : Ending) → Rides P z c own txn → Over e
    ≡ ask_of c.stage → life_of own.mine ≡ Ended
ends_over P z c own txn e rides asks =
    let is : c.stage ≡ IsOver e = over_stage P c e c.stage rides.orderly.stage asks in
    rides.life ∙ ap life_at is

-- a thread that rides and ends its list is finished
pub home_over :
    (P : Bytecode) (z : TableId) (c : Config) (own : Own) (v : PassView) (txn : Option Attempting) (e : Ending) → Rides P z c own txn →
    v.own ≡ record own { mine = own.mine ++ IsOverEntry e ∷ [] } → Over e ≡ ask_of c.stage → IsFinished P c.limit z v
home_over P z c own v txn e rides whole asks =
    let stage : c.stage ≡ IsOver e = over_stage P c e c.stage rides.orderly.stage asks in
    let mine : v.own.mine ≡ own.mine ++ IsOverEntry e ∷ [] = ap (λ (u : Own). u.mine) whole in
    let id : v.own.id ≡ own.id = ap (λ (u : Own). u.id) whole in
    let at : ℕ × List Entry → Type 0 = λ t. Runs P c.limit t.0 t.1 in
    let runs : Runs P c.limit v.own.id v.own.mine =
    subst at (λ i. (sym id i, sym mine i)) (along_over P c.limit own.id own.mine (progress_of c txn) e rides.along stage) in
    let done : List Entry → Type 0 = λ es. IsDone es v.quiet in
    record {
      table = ap (λ (u : Own). u.table) whole ∙ rides.table;
      held = ap (λ (u : Own). u.held) whole ∙ rides.held;
      done = subst done (sym mine) (inl (length own.mine, (IsOverEntry e, at_new own.mine (IsOverEntry e), tt)));
      runs = λ some. runs;
      spared =
          (let at' : List Entry → Type 0 = λ es. IsSpared es in
          subst at' (sym mine) (spares_note own.mine (IsOverEntry e) rides.spares tt).spared);
    }
