-- What a thread may ask where it stands.
use Rattle.std.proofs.Common.{◌≡◌, ◌<◌, ◌^◌, false, [], refl, ◌∙◌, ap, Option, Some, None, is_some}
use Rattle.atomic_table.specs.Seated.{TableId}
use Rattle.gl_bytecode.specs.Attending.{Attends, IsAskedInside}
use Rattle.gl_bytecode.specs.declared.ask.Ask.{Ask}
use Rattle.gl_bytecode.specs.declared.ask.Ask.TheVariants.{Go, Begin, End, Over, Read, Write, VRead, VWrite, Enter, Exit, Fork, Join, Alloc, Print, Input, TxBegin, TxEnd}
use Rattle.gl_bytecode.specs.declared.ask.Stage.{Stage}
use Rattle.gl_bytecode.specs.declared.ask.Stage.TheVariants.{New, Begins, Runs, Waits, Drops, Leaves, Ends, Over as IsOver}
use Rattle.gl_bytecode.specs.Machine.{Attempt, Config, ask_of}
use Rattle.gl_bytecode.specs.Programs.{Bytecode}
use Rattle.gl_draws.specs.Ties.{counted}
use Rattle.gl_events.specs.Answers.{MayCall}
use Rattle.gl_events.specs.Calls.{life_for}
use Rattle.gl_events.specs.declared.call.Call.{Call}
use Rattle.gl_events.specs.declared.call.Call.TheVariants as call
use Rattle.gl_vm.specs.Orderly.{StageIsOrderly}
use Rattle.gl_rule.specs.Lives.{life_of}
use Rattle.gl_table.specs.PassView.{Own, PassView}
use Rattle.gl_table.specs.TableView.{TableView}
use Rattle.gl_txn.specs.Attempts.{Attempting}
use Rattle.gl_riders.specs.Events.{IsAsk, IsEvent, MayAsk}
use Rattle.gl_riders.specs.Riding.{Rides, DrawsFor, life_at}
use Rattle.gl_riders.proofs.Growing.{rides_few}
use Rattle.gl_riders.proofs.Telling.{LifeFor}

-- at an orderly stage that asks something, the thread's life is one in which that may be asked
stage_life : (P : Bytecode) (c : Config) (stage : Stage) → StageIsOrderly P c stage → IsAsk (ask_of stage)
    → LifeFor (ask_of stage) (life_at stage)
stage_life P c New orderly asks = absurd asks
stage_life P c Begins orderly asks = refl
stage_life P c Runs orderly asks = absurd asks
stage_life P c (Waits Go) orderly asks = absurd asks
stage_life P c (Waits Begin) orderly asks = absurd orderly.asks
stage_life P c (Waits End) orderly asks = absurd orderly.asks
stage_life P c (Waits (Over e)) orderly asks = absurd asks
stage_life P c (Waits (Read x)) orderly asks = refl
stage_life P c (Waits (Write x a)) orderly asks = refl
stage_life P c (Waits (VRead v)) orderly asks = refl
stage_life P c (Waits (VWrite v a)) orderly asks = refl
stage_life P c (Waits (Enter o)) orderly asks = refl
stage_life P c (Waits (Exit o)) orderly asks = refl
stage_life P c (Waits (Fork f a)) orderly asks = refl
stage_life P c (Waits (Join u)) orderly asks = refl
stage_life P c (Waits (Alloc k)) orderly asks = refl
stage_life P c (Waits (Print a)) orderly asks = refl
stage_life P c (Waits Input) orderly asks = refl
stage_life P c (Waits TxBegin) orderly asks = refl
stage_life P c (Waits (TxEnd keep)) orderly asks = refl
stage_life P c (Drops failure) orderly asks = refl
stage_life P c (Leaves ending o) orderly asks = refl
stage_life P c (Ends ending) orderly asks = refl
stage_life P c (IsOver ending) orderly asks = absurd asks

-- a thread that rides on its list may ask what it asks in the life that its list gives it
pub rides_life : (P : Bytecode) (id : TableId) (c : Config) (own : Own) (txn : Option Attempting) → Rides P id c own txn
    → IsAsk (ask_of c.stage) → LifeFor (ask_of c.stage) (life_of own.mine)
rides_life P id c own txn rides asks = rw rides.life (stage_life P c c.stage rides.orderly.stage asks)

-- an option that is not something is nothing
none_some : {A : Type 0} (o : Option A) → is_some o ≡ false → o ≡ None
none_some None is = refl
none_some (Some a) is = cc

pub record IsOutside (c : Config) (txn : Option Attempting) : Type 0 where
  pub attempt : c.attempt ≡ None
  pub idle : txn ≡ None

-- what is not asked inside an attempt is asked outside
outside_by : (o : Option Attempt) (ask : Ask) → Attends o ask → (IsAskedInside ask → ⊥) → o ≡ None
outside_by None ask attends out = refl
outside_by (Some a) ask attends out = absurd (out attends)

-- what is not asked inside an attempt is asked outside one
pub outside : (P : Bytecode) (id : TableId) (c : Config) (own : Own) (txn : Option Attempting) → Rides P id c own txn
    → (IsAskedInside (ask_of c.stage) → ⊥) → IsOutside c txn
outside P id c own txn rides out =
    let none : c.attempt ≡ None = outside_by c.attempt (ask_of c.stage) rides.fits.attends out in
    record { attempt = none; idle = none_some txn (rides.running ∙ ap is_some none) }

-- an event is not asked inside an attempt
event_inside : (ask : Ask) → IsEvent ask → IsAskedInside ask → ⊥
event_inside Go event inside = event
event_inside Begin event inside = inside
event_inside End event inside = inside
event_inside (Over e) event inside = event
event_inside (Read x) event inside = event
event_inside (Write x a) event inside = event
event_inside (VRead v) event inside = inside
event_inside (VWrite v a) event inside = inside
event_inside (Enter o) event inside = inside
event_inside (Exit o) event inside = inside
event_inside (Fork f a) event inside = inside
event_inside (Join u) event inside = inside
event_inside (Alloc k) event inside = inside
event_inside (Print a) event inside = inside
event_inside Input event inside = inside
event_inside TxBegin event inside = event
event_inside (TxEnd keep) event inside = event

-- an event is something that is asked
event_asks : (ask : Ask) → IsEvent ask → IsAsk ask
event_asks Go event = absurd event
event_asks Begin event = tt
event_asks End event = tt
event_asks (Over e) event = absurd event
event_asks (Read x) event = absurd event
event_asks (Write x a) event = absurd event
event_asks (VRead v) event = tt
event_asks (VWrite v a) event = tt
event_asks (Enter o) event = tt
event_asks (Exit o) event = tt
event_asks (Fork f a) event = tt
event_asks (Join u) event = tt
event_asks (Alloc k) event = tt
event_asks (Print a) event = tt
event_asks Input event = tt
event_asks TxBegin event = absurd event
event_asks (TxEnd keep) event = absurd event

-- a thread that asks for an event is outside an attempt
pub event_outside : (P : Bytecode) (id : TableId) (c : Config) (own : Own) (txn : Option Attempting) → Rides P id c own txn
    → IsEvent (ask_of c.stage) → IsOutside c txn
event_outside P id c own txn rides event = outside P id c own txn rides (event_inside (ask_of c.stage) event)

-- a thread that asks for an event may do so in its life
pub event_life : (P : Bytecode) (id : TableId) (c : Config) (own : Own) (txn : Option Attempting) → Rides P id c own txn
    → IsEvent (ask_of c.stage) → LifeFor (ask_of c.stage) (life_of own.mine)
event_life P id c own txn rides event = rides_life P id c own txn rides (event_asks (ask_of c.stage) event)

-- what each event call asks, but how far the thread is
record MayBegin (z : TableView) (v : PassView) : Type 0 where
  table : v.own.table ≡ z.id
  held : v.own.held ≡ []
  drawn : v.own.drawn ≡ []
  owed : v.own.owed ≡ []
  spare : 0 < v.spare
  few : counted v.own.mine < 2 ^ 50

-- a pass that may begin, of a thread whose life is the call's, may make the call
may_call : (z : TableView) (v : PassView) (c : Call) → MayBegin z v → life_of v.own.mine ≡ life_for c → MayCall c z v
may_call z v c may life = record {
  table = may.table;
  held = may.held;
  drawn = may.drawn;
  owed = may.owed;
  spare = may.spare;
  few = may.few;
  life = life;
}

-- a pass that may begin, of a thread whose life allows what is asked, may ask it
may_by : (z : TableView) (v : PassView) (ask : Ask) → LifeFor ask (life_of v.own.mine) → MayBegin z v → MayAsk z v ask
may_by z v Begin life may = may_call z v call.Begin may life
may_by z v End life may = may_call z v call.End may life
may_by z v (VRead x) life may = may_call z v (call.VRead x) may life
may_by z v (VWrite x a) life may = may_call z v (call.VWrite x a) may life
may_by z v (Enter o) life may = may_call z v (call.Enter o) may life
may_by z v (Exit o) life may = may_call z v (call.Exit o) may life
may_by z v (Fork f a) life may = may_call z v (call.Fork f a) may life
may_by z v (Join u) life may = may_call z v (call.Join u) may life
may_by z v (Alloc k) life may = may_call z v (call.Alloc k) may life
may_by z v (Print a) life may = may_call z v (call.Print a) may life
may_by z v Input life may = may_call z v call.Input may life
may_by z v Go life may = tt
may_by z v (Over e) life may = tt
may_by z v (Read x) life may = tt
may_by z v (Write x a) life may = tt
may_by z v TxBegin life may = tt
may_by z v (TxEnd keep) life may = tt

-- outside an attempt a pass has drawn nothing
pub no_draws : (txn : Option Attempting) (own : Own) → txn ≡ None → DrawsFor txn own → own.drawn ≡ []
no_draws txn own none draws = (let d : DrawsFor None own = (rw none at draws) in d)

-- a thread that owes nothing and has steps to spare may ask for an event
pub may_ask : (P : Bytecode) (z : TableView) (c : Config) (v : PassView) (txn : Option Attempting) → Rides P z.id c v.own txn → v.own.owed
    ≡ [] → 0 < v.spare → IsEvent (ask_of c.stage) → MayAsk z v (ask_of c.stage)
may_ask P z c v txn rides clear room event =
    let out = event_outside P z.id c v.own txn rides event in
    may_by z v (ask_of c.stage) (event_life P z.id c v.own txn rides event)
    (record {
      table = rides.table;
      held = rides.held;
      drawn = no_draws txn v.own out.idle rides.drawn;
      owed = clear;
      spare = room;
      few = rides_few P z.id c v.own txn rides;
    })
