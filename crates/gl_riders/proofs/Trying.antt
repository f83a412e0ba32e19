-- A try of what the machine asks: what its call needs, and what it answers.
use Rattle.std.proofs.Common.{◌≡◌, ℕ, ℤ, ◌<◌, Bool, true, false, [], ◌∷◌, ◌++◌, refl, sym, ◌∙◌, ap, Option, Some, None, is_some, subst}
use Rattle.std.specs.Prelude.{◌⊎◌}
use Rattle.gl_model.specs.Entries.{Entry}
use Rattle.gl_model.specs.Form.{EndsRights}
use Rattle.gl_model.specs.declared.tx.Pair.{Pair}
use Rattle.gl_model.specs.declared.tx.Look.{Look}
use Rattle.gl_model.specs.declared.tx.Tx.{Tx}
use Rattle.gl_model.specs.declared.limits.TheConstants.{TX_VARIABLES, VARIABLES}
use Rattle.gl_vm.specs.Asking.{AsksInRange}
use Rattle.gl_bytecode.specs.Attending.{IsAskedInside}
use Rattle.gl_bytecode.specs.declared.ask.Ask.{Ask}
use Rattle.gl_bytecode.specs.declared.ask.Ask.TheVariants.{Go, Begin, End, Over, Read, Write, VRead, VWrite, Enter, Exit, Fork, Join, Alloc, Print, Input, TxBegin, TxEnd}
use Rattle.gl_bytecode.specs.declared.ask.Reply.TheVariants.{Go as Gone, Value as Answer, Raise}
use Rattle.gl_bytecode.specs.declared.limits.TheConstants.{TX_TOO_LARGE}
use Rattle.gl_bytecode.specs.Machine.{Attempt, Config, ask_of}
use Rattle.gl_bytecode.specs.Programs.{Bytecode}
use Rattle.gl_cache.specs.Words.{Words, no_words}
use Rattle.gl_events.specs.declared.done.Done.{Done}
use Rattle.gl_rows.specs.declared.accessing.Seen.{Seen}
use Rattle.gl_rule.specs.Lives.{Life, Running, life_of}
use Rattle.gl_table.specs.Doing.{told}
use Rattle.gl_table.specs.PassView.{Own, PassView}
use Rattle.gl_table.specs.RightOf.{right_of}
use Rattle.gl_table.specs.TableView.{TableView}
use Rattle.gl_txn.specs.declared.stops.TxEnd.{TxEnd as HowEnded}
use Rattle.gl_txn.specs.declared.stops.TxEnd.TheVariants.{Done as WasDone, Raised as WasRaised, Changed}
use Rattle.gl_txn.specs.Attempts.{Attempting, IsTooLarge, is_in, looked, nothing, size, with_write, written}
use Rattle.gl_txn.specs.Ending.{HasEnded, entry_of}
use Rattle.gl_txn.specs.Reading.{IsRead, ReadBy}
use Rattle.gl_txn.specs.Trying.{MayTry}
use Rattle.gl_riders.specs.Events.{IsAsk, IsDoneFor, IsEvent, MayAsk, event_entry, event_reply}
use Rattle.gl_riders.specs.Exchanges.{IsAnswered}
use Rattle.gl_rule.specs.Levels.{levels_of}
use Rattle.gl_riders.specs.Owing.{AreKept, MayMark, Owns, PlainBy, repeat_number}
use Rattle.gl_riders.specs.Riding.{DrawsFor, IsSetFor, Rides}
use Rattle.gl_riders.specs.Tries.{access_ask, access_reply, end_reply}
use Rattle.gl_riders.proofs.Asking.{event_life, event_outside, may_ask, no_draws, outside, rides_life}
use Rattle.gl_riders.proofs.Attempting.{plain_answers, begin_answers, end_answers, large_answers, read_answers, write_answers}
use Rattle.gl_riders.proofs.Growing.{rides_few}
use Rattle.gl_riders.proofs.Owings.{owns_none}
use Rattle.gl_riders.proofs.Sparings.{right_ended}
use Rattle.gl_riders.proofs.Telling.{LifeFor, event_answers}

module _ (P : Bytecode) (z : TableView) (c : Config) where
  -- ## Events

  pub event_may :
      (v : PassView) (txn : Option Attempting) (ask : Ask) → ask ≡ ask_of c.stage → Rides P z.id c v.own txn → v.own.owed ≡ []
      → 0 < v.spare → IsEvent ask →
      MayAsk z v ask
  event_may v txn ask is rides clear room event = rw is (may_ask P z c v txn rides clear room (rw is at event))

  pub event_tried :
      (own new : Own) (txn : Option Attempting) (ask : Ask) (d : Done) → ask ≡ ask_of c.stage → IsSetFor P z.key.setting
      → Rides P z.id c own txn →
      IsEvent ask → IsDoneFor z.key.setting (levels_of own.mine) ask d → new ≡ told (event_entry ask d) own
      → IsAnswered P c ask (event_reply ask d) own new txn txn
  event_tried own new txn ask d is set rides event done new_is =
      let at : Ask → Type 0 = λ a. IsEvent a → IsDoneFor z.key.setting (levels_of own.mine) a d → new ≡ told (event_entry a d) own
      → IsAnswered P c a (event_reply a d) own new txn txn in
      subst at (sym is) (λ ev done' new_is'.
      let out = event_outside P z.id c own txn rides ev in
      rw out.idle
      (event_answers P z.key.setting c (ask_of c.stage) d own new set rides.fits out.attempt ev (event_life P z.id c own txn rides ev)
      rides.levels
      (no_draws txn own out.idle rides.drawn) done' new_is')) event done new_is

  -- ## Asks of a thread that runs

  -- it is no event by which a thread begins
  abbrev pub IsRun : Ask → Type 0
  IsRun Begin = ⊥
  IsRun Go = ⊥
  IsRun (Over e) = ⊥
  IsRun End = Unit {0}
  IsRun (Read x) = Unit {0}
  IsRun (Write x a) = Unit {0}
  IsRun (VRead v) = Unit {0}
  IsRun (VWrite v a) = Unit {0}
  IsRun (Enter o) = Unit {0}
  IsRun (Exit o) = Unit {0}
  IsRun (Fork f a) = Unit {0}
  IsRun (Join u) = Unit {0}
  IsRun (Alloc k) = Unit {0}
  IsRun (Print a) = Unit {0}
  IsRun Input = Unit {0}
  IsRun TxBegin = Unit {0}
  IsRun (TxEnd keep) = Unit {0}

  -- where the ask is one of a thread that runs, the thread runs
  run_life : (ask : Ask) (life : Life) → IsRun ask → LifeFor ask life → life ≡ Running
  run_life Begin life run for = absurd run
  run_life Go life run for = absurd run
  run_life End life run for = for
  run_life (Over e) life run for = absurd run
  run_life (Read x) life run for = for
  run_life (Write x a) life run for = for
  run_life (VRead v) life run for = for
  run_life (VWrite v a) life run for = for
  run_life (Enter o) life run for = for
  run_life (Exit o) life run for = for
  run_life (Fork f a) life run for = for
  run_life (Join u) life run for = for
  run_life (Alloc k) life run for = for
  run_life (Print a) life run for = for
  run_life Input life run for = for
  run_life TxBegin life run for = for
  run_life (TxEnd keep) life run for = for

  -- an ask of a thread that runs asks something of the table
  run_asks : (ask : Ask) → IsRun ask → IsAsk ask
  run_asks Go run = absurd run
  run_asks Begin run = absurd run
  run_asks End run = tt
  run_asks (Over e) run = absurd run
  run_asks (Read x) run = tt
  run_asks (Write x a) run = tt
  run_asks (VRead v) run = tt
  run_asks (VWrite v a) run = tt
  run_asks (Enter o) run = tt
  run_asks (Exit o) run = tt
  run_asks (Fork f a) run = tt
  run_asks (Join u) run = tt
  run_asks (Alloc k) run = tt
  run_asks (Print a) run = tt
  run_asks Input run = tt
  run_asks TxBegin run = tt
  run_asks (TxEnd keep) run = tt

  -- a thread that asks what only a running thread asks runs by its list
  pub rides_run : (own : Own) (txn : Option Attempting) (ask : Ask) → ask ≡ ask_of c.stage → Rides P z.id c own txn → IsRun ask
      → life_of own.mine ≡ Running
  rides_run own txn ask is rides run =
      let run' : IsRun (ask_of c.stage) = rw is at run in
      run_life (ask_of c.stage) (life_of own.mine) run' (rides_life P z.id c own txn rides (run_asks (ask_of c.stage) run'))

  -- a read or a write of a variable is an ask of a thread that runs
  access_runs : (x : ℕ) (write : Option ℤ) → IsRun (access_ask x write)
  access_runs x None = tt
  access_runs x (Some a) = tt

  -- a thread that asks for an access runs by its list
  pub access_life : (own : Own) (txn : Option Attempting) (x : ℕ) (write : Option ℤ) → access_ask x write ≡ ask_of c.stage
      → Rides P z.id c own txn → life_of own.mine ≡ Running
  access_life own txn x write is rides = rides_run own txn (access_ask x write) is rides (access_runs x write)

  -- the variable of a read or a write in range is one that there is
  near_by : (x : ℕ) (write : Option ℤ) → AsksInRange P (access_ask x write) → x < VARIABLES
  near_by x None near = near
  near_by x (Some a) near = near

  -- the variable that it asks to access is one that there is
  pub access_near : (own : Own) (txn : Option Attempting) (x : ℕ) (write : Option ℤ) → access_ask x write ≡ ask_of c.stage
      → Rides P z.id c own txn → x < VARIABLES
  access_near own txn x write is rides = near_by x write (rw (sym is) at rides.in_range)

  -- outside an attempt no number waits
  pub outside_draws : (own : Own) (txn : Option Attempting) → txn ≡ None → Rides P z.id c own txn → own.drawn ≡ []
  outside_draws own txn idle rides = no_draws txn own idle rides.drawn

  -- an option that has nothing is none
  none_of : {A : Type 0} (o : Option A) → is_some o ≡ false → o ≡ None
  none_of None is = refl
  none_of (Some a) is = cc

  -- an access that is asked for outside an attempt may be marked, where the list has room for an entry
  pub mark : (v : PassView) (txn : Option Attempting) (x : ℕ) (write : Option ℤ) → access_ask x write ≡ ask_of c.stage
      → Rides P z.id c v.own txn → txn ≡ None → 0 < v.spare → MayMark z v
  mark v txn x write is rides idle room = record {
    table = rides.table;
    held = rides.held;
    drawn = outside_draws v.own txn idle rides;
    spare = room;
    few = rides_few P z.id c v.own txn rides;
    runs = access_life v.own txn x write is rides;
  }

  pub access_tried :
      (own new : Own) (txn : Option Attempting) (x : ℕ) (write : Option ℤ) (s : Seen) → access_ask x write ≡ ask_of c.stage
      → Rides P z.id c own txn → txn ≡ None →
      PlainBy (repeat_number (right_of own.mine x) write) x write s own new
      → IsAnswered P c (access_ask x write) (access_reply write s) own new txn txn
  access_tried own new txn x write s is rides idle by =
      let none : c.attempt ≡ None = none_of c.attempt (sym rides.running ∙ ap is_some idle) in
      rw idle (plain_answers P c x write s own new none (access_life own txn x write is rides) (outside_draws own txn idle rides) by)

  -- ## Attempts

  -- an option that has something is some attempt
  some_of : (o : Option Attempt) → is_some o ≡ true → (a : Attempt) × (o ≡ Some a)
  some_of None is = cc
  some_of (Some a) is = (a, refl)

  -- where the pass is in an attempt, so is the machine
  in_attempt : (own : Own) (txn : Option Attempting) (a : Attempting) → txn ≡ Some a → Rides P z.id c own txn → (att : Attempt)
      × (c.attempt ≡ Some att)
  in_attempt own txn a is rides = some_of c.attempt (sym rides.running ∙ ap is_some is)

  -- where the pass is in an attempt, what it drew is what the attempt's looks have
  draws_of : (own : Own) (txn : Option Attempting) (a : Attempting) → txn ≡ Some a → Rides P z.id c own txn → DrawsFor (Some a) own
  draws_of own txn a is rides = (let d : DrawsFor (Some a) own = (rw is at rides.drawn) in d)

  pub attempt_may :
      (v : PassView) (txn : Option Attempting) (a : Attempting) (ask : Ask) → txn ≡ Some a → ask ≡ ask_of c.stage → IsRun ask
      → Rides P z.id c v.own txn → v.own.owed ≡ [] → MayTry z v a
  attempt_may v txn a ask is asks run rides clear = record {
    table = rides.table;
    held = rides.held;
    owed = clear;
    few = rides_few P z.id c v.own txn rides;
    runs = rides_run v.own txn ask asks rides run;
    draws = draws_of v.own txn a is rides;
  }

  pub read_tried :
      (own new : Own) (txn after : Option Attempting) (a b : Attempting) (x : ℕ) (value : ℤ) → txn ≡ Some a → after ≡ Some b
      → Rides P z.id c own txn →
      IsRead x value a own b new → IsAnswered P c (Read x) (Answer value) own new txn after
  read_tried own new txn after a b x value is becomes rides read =
      let att = in_attempt own txn a is rides in
      rw (is, becomes) (read_answers P c att.0 att.1 a x value own new b (draws_of own txn a is rides) read)

  pub write_tried :
      (own : Own) (txn after : Option Attempting) (a b : Attempting) (x : ℕ) (value : ℤ) → txn ≡ Some a → after ≡ Some b
      → Rides P z.id c own txn →
      b ≡ with_write x value a → (is_in a x ≡ true) ⊎ (size a < TX_VARIABLES) → IsAnswered P c (Write x value) Gone own own txn after
  write_tried own txn after a b x value is becomes rides new_is room =
      let att = in_attempt own txn a is rides in
      rw (is, becomes) (write_answers P c att.0 att.1 a x value own own b (draws_of own txn a is rides) refl new_is room)

  pub large_tried :
      (own new : Own) (txn after : Option Attempting) (a b : Attempting) (x : ℕ) (write : Option ℤ) → txn ≡ Some a → after ≡ Some b → b ≡ a
      → Rides P z.id c own txn →
      new ≡ own → IsTooLarge a x → IsAnswered P c (access_ask x write) (Raise TX_TOO_LARGE) own new txn after
  large_tried own new txn after a b x write is becomes same rides same_own large =
      let att = in_attempt own txn a is rides in
      rw (is, becomes, same) (large_answers P c att.0 att.1 a x write own new (draws_of own txn a is rides) same_own large)

  pub begin_tried :
      (own : Own) (txn after : Option Attempting) (a : Attempting) → TxBegin ≡ ask_of c.stage → after ≡ Some a → Rides P z.id c own txn →
      a ≡ nothing → IsAnswered P c TxBegin Gone own own txn after
  begin_tried own txn after a asks becomes rides new =
      let at : Ask → Type 0 = λ q. IsAskedInside q → ⊥ in
      let out = outside P z.id c own txn rides (subst at asks (λ inside. inside)) in
      rw (out.idle, becomes) (begin_answers P c own own a out.attempt (no_draws txn own out.idle rides.drawn) refl new)

  pub end_tried :
      (own new : Own) (txn after : Option Attempting) (a : Attempting) (keep : Bool) (e : HowEnded) → TxEnd keep ≡ ask_of c.stage → txn
      ≡ Some a → after ≡ None →
      Rides P z.id c own txn → HasEnded a keep e own new → IsAnswered P c (TxEnd keep) (end_reply e) own new txn after
  end_tried own new txn after a keep e asks is becomes rides end =
      rw (is, becomes) (end_answers P c a keep e own new (rides_run own txn (TxEnd keep) asks rides tt) end)

-- ## Private words after an answer

-- behind an entry that ends rights, where nothing is owed, no word is kept
kept_none : (txn : Option Attempting) (own new : Own) (e : Entry) → EndsRights e → new.mine ≡ own.mine ++ e ∷ [] → new.owed ≡ []
    → AreKept txn no_words new
kept_none None own new e ends mine owed = owns_none new (λ x. ap (λ es. right_of es x) mine ∙ right_ended own.mine e x ends) owed
kept_none (Some a) own new e ends mine owed = (refl, owed)

-- the entry of an event ends rights
entry_ends : (ask : Ask) (d : Done) → EndsRights (event_entry ask d)
entry_ends Go d = tt
entry_ends Begin d = tt
entry_ends End d = tt
entry_ends (Over e) d = tt
entry_ends (Read x) d = tt
entry_ends (Write x a) d = tt
entry_ends (VRead v) d = tt
entry_ends (VWrite v a) d = tt
entry_ends (Enter o) d = tt
entry_ends (Exit o) d = tt
entry_ends (Fork f a) d = tt
entry_ends (Join u) d = tt
entry_ends (Alloc k) d = tt
entry_ends (Print a) d = tt
entry_ends Input d = tt
entry_ends TxBegin d = tt
entry_ends (TxEnd keep) d = tt

-- after an event there are no private words, if nothing is owed
pub event_kept : (txn : Option Attempting) (own new : Own) (ask : Ask) (d : Done) → own.owed ≡ [] → new ≡ told (event_entry ask d) own
    → AreKept txn no_words new
event_kept txn own new ask d clear is = kept_none txn own new (event_entry ask d) (entry_ends ask d) (ap (λ (v : Own). v.mine) is)
    (ap (λ (v : Own). v.owed) is ∙ clear)

-- the entry of an attempt's end ends rights
attempt_ends : (e : HowEnded) (tx : Tx) → EndsRights (entry_of e tx)
attempt_ends (WasDone at) tx = tt
attempt_ends (WasRaised var) tx = tt
attempt_ends (Changed var read found) tx = tt

-- after an attempt's end there are no private words, if nothing is owed
pub end_kept : (own new : Own) (after : Option Attempting) (a : Attempting) (keep : Bool) (e : HowEnded) → own.owed ≡ []
    → HasEnded a keep e own new → AreKept after no_words new
end_kept own new after a keep e clear end =
    kept_none after own new (entry_of e end.tx) (attempt_ends e end.tx) (ap (λ (v : Own). v.mine) end.own)
    (ap (λ (v : Own). v.owed) end.own ∙ clear)

-- within an attempt there are no private words, if nothing is owed
pub within_kept : (own new : Own) (after : Option Attempting) (b : Attempting) → after ≡ Some b → own.owed ≡ [] → new.owed ≡ own.owed
    → AreKept after no_words new
within_kept own new after b is clear same = rw is (refl, same ∙ clear)

-- a read within an attempt changes nothing that is owed
pub read_owed : (own new : Own) (a b : Attempting) (x : ℕ) (value : ℤ) → IsRead x value a own b new → new.owed ≡ own.owed
read_owed own new a b x value read = by_words (written a x) (looked a x) read where
  by_words : (w : Option Pair) (l : Option Look) → ReadBy w l x value a own b new → new.owed ≡ own.owed
  by_words (Some w) l r = ap (λ (v : Own). v.owed) r.2
  by_words None (Some l) r = ap (λ (v : Own). v.owed) r.2
  by_words None None r = ap (λ (v : Own). v.owed) r.3

-- outside they are the pass's own
pub outside_owns : (own : Own) (txn : Option Attempting) (words : Words) → txn ≡ None → AreKept txn words own → Owns words own
outside_owns own txn words is kept = (let at : Option Attempting → Type 0 = λ t. AreKept t words own
    in let k : AreKept None words own = subst at is kept in k)

-- outside an attempt the private words are right if they are owned
pub owns_outside : (own : Own) (txn : Option Attempting) (words : Words) → txn ≡ None → Owns words own → AreKept txn words own
owns_outside own txn words is owns = (let at : Option Attempting → Type 0 = λ t. AreKept t words own
    in let k : AreKept None words own = owns in subst at (sym is) k)
