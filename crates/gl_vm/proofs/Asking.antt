-- Each ask names what is there.
use Rattle.std.proofs.Common.{◌≡◌, ℕ, zero, suc, ℤ, pos, negsuc, ◌+◌, ◌<◌, ◌≤◌, Bool, true, false, ◌&&◌, not, ◌==◌, nat_lt, nat_le, if◌then◌else◌, List, [], ◌∷◌, Option, Some, None, refl, sym, subst, arith, rules, length}
use Rattle.std.specs.Prelude.{slice_get}
use Rattle.gl_model.specs.declared.limits.TheConstants.{THREADS, VARIABLES, VOLATILES}
use Rattle.gl_model.specs.declared.record.Ending.{Ending}
use Rattle.gl_model.specs.declared.record.Ending.TheVariants.{Halt as Halted, Uncaught, Spent}
use Rattle.gl_bytecode.specs.declared.ask.Ask.{Ask}
use Rattle.gl_bytecode.specs.declared.ask.Ask.TheVariants.{Go, Begin, End, Over as AskOver, Read, Write, VRead, VWrite, Enter as AskEnter, Exit as AskExit, Fork as AskFork, Join as AskJoin, Alloc, Print as AskPrint, Input as AskInput, TxBegin, TxEnd}
use Rattle.gl_bytecode.specs.declared.ask.Failure.{Failure}
use Rattle.gl_bytecode.specs.declared.ask.Failure.TheVariants.{Raises as RaisesOn, Spends}
use Rattle.gl_bytecode.specs.declared.ask.Outcome.{Outcome}
use Rattle.gl_bytecode.specs.declared.ask.Outcome.TheVariants.{Goes as OutGoes, Gives, GivesTwo, Sets, Jumps, Calls, Returns, Halts, Raises, Asks}
use Rattle.gl_bytecode.specs.declared.ask.Reply.{Reply}
use Rattle.gl_bytecode.specs.declared.ask.Reply.TheVariants.{Go as Gone, Value, Start, Raise, Retry}
use Rattle.gl_bytecode.specs.declared.ask.Stage.{Stage}
use Rattle.gl_bytecode.specs.declared.ask.Stage.TheVariants.{New, Begins, Runs, Waits, Drops, Leaves, Ends, Over}
use Rattle.gl_bytecode.specs.declared.instr.Catch.{Catch}
use Rattle.gl_bytecode.specs.declared.instr.Instr.{Instr}
use Rattle.gl_bytecode.specs.declared.instr.Instr.TheVariants.{Push, Pop, Dup, Swap, Load, Store, Inc, Add, Sub, Mul, Div, Rem, Neg, Eq, Lt, Le, Not, And, Or, Xor, Jump, Jz, Jnz, Call, Ret, Halt, Throw, Nop, New as NewObject, Get, Put, Vget, Vput, Enter, Exit, Fork, Join, SelfId, Txbegin, Commit, Print, Input}
use Rattle.gl_bytecode.specs.declared.limits.TheConstants.{CALLERS, DEPTH, TX_STATE}
use Rattle.gl_bytecode.specs.declared.object.Fields.{Fields}
use Rattle.gl_bytecode.specs.declared.object.Object.{Object}
use Rattle.gl_bytecode.proofs.Attending.{no_start}
use Rattle.gl_bytecode.specs.Fits.{Fits, Holds, LivesWith, NamesMonitor, WaitsFor}
use Rattle.gl_bytecode.specs.Instructions.{args_of}
use Rattle.gl_bytecode.specs.Machine.{Attempt, Config, Frame, entered, in_order, handler, leaving, held_monitor, ending_with, handled_or, thrown, failing, failed, failed_in, is_refused, again, answers, answered, dropped, returned, called, done, ran, started, settled, levels_after, begun, next, next_at, takes, takes_at, refusal_in, ask_of}
use Rattle.gl_bytecode.specs.Programs.{Bytecode, Function, function_at, instr_at}
use Rattle.gl_bytecode.specs.References.{class_number, first_variable, first_volatile, object_at, object_number, object_of}
use Rattle.gl_bytecode.specs.Rows.{row, is_zero, on_object, on_data, on_volatile, joining, top, second}
use Rattle.gl_bytecode.specs.Validity.{NamesWhatIs}
use Rattle.gl_bytecode.proofs.Soundness.{goes_at, instr_there}
use Rattle.gl_vm.specs.Asking.{AsksInRange}

-- what a row asks is in range, where the monitor that it names is
abbrev OutcomeAsks : Bytecode → Outcome → Type 0
OutcomeAsks P (Asks ask) = NamesMonitor ask → AsksInRange P ask
OutcomeAsks P _ = Unit {0}

-- what holds of both branches holds of a choice between them, and the first may use that the test passed
either_way : (Q : Outcome → Type 0) (b : Bool) (x y : Outcome) → (b ≡ true → Q x) → Q y → Q (if b then x else y)
either_way Q true x y one other = one refl
either_way Q false x y one other = other

-- all fields of what a number refers to are there
record AllThere (x : Object) : Type 0 where
  data' : x.variables + x.fields.plain ≤ VARIABLES
  volatile' : x.volatiles + x.fields.volatile ≤ VOLATILES

-- all fields of an object that was found by its numbers are there
all_there_of : (o d v : ℕ) (f : Option Fields) (x : Object) → object_of o d v f ≡ Some x → AllThere x
all_there_of o d v None x is = cc
all_there_of o d v (Some fields) x is = by_test (nat_le (d + fields.plain) VARIABLES) (nat_le (v + fields.volatile) VOLATILES) refl refl is
  where
    made : Object
    made = record { monitor = o; fields = fields; variables = d; volatiles = v }

    by_test :
        (a b : Bool) → nat_le (d + fields.plain) VARIABLES ≡ a → nat_le (v + fields.volatile) VOLATILES ≡ b →
        (if a && b then Some made else None) ≡ Some x → AllThere x
    by_test true true p q e =
        let same : made ≡ x = cc in
        rw (sym same) (record { data' = search (rules, p); volatile' = search (rules, q) })
    by_test true false p q e = cc
    by_test false b p q e = cc

-- all fields of the object that a value refers to are there
all_there : (P : Bytecode) (value : ℤ) (x : Object) → object_at P value ≡ Some x → AllThere x
all_there P (pos zero) x is = cc
all_there P (pos (suc n)) x is = all_there_of (object_number n) (first_variable n) (first_volatile n)
    (slice_get P.classes (class_number n)) x is
all_there P (negsuc n) x is = cc

-- an instruction on an object asks in range, where it does on each object
on_some : (P : Bytecode) (o : Option Object) (f : Object → Outcome) → ((x : Object) → o ≡ Some x → OutcomeAsks P (f x))
    → OutcomeAsks P (on_object o f)
on_some P None f there = tt
on_some P (Some x) f there = there x refl

-- an access to a plain field asks in range, where an ask of each variable does
data_asks : (P : Bytecode) (value : ℤ) (k : ℕ) (ask : ℕ → Ask) → ((x : ℕ) → x < VARIABLES → AsksInRange P (ask x))
    → OutcomeAsks P (on_object (object_at P value) (on_data k (λ x. Asks (ask x))))
data_asks P value k ask right = on_some P (object_at P value) _
    (λ x is. either_way (OutcomeAsks P) (nat_lt k x.fields.plain) _ _
    (λ lt m. right (x.variables + k) (let all = (all_there P value x is).data' in let less : k < x.fields.plain = search (rules, lt)
    in omega arith)) tt)

-- an access to a volatile field asks in range, where an ask of each volatile does
volatile_asks : (P : Bytecode) (value : ℤ) (k : ℕ) (ask : ℕ → Ask) → ((x : ℕ) → x < VOLATILES → AsksInRange P (ask x))
    → OutcomeAsks P (on_object (object_at P value) (on_volatile k (λ x. Asks (ask x))))
volatile_asks P value k ask right = on_some P (object_at P value) _
    (λ x is. either_way (OutcomeAsks P) (nat_lt k x.fields.volatile) _ _
    (λ lt m. right (x.volatiles + k) (let all = (all_there P value x is).volatile' in let less : k < x.fields.volatile = search (rules, lt)
    in omega arith)) tt)

-- an instruction on an object's monitor asks in range, where the monitor that it names is there
monitor_asks : (P : Bytecode) (value : ℤ) (ask : ℕ → Ask) → ((o : ℕ) → NamesMonitor (ask o) → AsksInRange P (ask o))
    → OutcomeAsks P (on_object (object_at P value) (λ x. Asks (ask x.monitor)))
monitor_asks P value ask right = on_some P (object_at P value) _ (λ x is. right x.monitor)

-- joining a thread asks in range
joining_asks : (P : Bytecode) (t : ℕ) (a : ℤ) → OutcomeAsks P (joining t a)
joining_asks P t (pos u) = either_way (OutcomeAsks P) (nat_lt u THREADS && not (u == t)) _ _
    (λ both m. below (nat_lt u THREADS) (not (u == t)) refl both) tt where
      below : (a b : Bool) → nat_lt u THREADS ≡ a → (a && b) ≡ true → u < THREADS
      below true b p both = search (rules, p)
      below false b p both = cc
joining_asks P t (negsuc u) = tt

-- what each instruction's row asks is in range, where the instruction names what is there
row_asks : (P : Bytecode) (F : Function) (t : ℕ) (locals stack : List ℤ) (i : Instr) → NamesWhatIs P F i
    → OutcomeAsks P (row P t locals stack i)
row_asks P F t locals stack (Push n) names = tt
row_asks P F t locals stack Pop names = tt
row_asks P F t locals stack Dup names = tt
row_asks P F t locals stack Swap names = tt
row_asks P F t locals stack (Load k) names = tt
row_asks P F t locals stack (Store k) names = tt
row_asks P F t locals stack (Inc k n) names = tt
row_asks P F t locals stack Add names = tt
row_asks P F t locals stack Sub names = tt
row_asks P F t locals stack Mul names = tt
row_asks P F t locals stack Div names = either_way (OutcomeAsks P) (is_zero (top stack)) _ _ (λ e. tt) tt
row_asks P F t locals stack Rem names = either_way (OutcomeAsks P) (is_zero (top stack)) _ _ (λ e. tt) tt
row_asks P F t locals stack Neg names = tt
row_asks P F t locals stack Eq names = tt
row_asks P F t locals stack Lt names = tt
row_asks P F t locals stack Le names = tt
row_asks P F t locals stack Not names = tt
row_asks P F t locals stack And names = tt
row_asks P F t locals stack Or names = tt
row_asks P F t locals stack Xor names = tt
row_asks P F t locals stack (Jump to) names = tt
row_asks P F t locals stack (Jz to) names = either_way (OutcomeAsks P) (is_zero (top stack)) _ _ (λ e. tt) tt
row_asks P F t locals stack (Jnz to) names = either_way (OutcomeAsks P) (is_zero (top stack)) _ _ (λ e. tt) tt
row_asks P F t locals stack (Call f) names = tt
row_asks P F t locals stack Ret names = tt
row_asks P F t locals stack Halt names = tt
row_asks P F t locals stack (Throw code) names = tt
row_asks P F t locals stack Nop names = tt
row_asks P F t locals stack (NewObject c) names = λ m. names
row_asks P F t locals stack (Get k) names = data_asks P (top stack) k (λ x. Read x) (λ x lt. lt)
row_asks P F t locals stack (Put k) names = data_asks P (second stack) k (λ x. Write x (top stack)) (λ x lt. lt)
row_asks P F t locals stack (Vget k) names = volatile_asks P (top stack) k (λ x. VRead x) (λ x lt. lt)
row_asks P F t locals stack (Vput k) names = volatile_asks P (second stack) k (λ x. VWrite x (top stack)) (λ x lt. lt)
row_asks P F t locals stack Enter names = monitor_asks P (top stack) (λ o. AskEnter o) (λ o lt. lt)
row_asks P F t locals stack Exit names = monitor_asks P (top stack) (λ o. AskExit o) (λ o lt. lt)
row_asks P F t locals stack (Fork f) names = λ m. names
row_asks P F t locals stack Join names = joining_asks P t (top stack)
row_asks P F t locals stack Txbegin names = λ m. tt
row_asks P F t locals stack Commit names = λ m. tt
row_asks P F t locals stack SelfId names = tt
row_asks P F t locals stack Print names = λ m. tt
row_asks P F t locals stack Input names = λ m. tt

-- ## A whole step

-- what a machine at this stage asks is in range, where the monitor that it names is there
abbrev StageAsks : Bytecode → Stage → Type 0
StageAsks P stage = NamesMonitor (ask_of stage) → AsksInRange P (ask_of stage)

-- a machine that ends asks in range
ending_asks : (P : Bytecode) (ending : Ending) (c : Config) → StageAsks P (ending_with ending c).stage
ending_asks P ending c = by_monitor (held_monitor c.levels) where
  by_monitor : (o : Option ℕ) → StageAsks P (leaving ending o)
  by_monitor None = λ m. tt
  by_monitor (Some o) = λ m. m

-- a machine whose frame handles an exception asks in range, where it does otherwise
handled_asks : (P : Bytecode) (h : Option Catch) (code : ℕ) (c otherwise : Config) → StageAsks P otherwise.stage
    → StageAsks P (handled_or h code c otherwise).stage
handled_asks P None code c otherwise other = other
handled_asks P (Some h) code c otherwise other = λ m. tt

-- a machine asks in range while an exception goes up its frames
thrown_asks : (P : Bytecode) (code : ℕ) (c : Config) (callers : List Frame) → StageAsks P (thrown P code c callers).stage
thrown_asks P code c [] = handled_asks P (handler P c.frame) code c _ (ending_asks P (Uncaught code) c)
thrown_asks P code c (caller ∷ callers) =
    handled_asks P (handler P c.frame) code c _ (thrown_asks P code (record c { frame = caller; callers = callers }) callers)

-- a machine whose failure goes on up its frames, or ends it, asks in range
failing_asks : (P : Bytecode) (failure : Failure) (c : Config) → StageAsks P (failing P failure c).stage
failing_asks P (RaisesOn code) c = thrown_asks P code c c.callers
failing_asks P Spends c = ending_asks P Spent c

-- a machine whose instruction fails asks in range
failed_asks : (P : Bytecode) (failure : Failure) (c : Config) → StageAsks P (failed P failure c).stage
failed_asks P failure c = by_attempt c.attempt where
  by_attempt : (o : Option Attempt) → StageAsks P (failed_in o P failure c).stage
  by_attempt None = failing_asks P failure c
  by_attempt (Some a) = λ m. tt

-- a machine whose call returns asks in range
returned_asks : (P : Bytecode) (a : ℤ) (c : Config) (callers : List Frame) → StageAsks P (returned P a c callers).stage
returned_asks P a c [] = ending_asks P Halted c
returned_asks P a c (caller ∷ callers) = λ m. tt

-- a machine that calls a function asks in range
called_asks : (P : Bytecode) (f : ℕ) (c : Config) → StageAsks P (called P f c).stage
called_asks P f c = by_room (length c.callers == CALLERS) where
  by_room :
      (b : Bool) → StageAsks P (if b then failed P (RaisesOn DEPTH) c else record c {
        frame = entered f (in_order (args_of (function_at P f)) c.frame.stack);
        callers = c.frame ∷ c.callers;
        stage = Runs;
      }).stage
  by_room true = failed_asks P (RaisesOn DEPTH) c
  by_room false = λ m. tt

-- a machine that has done an instruction asks in range, where the instruction's outcome does
done_asks : (P : Bytecode) (i : Instr) (c : Config) (o : Outcome) → OutcomeAsks P o → StageAsks P (done P i c o).stage
done_asks P i c OutGoes asks = λ m. tt
done_asks P i c (Gives a) asks = λ m. tt
done_asks P i c (GivesTwo a b) asks = λ m. tt
done_asks P i c (Sets k a) asks = λ m. tt
done_asks P i c (Jumps to) asks = λ m. tt
done_asks P i c (Calls f) asks = called_asks P f c
done_asks P i c (Returns a) asks = returned_asks P a c c.callers
done_asks P i c Halts asks = ending_asks P Halted c
done_asks P i c (Raises code) asks = failed_asks P (RaisesOn code) c
done_asks P i c (Asks ask) asks = asks

-- a machine that runs an instruction asks in range, where the instruction names what is there
ran_asks : (P : Bytecode) (F : Function) (c : Config) (i : Instr) → NamesWhatIs P F i → StageAsks P (ran P c (Some i)).stage
ran_asks P F c i names = by_refusal (is_refused c.attempt c i) where
  by_refusal :
      (b : Bool) → StageAsks P (if b then failed P (RaisesOn TX_STATE) c
      else done P i c (row P c.thread c.frame.locals c.frame.stack i)).stage
  by_refusal true = failed_asks P (RaisesOn TX_STATE) c
  by_refusal false = done_asks P i c _ (row_asks P F c.thread c.frame.locals c.frame.stack i names)

-- a running machine that starts its next instruction asks in range
started_asks : (P : Bytecode) (c : Config) → Fits P c → c.stage ≡ Runs → StageAsks P (started P c).stage
started_asks P c fits is = by_steps (c.counted == c.limit) where
  at : Stage → Type 0
  at x = Holds P fits.depths c x

  lives : LivesWith P fits.depths c
  lives = subst at is fits.keeps

  runs : StageAsks P (ran P (record c { counted = c.counted + 1 }) (instr_at P c.frame.function c.frame.place)).stage
  runs =
      let g = goes_at P fits.depths fits.sound c.frame lives.frame in
      rw (instr_there P fits.depths c.frame lives.frame g)
      (ran_asks P lives.frame.function (record c { counted = c.counted + 1 }) g.instr g.names)

  by_steps :
      (b : Bool) →
      StageAsks P (if b then failed P Spends c else ran P (record c { counted = c.counted + 1 })
      (instr_at P c.frame.function c.frame.place)).stage
  by_steps true = failed_asks P Spends c
  by_steps false = runs

-- a machine that may go back to its attempt's beginning asks in range
again_asks : (P : Bytecode) (o : Option Attempt) (c : Config) → StageAsks P c.stage → StageAsks P (again o c).stage
again_asks P None c kept = kept
again_asks P (Some a) c kept = λ m. tt

-- a machine whose instruction gets its answer asks in range
answered_asks : (P : Bytecode) (values : List ℤ) (c : Config) (f : Frame) (ask : Ask) → WaitsFor P f ask
    → StageAsks P (answered P values c (instr_at P f.function f.place)).stage
answered_asks P values c f ask waits = rw waits.there (λ m. tt)

-- what may be answered by a retry is the end of an attempt, which is in range
tx_end_only : (n : ℕ) (P : Bytecode) (ask : Ask) → answers n ask Retry ≡ true → StageAsks P (Waits ask)
tx_end_only n P (TxEnd keep) is = λ m. tt
tx_end_only n P Go is = λ m. tt
tx_end_only n P Begin is = λ m. tt
tx_end_only n P End is = λ m. tt
tx_end_only n P (AskOver e) is = λ m. tt
tx_end_only n P (Read x) is = cc
tx_end_only n P (Write x a) is = cc
tx_end_only n P (VRead v) is = cc
tx_end_only n P (VWrite v a) is = cc
tx_end_only n P (AskEnter o) is = cc
tx_end_only n P (AskExit o) is = cc
tx_end_only n P (AskFork f b) is = cc
tx_end_only n P (AskJoin u) is = cc
tx_end_only n P TxBegin is = λ m. tt
tx_end_only n P (Alloc c) is = cc
tx_end_only n P (AskPrint a) is = λ m. tt
tx_end_only n P AskInput is = λ m. tt

-- a machine whose ask is answered asks in range
settled_asks :
    (P : Bytecode) (c : Config) (ask : Ask) (reply : Reply) (n : ℕ) → WaitsFor P c.frame ask → c.stage ≡ Waits ask →
    answers n ask reply ≡ true → StageAsks P (settled P c ask reply).stage
settled_asks P c ask Gone n waits is fits = answered_asks P [] _ c.frame ask waits
settled_asks P c ask (Value a) n waits is fits = answered_asks P (a ∷ []) c c.frame ask waits
settled_asks P c ask (Raise code) n waits is fits = failed_asks P (RaisesOn code) _
settled_asks P c ask Retry n waits is fits = again_asks P c.attempt c (rw is (tx_end_only n P ask fits))
settled_asks P c ask (Start f a) n waits is fits = absurd (no_start n ask f a fits)

-- a machine whose attempt was dropped asks in range
dropped_asks : (P : Bytecode) (failure : Failure) (c : Config) (reply : Reply) → StageAsks P c.stage
    → StageAsks P (dropped P failure c reply).stage
dropped_asks P (RaisesOn code) c (Raise other) kept = thrown_asks P other _ c.callers
dropped_asks P (RaisesOn code) c Retry kept = again_asks P c.attempt c kept
dropped_asks P (RaisesOn code) c Gone kept = thrown_asks P code _ c.callers
dropped_asks P (RaisesOn code) c (Value a) kept = thrown_asks P code _ c.callers
dropped_asks P (RaisesOn code) c (Start f a) kept = thrown_asks P code _ c.callers
dropped_asks P Spends c reply kept = ending_asks P Spent (record c { attempt = None })

-- a machine that begins asks in range
begun_asks : (P : Bytecode) (reply : Reply) (c : Config) → StageAsks P c.stage → StageAsks P (begun P reply c).stage
begun_asks P (Start f a) c kept = λ m. tt
begun_asks P Gone c kept = kept
begun_asks P (Value a) c kept = kept
begun_asks P (Raise code) c kept = kept
begun_asks P Retry c kept = kept

-- a machine asks in range after each reply that it takes at its stage
next_asks :
    (P : Bytecode) (c : Config) (reply : Reply) (stage : Stage) → c.stage ≡ stage → Fits P c →
    takes_at stage c.attempt reply ≡ true → StageAsks P (next_at stage P c reply).stage
next_asks P c reply New is fits taken = λ m. tt
next_asks P c reply Begins is fits taken = begun_asks P reply c (rw is (λ m. tt))
next_asks P c reply Runs is fits taken = started_asks P c fits is
next_asks P c reply (Waits ask) is fits taken =
    let at : Stage → Type 0 = λ s. Holds P fits.depths c s in
    let lives : LivesWith P fits.depths c = subst at is fits.keeps in
    settled_asks P c ask reply (refusal_in c.attempt) (rw is at lives.stage) is taken
next_asks P c reply (Drops failure) is fits taken = dropped_asks P failure c reply (rw is (λ m. tt))
next_asks P c reply (Leaves ending o) is fits taken = ending_asks P ending (record c { levels = levels_after (AskExit o) c.levels })
next_asks P c reply (Ends ending) is fits taken = λ m. tt
next_asks P c reply (Over ending) is fits taken = rw is (λ m. tt)

-- what a machine asks next is in range, where the monitor that it names is
pub asks_in_range :
    (P : Bytecode) (c : Config) (reply : Reply) → Fits P c → takes c reply ≡ true →
    NamesMonitor (ask_of (next P c reply).stage) → AsksInRange P (ask_of (next P c reply).stage)
asks_in_range P c reply fits taken = next_asks P c reply c.stage refl fits taken
