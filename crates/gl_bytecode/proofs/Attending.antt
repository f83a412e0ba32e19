-- Inside an attempt a machine asks to go on, for reads, writes and the attempt's end alone, and never ends.
use Rattle.std.proofs.Common.{◌≡◌, ℕ, ℤ, pos, negsuc, ◌+◌, ◌≤◌, Bool, true, false, ◌&&◌, not, ◌==◌, nat_lt, if◌then◌else◌, List, [], ◌∷◌, Option, Some, None, refl, ◌∙◌, ap, arith, length, is_some}
use Rattle.gl_model.specs.declared.limits.TheConstants.{THREADS}
use Rattle.gl_bytecode.specs.declared.ask.Ask.{Ask}
use Rattle.gl_bytecode.specs.declared.ask.Ask.TheVariants.{Go, Begin, End, Over as AskOver, Read, Write, VRead, VWrite, Enter as AskEnter, Exit as AskExit, Fork as AskFork, Join as AskJoin, Alloc, Print as AskPrint, Input as AskInput, TxBegin, TxEnd}
use Rattle.gl_bytecode.specs.declared.ask.Failure.{Failure}
use Rattle.gl_bytecode.specs.declared.ask.Failure.TheVariants.{Raises as RaisesOn, Spends}
use Rattle.gl_bytecode.specs.declared.ask.Outcome.{Outcome}
use Rattle.gl_bytecode.specs.declared.ask.Outcome.TheVariants.{Goes as OutGoes, Gives, GivesTwo, Sets, Jumps, Calls, Returns, Halts, Raises, Asks}
use Rattle.gl_bytecode.specs.declared.ask.Reply.{Reply}
use Rattle.gl_bytecode.specs.declared.ask.Reply.TheVariants.{Go as Gone, Value, Start, Raise, Retry}
use Rattle.gl_bytecode.specs.declared.ask.Stage.{Stage}
use Rattle.gl_bytecode.specs.declared.ask.Stage.TheVariants.{New, Begins, Runs, Waits, Drops, Leaves, Ends, Over}
use Rattle.gl_bytecode.specs.declared.instr.Catch.{Catch}
use Rattle.gl_bytecode.specs.declared.instr.Instr.{Instr}
use Rattle.gl_bytecode.specs.declared.instr.Instr.TheVariants.{Push, Pop, Dup, Swap, Load, Store, Inc, Add, Sub, Mul, Div, Rem, Neg, Eq, Lt, Le, Not, And, Or, Xor, Jump, Jz, Jnz, Call, Ret, Halt, Throw, Nop, New as NewObject, Get, Put, Vget, Vput, Enter, Exit, Fork, Join, SelfId, Txbegin, Commit, Print, Input}
use Rattle.gl_bytecode.specs.declared.limits.TheConstants.{CALLERS, DEPTH, TX_STATE}
use Rattle.gl_bytecode.specs.declared.object.Object.{Object}
use Rattle.gl_bytecode.specs.Fits.{Fits, Holds, LivesWith, AnyAttemptStands, WaitsFor}
use Rattle.gl_bytecode.specs.Validity.{Depths}
use Rattle.gl_model.specs.declared.record.Ending.TheVariants.{Uncaught}
use Rattle.gl_bytecode.specs.Instructions.{args_of, is_barred}
use Rattle.gl_bytecode.specs.Machine.{Attempt, Config, Frame, entered, in_order, ending_with, handler, handled_or, thrown, raised, failing, failed, failed_in, is_refused, attempt_after, again, answers, dropped, returned, done, ran, settled, started, begun, next, next_at, takes, takes_at, refusal_in, ask_of}
use Rattle.gl_bytecode.specs.Programs.{Bytecode, function_at, instr_at}
use Rattle.gl_bytecode.specs.References.{object_at}
use Rattle.gl_bytecode.specs.Rows.{row, is_zero, on_object, joining, top, second}
use Rattle.gl_bytecode.specs.Attending.{IsAskedInside, Attends, runs_after}

-- ## What a row asks inside an attempt

-- what an instruction comes to minds attempts: unless barred in one it asks what may be asked there and does not halt; only ret returns
abbrev Minds : Instr → Outcome → Type 0
Minds i (Asks ask) = is_barred i ≡ false → IsAskedInside ask
Minds i Halts = is_barred i ≡ true
Minds i (Returns a) = i ≡ Ret
Minds i _ = Unit {0}

-- what holds of both branches holds of a choice between them
either_way : (Q : Outcome → Type 0) (b : Bool) (x y : Outcome) → Q x → Q y → Q (if b then x else y)
either_way Q true x y one other = one
either_way Q false x y one other = other

-- an instruction on an object minds the attempt, where it does on each object
on_some : (i : Instr) (o : Option Object) (f : Object → Outcome) → ((x : Object) → Minds i (f x)) → Minds i (on_object o f)
on_some i None f there = tt
on_some i (Some x) f there = there x

-- joining a thread minds the attempt
joining_minds : (t : ℕ) (a : ℤ) → Minds Join (joining t a)
joining_minds t (pos u) = either_way (Minds Join) (nat_lt u THREADS && not (u == t)) _ _ (λ e. absurd (cc e)) tt
joining_minds t (negsuc u) = tt

-- what each instruction's row comes to minds the attempt
row_minds : (P : Bytecode) (t : ℕ) (locals stack : List ℤ) (i : Instr) → Minds i (row P t locals stack i)
row_minds P t locals stack (Push n) = tt
row_minds P t locals stack Pop = tt
row_minds P t locals stack Dup = tt
row_minds P t locals stack Swap = tt
row_minds P t locals stack (Load k) = tt
row_minds P t locals stack (Store k) = tt
row_minds P t locals stack (Inc k n) = tt
row_minds P t locals stack Add = tt
row_minds P t locals stack Sub = tt
row_minds P t locals stack Mul = tt
row_minds P t locals stack Div = either_way (Minds Div) (is_zero (top stack)) _ _ tt tt
row_minds P t locals stack Rem = either_way (Minds Rem) (is_zero (top stack)) _ _ tt tt
row_minds P t locals stack Neg = tt
row_minds P t locals stack Eq = tt
row_minds P t locals stack Lt = tt
row_minds P t locals stack Le = tt
row_minds P t locals stack Not = tt
row_minds P t locals stack And = tt
row_minds P t locals stack Or = tt
row_minds P t locals stack Xor = tt
row_minds P t locals stack (Jump to) = tt
row_minds P t locals stack (Jz to) = either_way (Minds (Jz to)) (is_zero (top stack)) _ _ tt tt
row_minds P t locals stack (Jnz to) = either_way (Minds (Jnz to)) (is_zero (top stack)) _ _ tt tt
row_minds P t locals stack (Call f) = tt
row_minds P t locals stack Ret = refl
row_minds P t locals stack Halt = refl
row_minds P t locals stack (Throw code) = tt
row_minds P t locals stack Nop = tt
row_minds P t locals stack (NewObject c) = λ e. absurd (cc e)
row_minds P t locals stack (Get k) = on_some (Get k) (object_at P (top stack)) _
    (λ x. either_way (Minds (Get k)) (nat_lt k x.fields.plain) _ _ (λ e. tt) tt)
row_minds P t locals stack (Put k) = on_some (Put k) (object_at P (second stack)) _
    (λ x. either_way (Minds (Put k)) (nat_lt k x.fields.plain) _ _ (λ e. tt) tt)
row_minds P t locals stack (Vget k) = on_some (Vget k) (object_at P (top stack)) _
    (λ x. either_way (Minds (Vget k)) (nat_lt k x.fields.volatile) _ _ (λ e. absurd (cc e)) tt)
row_minds P t locals stack (Vput k) = on_some (Vput k) (object_at P (second stack)) _
    (λ x. either_way (Minds (Vput k)) (nat_lt k x.fields.volatile) _ _ (λ e. absurd (cc e)) tt)
row_minds P t locals stack Enter = on_some Enter (object_at P (top stack)) _ (λ x e. absurd (cc e))
row_minds P t locals stack Exit = on_some Exit (object_at P (top stack)) _ (λ x e. absurd (cc e))
row_minds P t locals stack (Fork f) = λ e. absurd (cc e)
row_minds P t locals stack Join = joining_minds t (top stack)
row_minds P t locals stack Txbegin = λ e. absurd (cc e)
row_minds P t locals stack Commit = λ e. tt
row_minds P t locals stack SelfId = tt
row_minds P t locals stack Print = λ e. absurd (cc e)
row_minds P t locals stack Input = λ e. absurd (cc e)

-- ## The attempt after a step

-- the machine d has an attempt exactly where b says so, and attends to it
pub record AttendsWith (b : Bool) (d : Config) : Type 0 where
  pub runs : is_some d.attempt ≡ b
  pub attends : Attends d.attempt (ask_of d.stage)

-- without an attempt anything may be asked
none_attends : (o : Option Attempt) (ask : Ask) → o ≡ None → Attends o ask
none_attends None ask is = tt
none_attends (Some a) ask is = cc

-- an exception that is thrown outside an attempt begins none
thrown_none : (P : Bytecode) (code : ℕ) (c : Config) (callers : List Frame) → c.attempt ≡ None → (thrown P code c callers).attempt ≡ None
thrown_none P code c [] none = by_handler (handler P c.frame) where
  by_handler : (o : Option Catch) → (handled_or o code c (ending_with (Uncaught code) c)).attempt ≡ None
  by_handler None = none
  by_handler (Some h) = none
thrown_none P code c (caller ∷ callers) none =
    by_handler (handler P c.frame) (thrown_none P code (record c { frame = caller; callers = callers }) callers none) where
      by_handler :
          (o : Option Catch) → (thrown P code (record c { frame = caller; callers = callers }) callers).attempt ≡ None →
          (handled_or o code c (thrown P code (record c { frame = caller; callers = callers }) callers)).attempt ≡ None
      by_handler None up = up
      by_handler (Some h) up = none

-- a machine without an attempt attends to none
without : (d : Config) → d.attempt ≡ None → AttendsWith false d
without d none = record { runs = ap is_some none; attends = none_attends d.attempt (ask_of d.stage) none }

-- an attempt may always ask to be dropped
any_drops : (o : Option Attempt) → Attends o (TxEnd false)
any_drops None = tt
any_drops (Some b) = tt

-- a machine that fails attends to its attempt, if it has one
failed_attends : (P : Bytecode) (failure : Failure) (c : Config) (o : Option Attempt) → c.attempt ≡ o
    → AttendsWith (is_some o) (failed_in o P failure c)
failed_attends P (RaisesOn code) c None is = without (raised P code c) (thrown_none P code c c.callers is)
failed_attends P Spends c None is = without (failing P Spends c) is
failed_attends P failure c (Some a) is = record { runs = ap is_some is; attends = any_drops c.attempt }

-- going on may always be asked
runs_attends : (o : Option Attempt) → Attends o Go
runs_attends None = tt
runs_attends (Some a) = tt

-- a machine attends to its attempt, if it has one, where what its stage asks may be asked there
same : (d : Config) (o : Option Attempt) → d.attempt ≡ o → Attends o (ask_of d.stage) → AttendsWith (is_some o) d
same d o is attends = record { runs = ap is_some is; attends = rw is attends }

-- ## Starting an instruction

-- an instruction that an attempt does not refuse is not barred in attempts
not_barred : (a : Attempt) (c : Config) (i : Instr) → is_refused (Some a) c i ≡ false → is_barred i ≡ false
not_barred a c Ret allowed = refl
not_barred a c i allowed = allowed

-- what an instruction that is not refused asks may be asked where the machine stands
asks_inside : (o : Option Attempt) (c : Config) (i : Instr) (ask : Ask) → is_refused o c i ≡ false
    → (is_barred i ≡ false → IsAskedInside ask) → Attends o ask
asks_inside None c i ask allowed minds = tt
asks_inside (Some a) c i ask allowed minds = minds (not_barred a c i allowed)

-- a barred instruction that is not refused runs outside an attempt
halts_outside : (o : Option Attempt) (c : Config) (i : Instr) → is_refused o c i ≡ false → is_barred i ≡ true → o ≡ None
halts_outside None c i allowed barred = refl
halts_outside (Some a) c i allowed barred = (let free = not_barred a c i allowed in cc)

-- the callers that the attempt began over are there
abbrev HasBelow : Option Attempt → List Frame → Type 0
HasBelow None callers = Unit {0}
HasBelow (Some a) callers = a.depth ≤ length callers

-- a return from the outermost frame that is not refused runs outside an attempt
returns_outside : (o : Option Attempt) (c : Config) (i : Instr) → HasBelow o c.callers → c.callers ≡ [] → is_refused o c i ≡ false → i
    ≡ Ret → o ≡ None
returns_outside None c i over none allowed is = refl
returns_outside (Some a) c i over none allowed is =
    let refused : is_refused (Some a) c Ret ≡ false = (rw is at allowed) in
    let long : length c.callers ≡ 0 = ap length none in
    let same : (length c.callers == a.depth) ≡ true = (let zero' : a.depth ≡ 0 = omega (arith, over) in rw (long, zero') refl) in
    cc

-- a machine that has done an instruction attends to its attempt, where the instruction is not refused and minds it
done_attends :
    (P : Bytecode) (i : Instr) (c : Config) (outcome : Outcome) → HasBelow c.attempt c.callers → is_refused c.attempt c i ≡ false
    → Minds i outcome →
    AttendsWith (is_some c.attempt) (done P i c outcome)
done_attends P i c OutGoes over allowed minds = same _ c.attempt refl (runs_attends c.attempt)
done_attends P i c (Gives a) over allowed minds = same _ c.attempt refl (runs_attends c.attempt)
done_attends P i c (GivesTwo a b) over allowed minds = same _ c.attempt refl (runs_attends c.attempt)
done_attends P i c (Sets k a) over allowed minds = same _ c.attempt refl (runs_attends c.attempt)
done_attends P i c (Jumps to) over allowed minds = same _ c.attempt refl (runs_attends c.attempt)
done_attends P i c (Calls f) over allowed minds = by_room (length c.callers == CALLERS) where
  by_room : (b : Bool) → AttendsWith (is_some c.attempt) (if b then failed P (RaisesOn DEPTH) c
      else record c { frame = entered f (in_order (args_of (function_at P f)) c.frame.stack); callers = c.frame ∷ c.callers; stage = Runs })
  by_room true = failed_attends P (RaisesOn DEPTH) c c.attempt refl
  by_room false = same _ c.attempt refl (runs_attends c.attempt)
done_attends P i c (Returns a) over allowed minds = by_callers c.callers refl where
  by_callers : (cs : List Frame) → c.callers ≡ cs → AttendsWith (is_some c.attempt) (returned P a c cs)
  by_callers [] is = same _ c.attempt refl (none_attends c.attempt _ (returns_outside c.attempt c i over is allowed minds))
  by_callers (caller ∷ callers) is = same _ c.attempt refl (runs_attends c.attempt)
done_attends P i c Halts over allowed minds = same _ c.attempt refl (none_attends c.attempt _ (halts_outside c.attempt c i allowed minds))
done_attends P i c (Raises code) over allowed minds = failed_attends P (RaisesOn code) c c.attempt refl
done_attends P i c (Asks ask) over allowed minds = same _ c.attempt refl (asks_inside c.attempt c i ask allowed minds)

-- a machine that runs the instruction at its place attends to its attempt
ran_attends : (P : Bytecode) (c : Config) → HasBelow c.attempt c.callers → c.stage ≡ Runs → (o : Option Instr)
    → AttendsWith (is_some c.attempt) (ran P c o)
ran_attends P c over runs None = same c c.attempt refl (rw runs (runs_attends c.attempt))
ran_attends P c over runs (Some i) = by_refusal (is_refused c.attempt c i) refl where
  by_refusal : (b : Bool) → is_refused c.attempt c i ≡ b
      → AttendsWith (is_some c.attempt) (if b then failed P (RaisesOn TX_STATE) c
      else done P i c (row P c.thread c.frame.locals c.frame.stack i))
  by_refusal true refused = failed_attends P (RaisesOn TX_STATE) c c.attempt refl
  by_refusal false allowed = done_attends P i c _ over allowed (row_minds P c.thread c.frame.locals c.frame.stack i)

-- a machine that starts its next instruction attends to its attempt
started_attends : (P : Bytecode) (c : Config) → HasBelow c.attempt c.callers → c.stage ≡ Runs
    → AttendsWith (is_some c.attempt) (started P c)
started_attends P c over runs = by_steps (c.counted == c.limit) where
  by_steps :
      (b : Bool) →
      AttendsWith (is_some c.attempt) (if b then failed P Spends c
      else ran P (record c { counted = c.counted + 1 }) (instr_at P c.frame.function c.frame.place))
  by_steps true = failed_attends P Spends c c.attempt refl
  by_steps false = ran_attends P (record c { counted = c.counted + 1 }) over runs (instr_at P c.frame.function c.frame.place)

-- ## Answers

-- no ask of an instruction is answered by a start
pub no_start : (n : ℕ) (ask : Ask) (f : ℕ) (a : ℤ) → answers n ask (Start f a) ≡ true → ⊥
no_start n Go f a is = cc
no_start n Begin f a is = cc
no_start n End f a is = cc
no_start n (AskOver e) f a is = cc
no_start n (Read x) f a is = cc
no_start n (Write x b) f a is = cc
no_start n (VRead v) f a is = cc
no_start n (VWrite v b) f a is = cc
no_start n (AskEnter o) f a is = cc
no_start n (AskExit o) f a is = cc
no_start n (AskFork g b) f a is = cc
no_start n (AskJoin u) f a is = cc
no_start n TxBegin f a is = cc
no_start n (TxEnd keep) f a is = cc
no_start n (Alloc c) f a is = cc
no_start n (AskPrint b) f a is = cc
no_start n AskInput f a is = cc

-- an attempt runs after an ask exactly where the ask says so
begins_or_ends : (ask : Ask) (c : Config) → is_some (attempt_after ask c) ≡ runs_after ask (is_some c.attempt)
begins_or_ends TxBegin c = refl
begins_or_ends (TxEnd keep) c = refl
begins_or_ends ask c = refl

-- an ask that is answered by a value neither begins nor ends an attempt
by_value : (n : ℕ) (ask : Ask) (a : ℤ) (b : Bool) → answers n ask (Value a) ≡ true → b ≡ runs_after ask b
by_value n TxBegin a b taken = cc
by_value n (TxEnd keep) a b taken = cc
by_value n ask a b taken = refl

-- after an ask that is answered by a retry no attempt runs
by_retry : (n : ℕ) (ask : Ask) (b : Bool) → answers n ask Retry ≡ true → false ≡ runs_after ask b
by_retry n (TxEnd keep) b taken = refl
by_retry n ask b taken = cc

-- a machine that goes back to its attempt's beginning has no attempt
again_attends : (c : Config) (o : Option Attempt) → c.attempt ≡ o → AttendsWith false (again o c)
again_attends c None is = without c is
again_attends c (Some a) is = without _ refl

-- a machine attends to its attempt as well where it is told by an equal truth whether one runs
told_so : (b d : Bool) (c : Config) → b ≡ d → AttendsWith b c → AttendsWith d c
told_so b d c is k = record { runs = k.runs ∙ is; attends = k.attends }

-- a machine whose ask is answered attends to its attempt, as it runs after the ask
settled_attends :
    (P : Bytecode) (c : Config) (ask : Ask) (reply : Reply) (n : ℕ) (i : Instr) → instr_at P c.frame.function c.frame.place ≡ Some i →
    answers n ask reply ≡ true → AttendsWith (runs_after ask (is_some c.attempt)) (settled P c ask reply)
settled_attends P c ask Gone n i there taken =
    rw there (told_so _ _ _ (begins_or_ends ask c) (same _ (attempt_after ask c) refl (runs_attends (attempt_after ask c))))
settled_attends P c ask (Value a) n i there taken =
    rw there (told_so _ _ _ (by_value n ask a (is_some c.attempt) taken) (same _ c.attempt refl (runs_attends c.attempt)))
settled_attends P c ask (Raise code) n i there taken =
    told_so _ _ _ (begins_or_ends ask c) (failed_attends P (RaisesOn code) (record c { attempt = attempt_after ask c })
    (attempt_after ask c) refl)
settled_attends P c ask Retry n i there taken = told_so _ _ _ (by_retry n ask (is_some c.attempt) taken) (again_attends c c.attempt refl)
settled_attends P c ask (Start f a) n i there taken = absurd (no_start n ask f a taken)

-- a machine whose attempt was dropped has no attempt
dropped_attends : (P : Bytecode) (failure : Failure) (c : Config) (reply : Reply) → AttendsWith false (dropped P failure c reply)
dropped_attends P (RaisesOn code) c (Raise other) = without _ (thrown_none P other (record c { attempt = None }) c.callers refl)
dropped_attends P (RaisesOn code) c Retry = again_attends c c.attempt refl
dropped_attends P (RaisesOn code) c Gone = without _ (thrown_none P code (record c { attempt = None }) c.callers refl)
dropped_attends P (RaisesOn code) c (Value a) = without _ (thrown_none P code (record c { attempt = None }) c.callers refl)
dropped_attends P (RaisesOn code) c (Start f a) = without _ (thrown_none P code (record c { attempt = None }) c.callers refl)
dropped_attends P Spends c reply = without _ refl

-- a machine that begins outside an attempt has none
begun_attends : (P : Bytecode) (c : Config) (reply : Reply) → c.attempt ≡ None → AttendsWith (is_some c.attempt) (begun P reply c)
begun_attends P c (Start f a) none = same _ c.attempt refl (runs_attends c.attempt)
begun_attends P c Gone none = same _ c.attempt refl (none_attends c.attempt _ none)
begun_attends P c (Value a) none = same _ c.attempt refl (none_attends c.attempt _ none)
begun_attends P c (Raise code) none = same _ c.attempt refl (none_attends c.attempt _ none)
begun_attends P c Retry none = same _ c.attempt refl (none_attends c.attempt _ none)

-- where something else is asked than what may be asked inside an attempt, none runs
outside : (o : Option Attempt) (ask : Ask) → (IsAskedInside ask → ⊥) → Attends o ask → o ≡ None
outside None ask never attends = refl
outside (Some a) ask never attends = absurd (never attends)

-- a machine attends to its attempt after each reply that it takes
next_attends :
    (P : Bytecode) (D : Depths) (c : Config) (reply : Reply) (stage : Stage) → c.stage ≡ stage → HasBelow c.attempt c.callers
    → Holds P D c stage →
    takes_at stage c.attempt reply ≡ true → Attends c.attempt (ask_of stage)
    → AttendsWith (runs_after (ask_of stage) (is_some c.attempt)) (next_at stage P c reply)
next_attends P D c reply New is over held taken attends = same _ c.attempt refl (none_attends c.attempt _ held.1)
next_attends P D c reply Begins is over held taken attends = begun_attends P c reply held.1
next_attends P D c reply Runs is over held taken attends = started_attends P c over is
next_attends P D c reply (Waits ask) is over held taken attends =
    let waits : WaitsFor P c.frame ask = rw is at held.stage in
    settled_attends P c ask reply (refusal_in c.attempt) waits.instr waits.there taken
next_attends P D c reply (Drops failure) is over held taken attends = dropped_attends P failure c reply
next_attends P D c reply (Leaves ending o) is over held taken attends =
    same _ c.attempt refl (none_attends c.attempt _ (outside c.attempt (AskExit o) (λ e. e) attends))
next_attends P D c reply (Ends ending) is over held taken attends =
    same _ c.attempt refl (none_attends c.attempt _ (outside c.attempt End (λ e. e) attends))
next_attends P D c reply (Over ending) is over held taken attends = cc

-- a living machine has at least as many callers as its attempt had at its beginning
lives_over : (P : Bytecode) (c : Config) (D : Depths) (a : Attempt) → c.attempt ≡ Some a → LivesWith P D c → a.depth ≤ length c.callers
lives_over P c D a is lives = (let stands : AnyAttemptStands P D c.callers (Some a) = (rw is at lives.attempt) in stands.below)

-- the callers that an attempt began over are there
is_over : (P : Bytecode) (D : Depths) (c : Config) (stage : Stage) (o : Option Attempt) → c.attempt ≡ o → Holds P D c stage
    → Attends o (ask_of stage) → HasBelow o c.callers
is_over P D c stage None is holds attends = tt
is_over P D c New (Some a) is holds attends = let none = holds.1 in cc
is_over P D c Begins (Some a) is holds attends = absurd attends
is_over P D c Runs (Some a) is holds attends = lives_over P c D a is holds
is_over P D c (Waits ask) (Some a) is holds attends = lives_over P c D a is holds
is_over P D c (Drops failure) (Some a) is holds attends = lives_over P c D a is holds
is_over P D c (Leaves ending o) (Some a) is holds attends = absurd attends
is_over P D c (Ends ending) (Some a) is holds attends = absurd attends
is_over P D c (Over ending) (Some a) is holds attends = absurd attends

-- by a reply that it takes, a machine goes on to attend to its attempt, which began with the answer to TxBegin and ends with that to TxEnd
pub attends_on : (P : Bytecode) (c : Config) (reply : Reply) → Fits P c → takes c reply ≡ true
    → AttendsWith (runs_after (ask_of c.stage) (is_some c.attempt)) (next P c reply)
attends_on P c reply fits taken =
    next_attends P fits.depths c reply c.stage refl (is_over P fits.depths c c.stage c.attempt refl fits.keeps fits.attends) fits.keeps
    taken fits.attends
