-- A machine comes to its end: what is due grows with its counted instructions alone, and falls with each answer.
use Rattle.std.proofs.Common.{◌≡◌, ◌≢◌, ℕ, zero, suc, ℤ, pos, negsuc, ◌+◌, ◌-◌, ◌*◌, ◌<◌, ◌≤◌, Bool, true, false, ◌&&◌, not, ◌==◌, nat_lt, if◌then◌else◌, List, [], ◌∷◌, Option, Some, None, refl, sym, ◌∙◌, ap, arith, rules, length, set, get_or, replicate, sum, inl, inr, is_some}
use Rattle.std.specs.Option.{option_and_then}
use Rattle.std.proofs.lemmas.Bool.{cases_lt}
use Rattle.std.proofs.lemmas.List.Quantifiers.{position-Some}
use Rattle.std.proofs.lemmas.List.Sums.{sum_by-set}
use Rattle.gl_model.specs.declared.limits.TheConstants.{THREADS, MONITORS}
use Rattle.gl_model.specs.Machine.{Running}
use Rattle.gl_model.specs.Entries.{Entry}
use Rattle.gl_model.specs.declared.record.Ending.{Ending}
use Rattle.gl_model.specs.declared.record.Ending.TheVariants.{Halt as Halted, Uncaught, Spent}
use Rattle.gl_bytecode.specs.declared.ask.Ask.{Ask}
use Rattle.gl_bytecode.specs.declared.ask.Ask.TheVariants.{Go, Begin, End, Over as AskOver, Read, Write, VRead, VWrite, Enter as AskEnter, Exit as AskExit, Fork as AskFork, Join as AskJoin, Alloc, Print as AskPrint, Input as AskInput, TxBegin, TxEnd}
use Rattle.gl_bytecode.specs.declared.ask.Failure.{Failure}
use Rattle.gl_bytecode.specs.declared.ask.Failure.TheVariants.{Raises as RaisesOn, Spends}
use Rattle.gl_bytecode.specs.declared.ask.Outcome.{Outcome}
use Rattle.gl_bytecode.specs.declared.ask.Outcome.TheVariants.{Goes as OutGoes, Gives, GivesTwo, Sets, Jumps, Calls, Returns, Halts, Raises, Asks}
use Rattle.gl_bytecode.specs.declared.ask.Reply.{Reply}
use Rattle.gl_bytecode.specs.declared.ask.Reply.TheVariants.{Go as Gone, Value, Start, Raise, Retry}
use Rattle.gl_bytecode.specs.declared.ask.Stage.{Stage}
use Rattle.gl_bytecode.specs.declared.ask.Stage.TheVariants.{New, Begins, Runs, Waits, Drops, Leaves, Ends, Over}
use Rattle.gl_bytecode.specs.declared.instr.Catch.{Catch}
use Rattle.gl_bytecode.specs.declared.instr.Instr.{Instr}
use Rattle.gl_bytecode.specs.declared.instr.Instr.TheVariants.{Push, Pop, Dup, Swap, Load, Store, Inc, Add, Sub, Mul, Div, Rem, Neg, Eq, Lt, Le, Not, And, Or, Xor, Jump, Jz, Jnz, Call, Ret, Halt, Throw, Nop, New as NewObject, Get, Put, Vget, Vput, Enter, Exit, Fork, Join, SelfId, Txbegin, Commit, Print, Input}
use Rattle.gl_bytecode.specs.declared.limits.TheConstants.{CALLERS, DEPTH, TX_STATE}
use Rattle.gl_bytecode.specs.declared.object.Object.{Object}
use Rattle.gl_bytecode.specs.Instructions.{args_of}
use Rattle.gl_bytecode.specs.Machine.{is_go, Attempt, Config, Frame, entered, in_order, handler, leaving, held_monitor, ending_with, handled_or, thrown, failing, failed, failed_in, is_refused, attempt_after, again, answers, answered, dropped, returned, called, done, ran, started, settled, levels_after, begun, next, next_at, takes, takes_at, refusal_in, ask_of, fresh}
use Rattle.gl_bytecode.specs.Programs.{Bytecode, function_at, instr_at}
use Rattle.gl_bytecode.specs.References.{object_at}
use Rattle.gl_bytecode.specs.Rows.{row, is_zero, on_object, joining, top, second}
use Rattle.gl_bytecode.specs.Runs.{Exchange, Made, Quiet, Progress, looks_after, writes_after, outset, replied, reply_of, told, told_one, entries_of, without_trims, Along}
use Rattle.gl_vm.specs.Asking.{BeginsNone, due, levels_told, state_at, state_told}
use Rattle.gl_vm.specs.Orderly.{EndsWhatRuns, IsAskedBy, IsOrderly, StageIsOrderly, WaitsRightly}
use Rattle.gl_bytecode.proofs.Attending.{no_start}

-- ## What a row asks is asked by its instruction

-- what an instruction comes to, if it is an ask, is one that this instruction may ask
abbrev OutcomeEnds : Instr → Outcome → Type 0
OutcomeEnds i (Asks ask) = IsAskedBy i ask
OutcomeEnds i _ = Unit {0}

-- what holds of both branches holds of a choice between them
either_way : (Q : Outcome → Type 0) (b : Bool) (x y : Outcome) → Q x → Q y → Q (if b then x else y)
either_way Q true x y one other = one
either_way Q false x y one other = other

-- an instruction on an object asks what it may, where it does on each object
on_some : (i : Instr) (o : Option Object) (f : Object → Outcome) → ((x : Object) → OutcomeEnds i (f x)) → OutcomeEnds i (on_object o f)
on_some i None f there = tt
on_some i (Some x) f there = there x

-- joining a thread asks what it may
joining_ends : (t : ℕ) (a : ℤ) → OutcomeEnds Join (joining t a)
joining_ends t (pos u) = either_way (OutcomeEnds Join) (nat_lt u THREADS && not (u == t)) _ _ refl tt
joining_ends t (negsuc u) = tt

-- what each instruction's row asks is what this instruction may ask
row_ends : (P : Bytecode) (t : ℕ) (locals stack : List ℤ) (i : Instr) → OutcomeEnds i (row P t locals stack i)
row_ends P t locals stack (Push n) = tt
row_ends P t locals stack Pop = tt
row_ends P t locals stack Dup = tt
row_ends P t locals stack Swap = tt
row_ends P t locals stack (Load k) = tt
row_ends P t locals stack (Store k) = tt
row_ends P t locals stack (Inc k n) = tt
row_ends P t locals stack Add = tt
row_ends P t locals stack Sub = tt
row_ends P t locals stack Mul = tt
row_ends P t locals stack Div = either_way (OutcomeEnds Div) (is_zero (top stack)) _ _ tt tt
row_ends P t locals stack Rem = either_way (OutcomeEnds Rem) (is_zero (top stack)) _ _ tt tt
row_ends P t locals stack Neg = tt
row_ends P t locals stack Eq = tt
row_ends P t locals stack Lt = tt
row_ends P t locals stack Le = tt
row_ends P t locals stack Not = tt
row_ends P t locals stack And = tt
row_ends P t locals stack Or = tt
row_ends P t locals stack Xor = tt
row_ends P t locals stack (Jump to) = tt
row_ends P t locals stack (Jz to) = either_way (OutcomeEnds (Jz to)) (is_zero (top stack)) _ _ tt tt
row_ends P t locals stack (Jnz to) = either_way (OutcomeEnds (Jnz to)) (is_zero (top stack)) _ _ tt tt
row_ends P t locals stack (Call f) = tt
row_ends P t locals stack Ret = tt
row_ends P t locals stack Halt = tt
row_ends P t locals stack (Throw code) = tt
row_ends P t locals stack Nop = tt
row_ends P t locals stack (NewObject c) = tt
row_ends P t locals stack (Get k) = on_some (Get k) (object_at P (top stack)) _
    (λ x. either_way (OutcomeEnds (Get k)) (nat_lt k x.fields.plain) _ _ tt tt)
row_ends P t locals stack (Put k) = on_some (Put k) (object_at P (second stack)) _
    (λ x. either_way (OutcomeEnds (Put k)) (nat_lt k x.fields.plain) _ _ tt tt)
row_ends P t locals stack (Vget k) = on_some (Vget k) (object_at P (top stack)) _
    (λ x. either_way (OutcomeEnds (Vget k)) (nat_lt k x.fields.volatile) _ _ tt tt)
row_ends P t locals stack (Vput k) = on_some (Vput k) (object_at P (second stack)) _
    (λ x. either_way (OutcomeEnds (Vput k)) (nat_lt k x.fields.volatile) _ _ tt tt)
row_ends P t locals stack Enter = on_some Enter (object_at P (top stack)) _ (λ x. tt)
row_ends P t locals stack Exit = on_some Exit (object_at P (top stack)) _ (λ x. tt)
row_ends P t locals stack (Fork f) = refl
row_ends P t locals stack Join = joining_ends t (top stack)
row_ends P t locals stack Txbegin = refl
row_ends P t locals stack Commit = refl
row_ends P t locals stack SelfId = tt
row_ends P t locals stack Print = tt
row_ends P t locals stack Input = tt

-- a commit that is not refused ends an attempt
commit_ends : (o : Option Attempt) (c : Config) (i : Instr) → i ≡ Commit → is_refused o c i ≡ false → is_some o ≡ true
commit_ends (Some a) c i is allowed = refl
commit_ends None c i is allowed = (let e : is_refused None c Commit ≡ false = (rw is at allowed) in cc)

-- an instruction that is not refused asks for the end of an attempt only where one runs
ends_what_runs : (c : Config) (i : Instr) (ask : Ask) → OutcomeEnds i (Asks ask) → is_refused c.attempt c i ≡ false
    → EndsWhatRuns ask c.attempt
ends_what_runs c i (TxEnd keep) ends allowed = commit_ends c.attempt c i ends allowed
ends_what_runs c i Go ends allowed = tt
ends_what_runs c i Begin ends allowed = tt
ends_what_runs c i End ends allowed = tt
ends_what_runs c i (AskOver e) ends allowed = tt
ends_what_runs c i (Read x) ends allowed = tt
ends_what_runs c i (Write x a) ends allowed = tt
ends_what_runs c i (VRead v) ends allowed = tt
ends_what_runs c i (VWrite v a) ends allowed = tt
ends_what_runs c i (AskEnter o) ends allowed = tt
ends_what_runs c i (AskExit o) ends allowed = tt
ends_what_runs c i (AskFork f a) ends allowed = tt
ends_what_runs c i (AskJoin u) ends allowed = tt
ends_what_runs c i TxBegin ends allowed = tt
ends_what_runs c i (Alloc k) ends allowed = tt
ends_what_runs c i (AskPrint a) ends allowed = tt
ends_what_runs c i AskInput ends allowed = tt

-- ## Sums of levels

-- a number that is set in a list changes the sum by what it differs from the one before
sum-set : (xs : List ℕ) (i y : ℕ) → i < length xs → sum (set xs i y) + get_or xs i 0 ≡ sum xs + y
sum-set xs i y less = sum_by-set (λ x. x) xs i y 0 less

-- a monitor that is not there is not counted
set_past : (xs : List ℕ) (i y : ℕ) → length xs ≤ i → set xs i y ≡ xs
set_past [] i y past = refl
set_past (x ∷ xs) zero y past = absurd (omega arith)
set_past (x ∷ xs) (suc i) y past = ap (λ rest. x ∷ rest) (set_past xs i y (omega arith))

-- one level more makes the sum one more at most
sum-more : (xs : List ℕ) (i : ℕ) → sum (set xs i (get_or xs i 0 + 1)) ≤ sum xs + 1
sum-more xs i = elim (cases_lt i (length xs)) [
  | inl less ↦ (let e = sum-set xs i (get_or xs i 0 + 1) less in omega arith)
  | inr past ↦ rw (set_past xs i (get_or xs i 0 + 1) past) (omega arith)
]

-- one level less makes the sum no greater
sum-less : (xs : List ℕ) (i : ℕ) → sum (set xs i (get_or xs i 0 - 1)) ≤ sum xs
sum-less xs i = elim (cases_lt i (length xs)) [
  | inl less ↦ (let e = sum-set xs i (get_or xs i 0 - 1) less in omega arith)
  | inr past ↦ rw (set_past xs i (get_or xs i 0 - 1) past) (omega arith)
]

-- an ask makes the sum of the levels one greater at most
sum-after : (ask : Ask) (xs : List ℕ) → sum (levels_after ask xs) ≤ sum xs + 1
sum-after (AskEnter o) xs = sum-more xs o
sum-after (AskExit o) xs = (let e = sum-less xs o in omega arith)
sum-after Go xs = omega arith
sum-after Begin xs = omega arith
sum-after End xs = omega arith
sum-after (AskOver e) xs = omega arith
sum-after (Read x) xs = omega arith
sum-after (Write x a) xs = omega arith
sum-after (VRead v) xs = omega arith
sum-after (VWrite v a) xs = omega arith
sum-after (AskFork f a) xs = omega arith
sum-after (AskJoin u) xs = omega arith
sum-after TxBegin xs = omega arith
sum-after (TxEnd keep) xs = omega arith
sum-after (Alloc k) xs = omega arith
sum-after (AskPrint a) xs = omega arith
sum-after AskInput xs = omega arith

-- an ask that changes no level changes none by any reply
told_none : (ask : Ask) (reply : Reply) (levels : List ℕ) → ((xs : List ℕ) → levels_after ask xs ≡ xs) → levels_told ask reply levels
    ≡ levels
told_none ask Gone levels none = none levels
told_none ask (Value a) levels none = refl
told_none ask (Start f a) levels none = refl
told_none ask (Raise code) levels none = refl
told_none ask Retry levels none = refl

-- ## What a part of a step leads to

-- d has no more due than n above the levels of c
record Leads (P : Bytecode) (c : Config) (n : ℕ) (d : Config) : Type 0 where
  limit : d.limit ≡ c.limit
  counted : d.counted ≡ c.counted
  little : due d ≤ sum c.levels + n
  orderly : StageIsOrderly P d d.stage
  levels : d.levels ≡ c.levels
  alone : c.attempt ≡ None → d.attempt ≡ None
  runs : (main : ℕ) → state_at main d.stage ≡ Running

-- where no more than a number is due, no more than a greater number is
more_room : (P : Bytecode) (c : Config) (m n : ℕ) (d : Config) → m ≤ n → Leads P c m d → Leads P c n d
more_room P c m n d le l = record {
  limit = l.limit;
  counted = l.counted;
  little = (let e = l.little in omega arith);
  orderly = l.orderly;
  levels = l.levels;
  alone = l.alone;
  runs = l.runs;
}

-- a machine that ends has one answer due above its levels, at most
ending_leads : (P : Bytecode) (ending : Ending) (c : Config) → Leads P c 1 (ending_with ending c)
ending_leads P ending c = by_monitor (held_monitor c.levels) refl where
  by_monitor : (o : Option ℕ) → held_monitor c.levels ≡ o → Leads P c 1 (record c { stage = leaving ending o })
  by_monitor None is = record {
    limit = refl;
    counted = refl;
    little = omega arith;
    orderly = tt;
    levels = refl;
    alone = λ none. none;
    runs = λ main. refl;
  }
  by_monitor (Some o) is =
      let found = position-Some (λ n. nat_lt 0 n) c.levels o 0 is in
      record {
        limit = refl;
        counted = refl;
        little = omega arith;
        orderly = record { there = found.0; entered = search (rules, found.1) };
        levels = refl;
        alone = λ none. none;
        runs = λ main. refl;
      }

-- a machine that goes to its handler has three answers due above its levels, at most, where it has otherwise
handled_leads :
    (P : Bytecode) (h : Option Catch) (code : ℕ) (c otherwise : Config) → Leads P c 3 otherwise
    → Leads P c 3 (handled_or h code c otherwise)
handled_leads P None code c otherwise other = other
handled_leads P (Some h) code c otherwise other =
    record { limit = refl; counted = refl; little = omega arith; orderly = tt; levels = refl; alone = λ none. none; runs = λ main. refl }

-- a machine whose exception went up its frames has three answers due above its levels, at most
thrown_leads : (P : Bytecode) (code : ℕ) (c : Config) (callers : List Frame) → Leads P c 3 (thrown P code c callers)
thrown_leads P code c [] = handled_leads P (handler P c.frame) code c _
    (more_room P c 1 3 _ (omega arith) (ending_leads P (Uncaught code) c))
thrown_leads P code c (caller ∷ callers) =
    let up = thrown_leads P code (record c { frame = caller; callers = callers }) callers in
    handled_leads P (handler P c.frame) code c _
    (record {
      limit = up.limit;
      counted = up.counted;
      little = up.little;
      orderly = up.orderly;
      levels = up.levels;
      alone = up.alone;
      runs = up.runs;
    })

-- a machine whose exception goes on up its frames has three answers due above its levels, at most
failing_leads : (P : Bytecode) (code : ℕ) (c : Config) → Leads P c 3 (failing P (RaisesOn code) c)
failing_leads P code c = thrown_leads P code c c.callers

-- a machine that raises an exception has four answers due above its levels, at most
failed_leads : (P : Bytecode) (code : ℕ) (c : Config) → Leads P c 4 (failed P (RaisesOn code) c)
failed_leads P code c = by_attempt c.attempt refl where
  by_attempt : (o : Option Attempt) → c.attempt ≡ o → Leads P c 4 (failed_in o P (RaisesOn code) c)
  by_attempt None is = more_room P c 3 4 _ (omega arith) (failing_leads P code c)
  by_attempt (Some a) is = record {
    limit = refl;
    counted = refl;
    little = omega arith;
    orderly = rw is refl;
    levels = refl;
    alone = λ none. none;
    runs = λ main. refl;
  }

-- a machine whose steps are spent has two answers due above its levels, at most
spent_leads : (P : Bytecode) (c : Config) → Leads P c 2 (failed P Spends c)
spent_leads P c = by_attempt c.attempt refl where
  by_attempt : (o : Option Attempt) → c.attempt ≡ o → Leads P c 2 (failed_in o P Spends c)
  by_attempt None is = more_room P c 1 2 _ (omega arith) (ending_leads P Spent c)
  by_attempt (Some a) is = record {
    limit = refl;
    counted = refl;
    little = omega arith;
    orderly = rw is refl;
    levels = refl;
    alone = λ none. none;
    runs = λ main. refl;
  }

-- a machine whose call returned has three answers due above its levels, at most
returned_leads : (P : Bytecode) (a : ℤ) (c : Config) (callers : List Frame) → Leads P c 3 (returned P a c callers)
returned_leads P a c [] = more_room P c 1 3 _ (omega arith) (ending_leads P Halted c)
returned_leads P a c (caller ∷ callers) =
    record { limit = refl; counted = refl; little = omega arith; orderly = tt; levels = refl; alone = λ none. none; runs = λ main. refl }

-- a machine that called a function has four answers due above its levels, at most
called_leads : (P : Bytecode) (f : ℕ) (c : Config) → Leads P c 4 (called P f c)
called_leads P f c = by_room (length c.callers == CALLERS) where
  by_room :
      (b : Bool) → Leads P c 4 (if b then failed P (RaisesOn DEPTH) c else record c {
        frame = entered f (in_order (args_of (function_at P f)) c.frame.stack);
        callers = c.frame ∷ c.callers;
        stage = Runs;
      })
  by_room true = failed_leads P DEPTH c
  by_room false = record {
    limit = refl;
    counted = refl;
    little = omega arith;
    orderly = tt;
    levels = refl;
    alone = λ none. none;
    runs = λ main. refl;
  }

-- a machine that has done an instruction which is not refused has five answers due above its levels, at most
done_leads :
    (P : Bytecode) (i : Instr) (c : Config) (o : Outcome) → OutcomeEnds i o → instr_at P c.frame.function c.frame.place ≡ Some i →
    is_refused c.attempt c i ≡ false → Leads P c 5 (done P i c o)
done_leads P i c OutGoes ends is allowed =
    record { limit = refl; counted = refl; little = omega arith; orderly = tt; levels = refl; alone = λ none. none; runs = λ main. refl }
done_leads P i c (Gives a) ends is allowed =
    record { limit = refl; counted = refl; little = omega arith; orderly = tt; levels = refl; alone = λ none. none; runs = λ main. refl }
done_leads P i c (GivesTwo a b) ends is allowed =
    record { limit = refl; counted = refl; little = omega arith; orderly = tt; levels = refl; alone = λ none. none; runs = λ main. refl }
done_leads P i c (Sets k a) ends is allowed =
    record { limit = refl; counted = refl; little = omega arith; orderly = tt; levels = refl; alone = λ none. none; runs = λ main. refl }
done_leads P i c (Jumps to) ends is allowed =
    record { limit = refl; counted = refl; little = omega arith; orderly = tt; levels = refl; alone = λ none. none; runs = λ main. refl }
done_leads P i c (Calls f) ends is allowed = more_room P c 4 5 _ (omega arith) (called_leads P f c)
done_leads P i c (Returns a) ends is allowed = more_room P c 3 5 _ (omega arith) (returned_leads P a c c.callers)
done_leads P i c Halts ends is allowed = more_room P c 1 5 _ (omega arith) (ending_leads P Halted c)
done_leads P i c (Raises code) ends is allowed = more_room P c 4 5 _ (omega arith) (failed_leads P code c)
done_leads P i c (Asks ask) ends is allowed =
    record {
      limit = refl;
      counted = refl;
      little = omega arith;
      orderly = record { instr = i; there = is; asks = ends; attempt = ends_what_runs c i ask ends allowed };
      levels = refl;
      alone = λ none. none;
      runs = λ main. refl;
    }

-- a machine that ran the instruction at its place has five answers due above its levels, at most
ran_leads : (P : Bytecode) (c : Config) (o : Option Instr) → instr_at P c.frame.function c.frame.place ≡ o → c.stage ≡ Runs
    → Leads P c 5 (ran P c o)
ran_leads P c None is runs = record {
  limit = refl;
  counted = refl;
  little = rw runs (omega arith);
  orderly = rw runs tt;
  levels = refl;
  alone = λ none. none;
  runs = λ main. rw runs refl;
}
ran_leads P c (Some i) is runs = by_refusal (is_refused c.attempt c i) refl where
  by_refusal :
      (b : Bool) → is_refused c.attempt c i ≡ b →
      Leads P c 5 (if b then failed P (RaisesOn TX_STATE) c else done P i c (row P c.thread c.frame.locals c.frame.stack i))
  by_refusal true refused = more_room P c 4 5 _ (omega arith) (failed_leads P TX_STATE c)
  by_refusal false allowed = done_leads P i c _ (row_ends P c.thread c.frame.locals c.frame.stack i) is allowed

-- ## Steps

-- what is due falls, but for an instruction that is counted, and then it grows by less than 4; the levels, the attempt and
-- the thread's state are what the answer makes of them
pub record Falls (P : Bytecode) (c : Config) (ask : Ask) (reply : Reply) (d : Config) : Type 0 where
  pub limit : d.limit ≡ c.limit
  pub less : due d + 4 * c.counted < due c + 4 * d.counted
  pub orderly : IsOrderly P d
  pub levels : d.levels ≡ levels_told ask reply c.levels
  pub alone : BeginsNone ask → c.attempt ≡ None → d.attempt ≡ None
  pub state : (main : ℕ) → state_at main d.stage ≡ state_told ask (state_at main c.stage)

-- what is due falls by an answer, where the machine before it had more due and nothing but the answer changed it
falls :
    (P : Bytecode) (c : Config) (ask : Ask) (reply : Reply) (b : Config) (n : ℕ) (d : Config) → b.limit ≡ c.limit → b.counted ≡ c.counted →
    c.counted ≤ c.limit → sum b.levels + n < due c → b.levels ≡ levels_told ask reply c.levels →
    (BeginsNone ask → c.attempt ≡ None → b.attempt ≡ None) → ((main : ℕ) → state_told ask (state_at main c.stage) ≡ Running) →
    Leads P b n d → Falls P c ask reply d
falls P c ask reply b n d limit counted within less levels alone state l =
    let le = l.little in
    let same = l.counted in
    let bound = l.limit in
    record {
      limit = l.limit ∙ limit;
      less = omega arith;
      orderly = record { within = omega arith; stage = l.orderly };
      levels = l.levels ∙ levels;
      alone = λ begins none. l.alone (alone begins none);
      state = λ main. l.runs main ∙ sym (state main);
    }

-- what is due falls by the start of an instruction, but for what a counted instruction adds
started_falls : (P : Bytecode) (c : Config) (reply : Reply) → c.counted ≤ c.limit → c.stage ≡ Runs → Falls P c Go reply (started P c)
started_falls P c reply within runs = by_steps (c.counted == c.limit) refl where
  told : levels_told Go reply c.levels ≡ c.levels
  told = told_none Go reply c.levels (λ xs. refl)

  by_steps :
      (b : Bool) → (c.counted == c.limit) ≡ b →
      Falls P c Go reply (if b then failed P Spends c
      else ran P (record c { counted = c.counted + 1 }) (instr_at P c.frame.function c.frame.place))
  by_steps true e = falls P c Go reply c 2 _ refl refl within (rw runs (omega arith)) (sym told) (λ begins none. none)
      (λ main. rw runs refl) (spent_leads P c)
  by_steps false e =
      let differ : c.counted ≢ c.limit = search (rules, e) in
      let l = ran_leads P (record c { counted = c.counted + 1 }) (instr_at P c.frame.function c.frame.place) refl runs in
      let le = l.little in
      let same = l.counted in
      let bound = l.limit in
      let three : due c ≡ sum c.levels + 3 = rw runs refl in
      record {
        limit = l.limit;
        less = omega arith;
        orderly = record { within = omega arith; stage = l.orderly };
        levels = l.levels ∙ sym told;
        alone = λ begins none. l.alone none;
        state = λ main. l.runs main ∙ rw runs refl;
      }

-- a machine that goes back to its attempt's beginning has three answers due above its levels, at most
again_leads : (P : Bytecode) (o : Option Attempt) (c : Config) → is_some o ≡ true → Leads P c 3 (again o c)
again_leads P None c some = cc
again_leads P (Some a) c some = record {
  limit = refl;
  counted = refl;
  little = omega arith;
  orderly = tt;
  levels = refl;
  alone = λ none. refl;
  runs = λ main. refl;
}

-- a machine whose instruction got its answer has three answers due above its levels, at most
answered_leads : (P : Bytecode) (values : List ℤ) (c : Config) (f : Frame) (i : Instr) → instr_at P f.function f.place ≡ Some i
    → Leads P c 3 (answered P values c (instr_at P f.function f.place))
answered_leads P values c f i is = rw is (record {
  limit = refl;
  counted = refl;
  little = omega arith;
  orderly = tt;
  levels = refl;
  alone = λ none. none;
  runs = λ main. refl;
})

-- where a retry may be the answer and the end is asked of a running attempt, an attempt runs
runs_attempt : (n : ℕ) (ask : Ask) (o : Option Attempt) → answers n ask Retry ≡ true → EndsWhatRuns ask o → is_some o ≡ true
runs_attempt n (TxEnd keep) o is ends = ends
runs_attempt n Go o is ends = cc
runs_attempt n Begin o is ends = cc
runs_attempt n End o is ends = cc
runs_attempt n (AskOver e) o is ends = cc
runs_attempt n (Read x) o is ends = cc
runs_attempt n (Write x a) o is ends = cc
runs_attempt n (VRead v) o is ends = cc
runs_attempt n (VWrite v a) o is ends = cc
runs_attempt n (AskEnter m) o is ends = cc
runs_attempt n (AskExit m) o is ends = cc
runs_attempt n (AskFork f b) o is ends = cc
runs_attempt n (AskJoin u) o is ends = cc
runs_attempt n TxBegin o is ends = cc
runs_attempt n (Alloc k) o is ends = cc
runs_attempt n (AskPrint a) o is ends = cc
runs_attempt n AskInput o is ends = cc

-- an ask that begins no attempt leaves none where none was
no_attempt : (ask : Ask) (c : Config) → BeginsNone ask → c.attempt ≡ None → attempt_after ask c ≡ None
no_attempt Go c begins none = none
no_attempt Begin c begins none = none
no_attempt End c begins none = none
no_attempt (AskOver e) c begins none = none
no_attempt (Read x) c begins none = none
no_attempt (Write x a) c begins none = none
no_attempt (VRead v) c begins none = none
no_attempt (VWrite v a) c begins none = none
no_attempt (AskEnter o) c begins none = none
no_attempt (AskExit o) c begins none = none
no_attempt (AskFork f a) c begins none = none
no_attempt (AskJoin u) c begins none = none
no_attempt TxBegin c begins none = absurd begins
no_attempt (TxEnd keep) c begins none = refl
no_attempt (Alloc k) c begins none = none
no_attempt (AskPrint a) c begins none = none
no_attempt AskInput c begins none = none

-- a thread runs on after what an instruction asks
still_runs : (i : Instr) (ask : Ask) → IsAskedBy i ask → state_told ask Running ≡ Running
still_runs i Go asks = absurd asks
still_runs i Begin asks = absurd asks
still_runs i End asks = absurd asks
still_runs i (AskOver e) asks = absurd asks
still_runs i (Read x) asks = refl
still_runs i (Write x a) asks = refl
still_runs i (VRead v) asks = refl
still_runs i (VWrite v a) asks = refl
still_runs i (AskEnter o) asks = refl
still_runs i (AskExit o) asks = refl
still_runs i (AskFork f a) asks = refl
still_runs i (AskJoin u) asks = refl
still_runs i TxBegin asks = refl
still_runs i (TxEnd keep) asks = refl
still_runs i (Alloc k) asks = refl
still_runs i (AskPrint a) asks = refl
still_runs i AskInput asks = refl

-- what is due falls by the answer to what an instruction asked
settled_falls :
    (P : Bytecode) (c : Config) (ask : Ask) (reply : Reply) (n : ℕ) → c.counted ≤ c.limit → c.stage ≡ Waits ask →
    WaitsRightly P c ask → answers n ask reply ≡ true → Falls P c ask reply (settled P c ask reply)
settled_falls P c ask Gone n within is orderly fits =
    let after = record c { levels = levels_after ask c.levels; attempt = attempt_after ask c } in
    let grown = sum-after ask c.levels in
    let five : due c ≡ sum c.levels + 5 = rw is refl in
    falls P c ask Gone after 3 _ refl refl within (omega arith) refl (no_attempt ask c)
    (λ main. rw is (still_runs orderly.instr ask orderly.asks))
    (answered_leads P [] after c.frame orderly.instr orderly.there)
settled_falls P c ask (Value a) n within is orderly fits =
    let five : due c ≡ sum c.levels + 5 = rw is refl in
    falls P c ask (Value a) c 3 _ refl refl within (omega arith) refl (λ begins none. none)
    (λ main. rw is (still_runs orderly.instr ask orderly.asks))
    (answered_leads P (a ∷ []) c c.frame orderly.instr orderly.there)
settled_falls P c ask (Raise code) n within is orderly fits =
    let after = record c { attempt = attempt_after ask c } in
    let five : due c ≡ sum c.levels + 5 = rw is refl in
    falls P c ask (Raise code) after 4 _ refl refl within (omega arith) refl (no_attempt ask c)
    (λ main. rw is (still_runs orderly.instr ask orderly.asks))
    (failed_leads P code after)
settled_falls P c ask Retry n within is orderly fits =
    let five : due c ≡ sum c.levels + 5 = rw is refl in
    falls P c ask Retry c 3 _ refl refl within (omega arith) refl (λ begins none. none)
    (λ main. rw is (still_runs orderly.instr ask orderly.asks))
    (again_leads P c.attempt c (runs_attempt n ask c.attempt fits orderly.attempt))
settled_falls P c ask (Start f a) n within is orderly fits = absurd (no_start n ask f a fits)

-- what is due falls by the answer to a dropped attempt
dropped_falls :
    (P : Bytecode) (failure : Failure) (c : Config) (reply : Reply) → c.counted ≤ c.limit → c.stage ≡ Drops failure →
    is_some c.attempt ≡ true → Falls P c (TxEnd false) reply (dropped P failure c reply)
dropped_falls P (RaisesOn code) c (Raise other) within is some =
    let four : due c ≡ sum c.levels + 4 = rw is refl in
    let after = record c { attempt = None } in
    falls P c (TxEnd false) (Raise other) after 3 _ refl refl within (omega arith) refl (λ begins none. refl) (λ main. rw is refl)
    (thrown_leads P other after c.callers)
dropped_falls P (RaisesOn code) c Retry within is some =
    let four : due c ≡ sum c.levels + 4 = rw is refl in
    falls P c (TxEnd false) Retry c 3 _ refl refl within (omega arith) refl (λ begins none. none) (λ main. rw is refl)
    (again_leads P c.attempt c some)
dropped_falls P (RaisesOn code) c Gone within is some =
    let four : due c ≡ sum c.levels + 4 = rw is refl in
    let after = record c { attempt = None } in
    falls P c (TxEnd false) Gone after 3 _ refl refl within (omega arith) refl (λ begins none. refl) (λ main. rw is refl)
    (thrown_leads P code after c.callers)
dropped_falls P (RaisesOn code) c (Value a) within is some =
    let four : due c ≡ sum c.levels + 4 = rw is refl in
    let after = record c { attempt = None } in
    falls P c (TxEnd false) (Value a) after 3 _ refl refl within (omega arith) refl (λ begins none. refl) (λ main. rw is refl)
    (thrown_leads P code after c.callers)
dropped_falls P (RaisesOn code) c (Start f a) within is some =
    let four : due c ≡ sum c.levels + 4 = rw is refl in
    let after = record c { attempt = None } in
    falls P c (TxEnd false) (Start f a) after 3 _ refl refl within (omega arith) refl (λ begins none. refl) (λ main. rw is refl)
    (thrown_leads P code after c.callers)
dropped_falls P Spends c reply within is some =
    let two : due c ≡ sum c.levels + 2 = rw is refl in
    let after = record c { attempt = None } in
    falls P c (TxEnd false) reply after 1 _ refl refl within (omega arith) (sym (told_none (TxEnd false) reply c.levels (λ xs. refl)))
    (λ begins none. refl) (λ main. rw is refl)
    (ending_leads P Spent after)

-- what is due falls by the answer that begins the thread
begun_falls : (P : Bytecode) (c : Config) (reply : Reply) → c.counted ≤ c.limit → c.stage ≡ Begins → takes_at Begins c.attempt reply ≡ true
    → Falls P c Begin reply (begun P reply c)
begun_falls P c (Start f a) within is taken =
    let four : due c ≡ sum c.levels + 4 = rw is refl in
    record {
      limit = refl;
      less = omega arith;
      orderly = record { within = within; stage = tt };
      levels = refl;
      alone = λ begins none. none;
      state = λ main. refl;
    }
begun_falls P c Gone within is taken = cc
begun_falls P c (Value a) within is taken = cc
begun_falls P c (Raise code) within is taken = cc
begun_falls P c Retry within is taken = cc

-- what is due falls by each reply that the machine takes at its stage
next_falls :
    (P : Bytecode) (c : Config) (reply : Reply) (stage : Stage) → c.stage ≡ stage → c.counted ≤ c.limit → StageIsOrderly P c stage →
    takes_at stage c.attempt reply ≡ true → Falls P c (ask_of stage) reply (next_at stage P c reply)
next_falls P c reply New is within orderly taken =
    let five : due c ≡ sum c.levels + 5 = rw is refl in
    record {
      limit = refl;
      less = omega arith;
      orderly = record { within = within; stage = tt };
      levels = sym (told_none Go reply c.levels (λ xs. refl));
      alone = λ begins none. none;
      state = λ main. rw is refl;
    }
next_falls P c reply Begins is within orderly taken = begun_falls P c reply within is taken
next_falls P c reply Runs is within orderly taken = started_falls P c reply within is
next_falls P c reply (Waits ask) is within orderly taken = settled_falls P c ask reply (refusal_in c.attempt) within is orderly taken
next_falls P c reply (Drops failure) is within orderly taken = dropped_falls P failure c reply within is orderly
next_falls P c reply (Leaves ending o) is within orderly taken =
    let one : due c ≡ sum c.levels + 1 = rw is refl in
    let there = orderly.there in
    let entered' = orderly.entered in
    let after = record c { levels = levels_after (AskExit o) c.levels } in
    let e = sum-set c.levels o (get_or c.levels o 0 - 1) there in
    falls P c (AskExit o) reply after 1 _ refl refl within (omega arith) (left_told reply taken) (λ begins none. none) (λ main. rw is refl)
    (ending_leads P ending after)
  where
    left_told : (r : Reply) → is_go r ≡ true → levels_after (AskExit o) c.levels ≡ levels_told (AskExit o) r c.levels
    left_told Gone go = refl
    left_told (Value a) go = cc
    left_told (Start f a) go = cc
    left_told (Raise code) go = cc
    left_told Retry go = cc
next_falls P c reply (Ends ending) is within orderly taken =
    let one : due c ≡ sum c.levels + 1 = rw is refl in
    record {
      limit = refl;
      less = omega arith;
      orderly = record { within = within; stage = tt };
      levels = sym (told_none End reply c.levels (λ xs. refl));
      alone = λ begins none. none;
      state = λ main. refl;
    }
next_falls P c reply (Over ending) is within orderly taken = cc

-- each answer that a machine takes brings it nearer to its end
pub step_falls : (P : Bytecode) (c : Config) (reply : Reply) → IsOrderly P c → takes c reply ≡ true
    → Falls P c (ask_of c.stage) reply (next P c reply)
step_falls P c reply orderly taken = next_falls P c reply c.stage refl orderly.within orderly.stage taken

-- the sum of nothing but zeros is zero
sum-zeros : (n : ℕ) → sum (replicate n 0) ≡ 0
sum-zeros zero = refl
sum-zeros (suc n) = sum-zeros n

-- a new machine is orderly
pub orderly_fresh : (P : Bytecode) (t steps : ℕ) → IsOrderly P (fresh P t steps)
orderly_fresh P t steps = record { within = omega arith; stage = tt }

-- a new machine has five answers due
pub due_fresh : (P : Bytecode) (t steps : ℕ) → due (fresh P t steps) ≡ 5
due_fresh P t steps = (let none = sum-zeros MONITORS in omega arith)

-- ## Whole lists

-- after so many exchanges, if they lead on, the machine is orderly and that much less is due, but for what was counted
abbrev Fell : Bytecode → Config → ℕ → Option Progress → Type 0
Fell P c n None = Unit {0}
Fell P c n (Some q) = IsOrderly P q.config × (due q.config + n + 4 * c.counted ≤ due c + 4 * q.config.counted)

-- a reply makes what is due fall by one, but for what was counted
replied_falls : (P : Bytecode) (p : Progress) (o : Option Reply) → IsOrderly P p.config → Fell P p.config 1 (replied P p o)
replied_falls P p None orderly = tt
replied_falls P p (Some reply) orderly = by_take (takes p.config reply) refl where
  by_take : (b : Bool) → takes p.config reply ≡ b → Fell P p.config 1 (if b then Some (record {
    config = next P p.config reply;
    looks = looks_after p (ask_of p.config.stage) reply;
    writes = writes_after p (ask_of p.config.stage) reply;
  })
      else None)
  by_take true taken = (let f = step_falls P p.config reply orderly taken in let less = f.less in (f.orderly, omega arith))
  by_take false refused = tt

-- exchanges make what is due fall by as many as they are, but for what was counted
told_falls : (P : Bytecode) (p : Progress) (xs : List Exchange) → IsOrderly P p.config → Fell P p.config (length xs) (told P p xs)
unfolding told
told_falls P p [] orderly = (orderly, omega arith)
told_falls P p (x ∷ xs) orderly = behind (told_one P x p) (replied_falls P p (reply_of p (ask_of p.config.stage) x) orderly)
    (λ q. told_falls P q xs) where
      more : (q : Progress) (o : Option Progress) → due q.config + 1 + 4 * p.config.counted ≤ due p.config + 4 * q.config.counted
          → Fell P q.config (length xs) o → Fell P p.config (length (x ∷ xs)) o
      more q None le fell = tt
      more q (Some r) le fell = (fell.0, (let e = fell.1 in omega arith))

      behind :
          (o : Option Progress) → Fell P p.config 1 o
          → ((q : Progress) → IsOrderly P q.config → Fell P q.config (length xs) (told P q xs)) →
          Fell P p.config (length (x ∷ xs)) (option_and_then (λ q. told P q xs) o)
      behind None fell rest = tt
      behind (Some q) fell rest = more q (told P q xs) fell.1 (rest q fell.0)

-- exchanges have no more entries than they are
entries_few : (xs : List Exchange) → length (entries_of xs) ≤ length xs
entries_few [] = omega arith
entries_few (Made e ∷ xs) = (let more = entries_few xs in omega arith)
entries_few (Quiet r ∷ xs) = (let more = entries_few xs in omega arith)

-- a list is bounded by the instructions that its machine has counted
pub entries_bounded :
    (P : Bytecode) (steps t : ℕ) (list : List Entry) (p : Progress) → Along P steps t list p →
    length (without_trims list) + due p.config ≤ 4 * p.config.counted + 5
entries_bounded P steps t list p along =
    let fell : Fell P (fresh P t steps) (length along.exchanges) (Some p) =
    rw along.reached at (told_falls P (outset P t steps) along.exchanges (orderly_fresh P t steps)) in
    let le = fell.1 in
    let few = entries_few along.exchanges in
    let same : length (entries_of along.exchanges) ≡ length (without_trims list) = ap length along.made in
    let first = due_fresh P t steps in
    omega arith
