-- An event call answers what was asked.
use Rattle.std.proofs.Common.{◌≡◌, ℕ, ℤ, pos, ◌<◌, ◌==◌, Bool, true, false, List, [], refl, sym, ◌∙◌, ap, arith, Some, None, inl, inr, eq-eqb, rules}
use Rattle.std.proofs.lemmas.Bool.Decides.{nat_tests}
use Rattle.std.specs.Prelude.{◌⊎◌, if◌then◌else◌, slice_index}
use Rattle.std.specs.Ordering.{int_eq}
use Rattle.gl_model.specs.declared.event.Act.{Act}
use Rattle.gl_model.specs.declared.event.Act.TheVariants.{Rel, Fork as Forked, Join as Joined, Alloc as Allocated, Input as Taken, Fail}
use Rattle.gl_model.specs.Entries.{Sync}
use Rattle.gl_model.specs.Machine.{Setting}
use Rattle.gl_bytecode.specs.declared.ask.Ask.{Ask}
use Rattle.gl_bytecode.specs.declared.ask.Ask.TheVariants.{Go, Begin, End, Over, Read, Write, VRead, VWrite, Enter, Exit, Fork, Join, Alloc, Print, Input, TxBegin, TxEnd}
use Rattle.gl_bytecode.specs.declared.ask.Reply.{Reply}
use Rattle.gl_bytecode.specs.declared.ask.Reply.TheVariants.{Go as Gone, Value, Raise}
use Rattle.gl_bytecode.specs.Attending.{runs_after}
use Rattle.gl_bytecode.specs.Fits.{Fits, StartsRight}
use Rattle.gl_bytecode.specs.Machine.{Config}
use Rattle.gl_bytecode.specs.Programs.{Bytecode}
use Rattle.gl_bytecode.specs.Runs.{Made, reply_of_act, looks_after, writes_after}
use Rattle.gl_vm.specs.Asking.{levels_told}
use Rattle.gl_events.specs.Calls.{child_in, not_owner, heap_full, threads_full, input_end, bad_thread}
use Rattle.gl_events.specs.declared.done.Done.{Done}
use Rattle.gl_rule.specs.Lives.{Life, Unbegun, Running, life_after, life_of}
use Rattle.gl_table.specs.Doing.{told}
use Rattle.gl_table.specs.PassView.{Own}
use Rattle.gl_riders.specs.Events.{IsDoneFor, IsEvent, answer_or, event_entry, event_reply, go_or}
use Rattle.gl_riders.specs.Exchanges.{IsAnswered, LeavesRightly, life_told, suits}
use Rattle.gl_rule.specs.Levels.{levels_act, levels_of}
use Rattle.gl_riders.specs.Riding.{IsSetFor, progress_of}
use Rattle.gl_riders.proofs.Lists.{levels_push, life_push}
use Rattle.gl_riders.proofs.Starting.{may_begin}

-- a whole number is the same as itself
same_int : (v : ℤ) → int_eq v v ≡ true
same_int v = search rules

-- a number is the same as itself
same_nat : (n : ℕ) → (n == n) ≡ true
same_nat n = eq-eqb n n refl

-- ## An act that gives this reply

-- what is needed of the act, the value and the reply
record Tells (c : Config) (life : Life) (levels : List ℕ) (ask : Ask) (act : Act) (value : ℤ) (reply : Reply) : Type 0 where
  gives : reply_of_act ask act value ≡ Some reply
  fits : suits c.attempt ask reply ≡ true
  leaves : LeavesRightly c ask reply
  lives : (at : ℕ) → life_after life (Sync at act value) ≡ life_told ask life
  changes : levels_act levels act ≡ levels_told ask reply levels

module _ (c : Config) (none : c.attempt ≡ None) (life : Life) (levels : List ℕ) where
  -- an exit of a monitor is told as a release, or as the failure that the thread does not own it
  exit_tells : (o code : ℕ) → life ≡ Running → code ≡ (if slice_index levels o == 0 then not_owner else 0) → levels ≡ c.levels →
      Tells c life levels (Exit o) (if code == 0 then Rel o else Fail not_owner) (if code == 0 then pos 0 else pos o) (go_or code)
  exit_tells o code runs is same = by_level (slice_index levels o == 0) refl is where
    -- so it is, whether the thread is in the monitor or not
    by_level : (b : Bool) → (slice_index levels o == 0) ≡ b → code ≡ (if b then not_owner else 0) →
        Tells c life levels (Exit o) (if code == 0 then Rel o else Fail not_owner) (if code == 0 then pos 0 else pos o) (go_or code)
    by_level true out five = rw five (record {
      gives = rw (same_int (pos o)) refl;
      fits = refl;
      leaves = λ entered. (let in' : 0 < slice_index levels o = (rw same entered) in let z : slice_index levels o
          ≡ 0 = grind (arith, nat_tests) in absurd (omega arith));
      lives = λ at. rw runs refl;
      changes = refl;
    })
    by_level false in' zero' = rw zero' (record {
      gives = rw (same_nat o) refl;
      fits = refl;
      leaves = λ entered. refl;
      lives = λ at. rw runs refl;
      changes = refl;
    })

  -- a fork is told as the fork of the child that the value names, or as the failure that there is no room for a thread
  fork_tells : (f : ℕ) (a : ℤ) (code : ℕ) (value : ℤ) → life ≡ Running → ((code ≡ 0) × (value ≡ pos (child_in value)))
      ⊎ (code ≡ threads_full) →
      Tells c life levels (Fork f a) (if code == 0 then Forked (child_in value) f else Fail threads_full) (if code == 0 then a else pos 0)
      (answer_or code value)
  fork_tells f a code value runs (inl z) =
      rw z.0 (record {
        gives = rw (same_nat f, same_int a) (ap (λ v. Some (Value v)) (sym z.1));
        fits = refl;
        leaves = tt;
        lives = λ at. rw runs refl;
        changes = refl;
      })
  fork_tells f a code value runs (inr e) = rw e
      (record { gives = refl; fits = refl; leaves = tt; lives = λ at. rw runs refl; changes = refl })

  -- a join is told as the join, or as the failure that the thread is none to join
  join_tells : (u code : ℕ) → life ≡ Running → (code ≡ 0) ⊎ (code ≡ bad_thread) →
      Tells c life levels (Join u) (if code == 0 then Joined u else Fail bad_thread) (if code == 0 then pos 0 else pos u) (go_or code)
  join_tells u code runs (inl z) = rw z (record
      { gives = rw (same_nat u) refl; fits = refl; leaves = tt; lives = λ at. rw runs refl; changes = refl })
  join_tells u code runs (inr e) = rw e (record {
    gives = rw (same_int (pos u)) refl;
    fits = refl;
    leaves = tt;
    lives = λ at. rw runs refl;
    changes = refl;
  })

  -- an allocation is told as the allocation, or as the failure that the heap is full
  alloc_tells : (k code : ℕ) (value : ℤ) → life ≡ Running → (code ≡ 0) ⊎ (code ≡ heap_full) →
      Tells c life levels (Alloc k) (if code == 0 then Allocated k else Fail heap_full) (if code == 0 then value else pos k)
      (answer_or code value)
  alloc_tells k code value runs (inl z) = rw z
      (record { gives = rw (same_nat k) refl; fits = refl; leaves = tt; lives = λ at. rw runs refl; changes = refl })
  alloc_tells k code value runs (inr e) = rw e
      (record { gives = rw (same_int (pos k)) refl; fits = refl; leaves = tt; lives = λ at. rw runs refl; changes = refl })

  -- an input is told as taken, or as the failure that the input has ended
  input_tells : (code : ℕ) (value : ℤ) → life ≡ Running → (code ≡ 0) ⊎ ((code ≡ input_end) × (value ≡ pos 0)) →
      Tells c life levels Input (if code == 0 then Taken else Fail input_end) value (answer_or code value)
  input_tells code value runs (inl z) = rw z (record { gives = refl; fits = refl; leaves = tt; lives = λ at. rw runs refl; changes = refl })
  input_tells code value runs (inr e) = rw (e.0, e.1)
      (record { gives = refl; fits = refl; leaves = tt; lives = λ at. rw runs refl; changes = refl })

-- ## The answer

-- after an event there are no looks
no_looks : (c : Config) (ask : Ask) (reply : Reply) → IsEvent ask → ◌≡◌ {A = List (ℕ × ℤ)} [] (looks_after (progress_of c None) ask reply)
no_looks c (Read x) reply event = absurd event
no_looks c (TxEnd keep) reply event = absurd event
no_looks c Go reply event = refl
no_looks c Begin reply event = refl
no_looks c End reply event = refl
no_looks c (Over e) reply event = refl
no_looks c (Write x a) reply event = refl
no_looks c (VRead v) reply event = refl
no_looks c (VWrite v a) reply event = refl
no_looks c (Enter o) reply event = refl
no_looks c (Exit o) reply event = refl
no_looks c (Fork f a) reply event = refl
no_looks c (Join u) reply event = refl
no_looks c (Alloc k) reply event = refl
no_looks c (Print a) reply event = refl
no_looks c Input reply event = refl
no_looks c TxBegin reply event = refl

-- after an event there are no writes
no_writes : (c : Config) (ask : Ask) (reply : Reply) → IsEvent ask → ◌≡◌ {A = List (ℕ × ℤ)} [] (writes_after (progress_of c None) ask reply)
no_writes c (Write x a) reply event = absurd event
no_writes c (TxEnd keep) reply event = absurd event
no_writes c Go reply event = refl
no_writes c Begin reply event = refl
no_writes c End reply event = refl
no_writes c (Over e) reply event = refl
no_writes c (Read x) reply event = refl
no_writes c (VRead v) reply event = refl
no_writes c (VWrite v a) reply event = refl
no_writes c (Enter o) reply event = refl
no_writes c (Exit o) reply event = refl
no_writes c (Fork f a) reply event = refl
no_writes c (Join u) reply event = refl
no_writes c (Alloc k) reply event = refl
no_writes c (Print a) reply event = refl
no_writes c Input reply event = refl
no_writes c TxBegin reply event = refl

-- an event begins no attempt
no_attempt : (ask : Ask) → IsEvent ask → false ≡ runs_after ask false
no_attempt TxBegin event = absurd event
no_attempt (TxEnd keep) event = absurd event
no_attempt Go event = refl
no_attempt Begin event = refl
no_attempt End event = refl
no_attempt (Over e) event = refl
no_attempt (Read x) event = refl
no_attempt (Write x a) event = refl
no_attempt (VRead v) event = refl
no_attempt (VWrite v a) event = refl
no_attempt (Enter o) event = refl
no_attempt (Exit o) event = refl
no_attempt (Fork f a) event = refl
no_attempt (Join u) event = refl
no_attempt (Alloc k) event = refl
no_attempt (Print a) event = refl
no_attempt Input event = refl

-- an act that is told as its answer says is answered rightly
by_act :
    (P : Bytecode) (c : Config) (ask : Ask) (reply : Reply) (own new : Own) (at : ℕ) (act : Act) (value : ℤ) → IsEvent ask → own.drawn
    ≡ [] →
    new ≡ told (Sync at act value) own → Tells c (life_of own.mine) (levels_of own.mine) ask act value reply → StartsRight P reply →
    IsAnswered P c ask reply own new None None
by_act P c ask reply own new at act value event drawn is tells starts = rw is (record {
  exchange = Made (Sync at act value);
  gives = tells.gives;
  kept = refl;
  fitting = tells.fits;
  leaves = tells.leaves;
  starts = starts;
  mine = refl;
  rest = refl;
  repeats = tt;
  looks = no_looks c ask reply event;
  writes = no_writes c ask reply event;
  running = no_attempt ask event;
  life = life_push own.mine (Sync at act value) ∙ tells.lives at;
  levels = levels_push own.mine (Sync at act value) ∙ tells.changes;
  drawn = drawn;
})

-- where the thread begins, its list has nothing yet; else it runs
abbrev pub LifeFor : Ask → Life → Type 0
LifeFor Begin life = life ≡ Unbegun
LifeFor Go life = life ≡ Running
LifeFor End life = life ≡ Running
LifeFor (Over e) life = life ≡ Running
LifeFor (Read x) life = life ≡ Running
LifeFor (Write x a) life = life ≡ Running
LifeFor (VRead v) life = life ≡ Running
LifeFor (VWrite v a) life = life ≡ Running
LifeFor (Enter o) life = life ≡ Running
LifeFor (Exit o) life = life ≡ Running
LifeFor (Fork f a) life = life ≡ Running
LifeFor (Join u) life = life ≡ Running
LifeFor (Alloc k) life = life ≡ Running
LifeFor (Print a) life = life ≡ Running
LifeFor Input life = life ≡ Running
LifeFor TxBegin life = life ≡ Running
LifeFor (TxEnd keep) life = life ≡ Running

-- a go, or an error, starts no thread
go_starts : (P : Bytecode) (code : ℕ) → StartsRight P (go_or code)
go_starts P code = by_test (code == 0) where
  by_test : (b : Bool) → StartsRight P (if b then Gone else Raise code)
  by_test true = tt
  by_test false = tt

-- a value, or an error, starts no thread
answer_starts : (P : Bytecode) (code : ℕ) (value : ℤ) → StartsRight P (answer_or code value)
answer_starts P code value = by_test (code == 0) where
  by_test : (b : Bool) → StartsRight P (if b then Value value else Raise code)
  by_test true = tt
  by_test false = tt

-- an event call that is done and told in the list is answered rightly
pub event_answers :
    (P : Bytecode) (setting : Setting) (c : Config) (ask : Ask) (d : Done) (own new : Own) → IsSetFor P setting → Fits P c → c.attempt
    ≡ None →
    IsEvent ask → LifeFor ask (life_of own.mine) → levels_of own.mine ≡ c.levels → own.drawn ≡ []
    → IsDoneFor setting (levels_of own.mine) ask d →
    new ≡ told (event_entry ask d) own → IsAnswered P c ask (event_reply ask d) own new None None
event_answers P setting c Begin d own new set fits none event runs levels drawn done is =
    by_act P c Begin _ own new d.at _ _ tt drawn is
    (record { gives = refl; fits = refl; leaves = tt; lives = λ at. rw runs refl; changes = refl })
    (may_begin P setting c d.func set fits done)
event_answers P setting c End d own new set fits none event runs levels drawn done is =
    by_act P c End _ own new d.at _ _ tt drawn is
    (record { gives = refl; fits = refl; leaves = tt; lives = λ at. rw runs refl; changes = refl }) tt
event_answers P setting c (VRead v) d own new set fits none event runs levels drawn done is =
    by_act P c (VRead v) _ own new d.at _ _ tt drawn is
    (record { gives = rw (same_nat v) refl; fits = refl; leaves = tt; lives = λ at. rw runs refl; changes = refl }) tt
event_answers P setting c (VWrite v a) d own new set fits none event runs levels drawn done is =
    by_act P c (VWrite v a) _ own new d.at _ _ tt drawn is
    (record { gives = rw (same_nat v, same_int a) refl; fits = refl; leaves = tt; lives = λ at. rw runs refl; changes = refl }) tt
event_answers P setting c (Enter o) d own new set fits none event runs levels drawn done is =
    by_act P c (Enter o) _ own new d.at _ _ tt drawn is
    (record { gives = rw (same_nat o) refl; fits = refl; leaves = tt; lives = λ at. rw runs refl; changes = refl }) tt
event_answers P setting c (Exit o) d own new set fits none event runs levels drawn done is =
    by_act P c (Exit o) _ own new d.at _ _ tt drawn is
    (exit_tells c none (life_of own.mine) (levels_of own.mine) o d.code runs done levels) (go_starts P d.code)
event_answers P setting c (Fork f a) d own new set fits none event runs levels drawn done is =
    by_act P c (Fork f a) _ own new d.at _ _ tt drawn is
    (fork_tells c none (life_of own.mine) (levels_of own.mine) f a d.code d.value runs done) (answer_starts P d.code d.value)
event_answers P setting c (Join u) d own new set fits none event runs levels drawn done is =
    by_act P c (Join u) _ own new d.at _ _ tt drawn is (join_tells c none (life_of own.mine) (levels_of own.mine) u d.code runs done)
    (go_starts P d.code)
event_answers P setting c (Alloc k) d own new set fits none event runs levels drawn done is =
    by_act P c (Alloc k) _ own new d.at _ _ tt drawn is
    (alloc_tells c none (life_of own.mine) (levels_of own.mine) k d.code d.value runs done) (answer_starts P d.code d.value)
event_answers P setting c (Print a) d own new set fits none event runs levels drawn done is =
    by_act P c (Print a) _ own new d.at _ _ tt drawn is
    (record { gives = rw (same_int a) refl; fits = refl; leaves = tt; lives = λ at. rw runs refl; changes = refl }) tt
event_answers P setting c Input d own new set fits none event runs levels drawn done is =
    by_act P c Input _ own new d.at _ _ tt drawn is (input_tells c none (life_of own.mine) (levels_of own.mine) d.code d.value runs done)
    (answer_starts P d.code d.value)
event_answers P setting c Go d own new set fits none event runs levels drawn done is = absurd event
event_answers P setting c (Over e) d own new set fits none event runs levels drawn done is = absurd event
event_answers P setting c (Read x) d own new set fits none event runs levels drawn done is = absurd event
event_answers P setting c (Write x a) d own new set fits none event runs levels drawn done is = absurd event
event_answers P setting c TxBegin d own new set fits none event runs levels drawn done is = absurd event
event_answers P setting c (TxEnd keep) d own new set fits none event runs levels drawn done is = absurd event
