-- An ask that was answered.
use Rattle.std.specs.Prelude.{◌≡◌, ◌<◌, Bool, true, false, ◌++◌, [], ◌∷◌, slice_index, is_some, Option, Some}
use Rattle.gl_bytecode.specs.declared.ask.Ask.{Ask}
use Rattle.gl_bytecode.specs.declared.ask.Ask.TheVariants.{Go, Begin, End, Over, Read, Write, VRead, VWrite, Enter, Exit, Fork, Join, Alloc, Print, Input, TxBegin, TxEnd}
use Rattle.gl_bytecode.specs.declared.ask.Reply.{Reply}
use Rattle.gl_bytecode.specs.Attending.{runs_after}
use Rattle.gl_bytecode.specs.Fits.{StartsRight}
use Rattle.gl_bytecode.specs.Machine.{Attempt, Config, answers, is_go, is_start, refusal_in}
use Rattle.gl_bytecode.specs.Programs.{Bytecode}
use Rattle.gl_bytecode.specs.Runs.{Exchange, Made, Quiet, reply_of, looks_after, writes_after, entries_of, without_trims}
use Rattle.gl_vm.specs.Asking.{levels_told}
use Rattle.gl_rule.specs.Lives.{Life, Running, Ended, life_of}
use Rattle.gl_model.specs.Entries.{Entry, Sync, Commit, Plain, Abort, Trim, Over as ListOver}
use Rattle.gl_table.specs.PassView.{Own}
use Rattle.gl_table.specs.RightOf.{right_of}
use Rattle.gl_txn.specs.Attempts.{Attempting}
use Rattle.gl_rule.specs.Levels.{levels_of}
use Rattle.gl_riders.specs.Riding.{DrawsFor, looks_of, writes_of, progress_of}
use Rattle.gl_riders.specs.Sparing.{allows}

-- how far a thread's list is by an answer to the ask
abbrev pub life_told : Ask → Life → Life
life_told Begin life = Running
life_told End life = Ended
life_told Go life = life
life_told (Over ending) life = life
life_told (Read x) life = life
life_told (Write x a) life = life
life_told (VRead v) life = life
life_told (VWrite v a) life = life
life_told (Enter o) life = life
life_told (Exit o) life = life
life_told (Fork f a) life = life
life_told (Join u) life = life
life_told (Alloc k) life = life
life_told (Print a) life = life
life_told Input life = life
life_told TxBegin life = life
life_told (TxEnd keep) life = life

-- the reply fits the ask, whatever stage asks it
abbrev pub suits : Option Attempt → Ask → Reply → Bool
suits o Go reply = is_go reply
suits o Begin reply = is_start reply
suits o End reply = is_go reply
suits o (Over ending) reply = false
suits o (Read x) reply = answers (refusal_in o) (Read x) reply
suits o (Write x a) reply = answers (refusal_in o) (Write x a) reply
suits o (VRead v) reply = answers (refusal_in o) (VRead v) reply
suits o (VWrite v a) reply = answers (refusal_in o) (VWrite v a) reply
suits o (Enter m) reply = answers (refusal_in o) (Enter m) reply
suits o (Exit m) reply = answers (refusal_in o) (Exit m) reply
suits o (Fork f a) reply = answers (refusal_in o) (Fork f a) reply
suits o (Join u) reply = answers (refusal_in o) (Join u) reply
suits o (Alloc k) reply = answers (refusal_in o) (Alloc k) reply
suits o (Print a) reply = answers (refusal_in o) (Print a) reply
suits o Input reply = answers (refusal_in o) Input reply
suits o TxBegin reply = answers (refusal_in o) TxBegin reply
suits o (TxEnd keep) reply = answers (refusal_in o) (TxEnd keep) reply

-- a monitor that the thread is in is left
abbrev pub LeavesRightly : Config → Ask → Reply → Type 0
LeavesRightly c (Exit o) reply = 0 < slice_index c.levels o → is_go reply ≡ true
LeavesRightly c Go reply = Unit {0}
LeavesRightly c Begin reply = Unit {0}
LeavesRightly c End reply = Unit {0}
LeavesRightly c (Over ending) reply = Unit {0}
LeavesRightly c (Read x) reply = Unit {0}
LeavesRightly c (Write x a) reply = Unit {0}
LeavesRightly c (VRead v) reply = Unit {0}
LeavesRightly c (VWrite v a) reply = Unit {0}
LeavesRightly c (Enter o) reply = Unit {0}
LeavesRightly c (Fork f a) reply = Unit {0}
LeavesRightly c (Join u) reply = Unit {0}
LeavesRightly c (Alloc k) reply = Unit {0}
LeavesRightly c (Print a) reply = Unit {0}
LeavesRightly c Input reply = Unit {0}
LeavesRightly c TxBegin reply = Unit {0}
LeavesRightly c (TxEnd keep) reply = Unit {0}

-- a plain entry is a repeat exactly where the list gives the right to it; a thread that is answered makes no Trim, and does not end its
-- list
abbrev pub IsRightly : Entry → Own → Type 0
IsRightly (Plain x nth cached write value raised) own = cached ≡ allows (right_of own.mine x) write
IsRightly (Sync at act value) own = Unit {0}
IsRightly (Commit at tx) own = Unit {0}
IsRightly (Abort tx why) own = Unit {0}
IsRightly (Trim low) own = ⊥
IsRightly (ListOver ending) own = ⊥

abbrev pub RepeatsRightly : Exchange → Own → Type 0
RepeatsRightly (Made entry) own = IsRightly entry own
RepeatsRightly (Quiet reply) own = Unit {0}

-- the pass, and the attempt, after an answer
pub record IsAnswered (P : Bytecode) (c : Config) (ask : Ask) (reply : Reply) (own new : Own) (txn after : Option Attempting) : Type 0 where
  pub exchange : Exchange
  pub gives : reply_of (progress_of c txn) ask exchange ≡ Some reply
  pub kept : without_trims (entries_of (exchange ∷ [])) ≡ entries_of (exchange ∷ [])
  pub fitting : suits c.attempt ask reply ≡ true
  pub leaves : LeavesRightly c ask reply
  pub starts : StartsRight P reply
  pub mine : new.mine ≡ own.mine ++ entries_of (exchange ∷ [])
  pub rest : new ≡ record own { mine = new.mine; drawn = new.drawn; owed = new.owed }
  pub repeats : RepeatsRightly exchange own
  pub looks : looks_of after ≡ looks_after (progress_of c txn) ask reply
  pub writes : writes_of after ≡ writes_after (progress_of c txn) ask reply
  pub running : is_some after ≡ runs_after ask (is_some txn)
  pub life : life_of new.mine ≡ life_told ask (life_of own.mine)
  pub levels : levels_of new.mine ≡ levels_told ask reply (levels_of own.mine)
  pub drawn : DrawsFor after new
