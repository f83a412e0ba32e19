-- How a machine is driven along a list: what each ask is answered, and how far the list is made.
use Rattle.std.specs.Prelude.{◌≡◌, ℕ, ℤ, pos, ◌||◌, nat_lt, Bool, true, false, List, [], ◌∷◌, ◌++◌, Option, Some, None, unwrap_or}
use Rattle.gl_model.specs.Entries.{Entry, Sync}
use Rattle.gl_model.specs.declared.event.Act.TheVariants.{Begin as Began}
use Rattle.gl_model.specs.declared.record.Ending.{Ending}
use Rattle.gl_model.specs.declared.limits.TheConstants.{TX_VARIABLES}
use Rattle.gl_model.specs.Form.{IsTrim}
use Rattle.gl_bytecode.specs.declared.ask.Ask.{Ask}
use Rattle.gl_bytecode.specs.declared.ask.Ask.TheVariants.{Go, Begin, End, Over, Read, Write, VRead, VWrite, Enter, Exit, Fork, Join, Alloc, Print, Input, TxBegin, TxEnd}
use Rattle.gl_bytecode.specs.declared.ask.Reply.{Reply}
use Rattle.gl_bytecode.specs.declared.ask.Reply.TheVariants.{Go as Gone, Value, Start, Raise}
use Rattle.gl_bytecode.specs.declared.ask.Stage.TheVariants.{Over as IsOver}
use Rattle.gl_bytecode.specs.declared.limits.TheConstants.{TX_TOO_LARGE}
use Rattle.gl_bytecode.specs.Fits.{Fits, StartsRight}
use Rattle.gl_bytecode.specs.Forced.{word_ahead}
use Rattle.gl_bytecode.specs.Machine.{Attempt, ask_of}
use Rattle.gl_bytecode.specs.Programs.{Bytecode}
use Rattle.gl_bytecode.specs.Runs.{Along, Exchange, Made, Progress, entries_of, known_word, knows, told, told_one, touched, without_trims, word_of}
use Rattle.gl_vm.specs.Orderly.{IsOrderly}

-- ## Replies that leave no entry

abbrev pub quiet_outside : Ask → Option Reply
quiet_outside Go = Some Gone
quiet_outside TxBegin = Some Gone
quiet_outside Begin = None
quiet_outside End = None
quiet_outside (Over ending) = None
quiet_outside (Read x) = None
quiet_outside (Write x a) = None
quiet_outside (VRead v) = None
quiet_outside (VWrite v a) = None
quiet_outside (Enter o) = None
quiet_outside (Exit o) = None
quiet_outside (Fork f a) = None
quiet_outside (Join u) = None
quiet_outside (Alloc c) = None
quiet_outside (Print a) = None
quiet_outside Input = None
quiet_outside (TxEnd keep) = None

-- a read inside an attempt is answered by the word that is known; else, where there is room, by the one that the end of the attempt
-- looked at, and by 0 where no end comes: the list goes on no further then, whatever the word is
abbrev pub quiet_read : Option ℤ → Bool → Option ℤ → Reply
quiet_read (Some a) room ahead = Value a
quiet_read None true ahead = Value (unwrap_or ahead (pos 0))
quiet_read None false ahead = Raise TX_TOO_LARGE

abbrev pub quiet_write : Bool → Reply
quiet_write true = Gone
quiet_write false = Raise TX_TOO_LARGE

abbrev pub quiet_inside : Progress → List Entry → Ask → Option Reply
quiet_inside p list Go = Some Gone
quiet_inside p list (Read x) =
    Some (quiet_read (known_word (word_of p.writes x) (word_of p.looks x)) (nat_lt (touched p) TX_VARIABLES) (word_ahead list x))
quiet_inside p list (Write x a) = Some (quiet_write (knows p x || nat_lt (touched p) TX_VARIABLES))
quiet_inside p list TxBegin = None
quiet_inside p list Begin = None
quiet_inside p list End = None
quiet_inside p list (Over ending) = None
quiet_inside p list (VRead v) = None
quiet_inside p list (VWrite v a) = None
quiet_inside p list (Enter o) = None
quiet_inside p list (Exit o) = None
quiet_inside p list (Fork f a) = None
quiet_inside p list (Join u) = None
quiet_inside p list (Alloc c) = None
quiet_inside p list (Print a) = None
quiet_inside p list Input = None
quiet_inside p list (TxEnd keep) = None

abbrev pub quiet_at : Option Attempt → Progress → List Entry → Ask → Option Reply
quiet_at None p list ask = quiet_outside ask
quiet_at (Some a) p list ask = quiet_inside p list ask

-- the reply that leaves no entry, where the ask takes one; the list is what is still ahead
abbrev pub quiet_for : Progress → List Entry → Ask → Option Reply
quiet_for p list ask = quiet_at p.config.attempt p list ask

-- ## How far the list is made

-- the entry is no beginning in a function that is not there
abbrev pub BeginsRight : Bytecode → Entry → Type 0
BeginsRight P e = (at f : ℕ) (value : ℤ) → e ≡ Sync at (Began f) value → StartsRight P (Start f value)

abbrev pub EachBeginsRight : Bytecode → List Entry → Type 0
EachBeginsRight P [] = Unit {0}
EachBeginsRight P (e ∷ es) = BeginsRight P e × EachBeginsRight P es

-- from p the machine comes to q by these entries
pub record Reaches (P : Bytecode) (p : Progress) (es : List Entry) (q : Progress) : Type 0 where
  pub exchanges : List Exchange
  pub entries : entries_of exchanges ≡ es
  pub reached : told P p exchanges ≡ Some q

-- thread t has come to p by the first part of its list, and every way to a longer part leads on from p
pub record Follows (P : Bytecode) (steps t : ℕ) (front rest : List Entry) (p : Progress) : Type 0 where
  pub along : Along P steps t front p
  pub fits : Fits P p.config
  pub orderly : IsOrderly P p.config
  pub right : EachBeginsRight P rest
  pub onward :
      (more back : List Entry) (r : Progress) → rest ≡ more ++ back → Along P steps t (front ++ more) r →
      (q : Progress) × Reaches P p (without_trims more) q
  pub over :
      (more back : List Entry) (r : Progress) (ending : Ending) → rest ≡ more ++ back → Along P steps t (front ++ more) r →
      r.config.stage ≡ IsOver ending → Reaches P p (without_trims more) r

-- nothing leads on from p
pub record Stops (P : Bytecode) (p : Progress) (rest : List Entry) : Type 0 where
  pub quiet : quiet_for p rest (ask_of p.config.stage) ≡ None
  pub entry : (e : Entry) (es : List Entry) → rest ≡ e ∷ es → (IsTrim e → ⊥) × (told_one P (Made e) p ≡ None)
