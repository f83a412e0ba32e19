-- One exchange of a machine that is driven by a list.
use Rattle.std.specs.Prelude.{◌≡◌, ℕ, ℤ, ◌<◌, ◌≤◌, ◌⊎◌, ◌||◌, ◌+◌, true, false, nat_lt, is_some, List, [], ◌∷◌, ◌++◌, length, take, drop, Some, None}
use Rattle.gl_model.specs.Entries.{Entry, Over as Ended}
use Rattle.gl_model.specs.Form.{IsOver, IsTrim}
use Rattle.gl_model.specs.Records.{At}
use Rattle.gl_model.specs.declared.record.Ending.{Ending}
use Rattle.gl_model.specs.declared.limits.TheConstants.{TX_VARIABLES}
use Rattle.gl_bytecode.specs.declared.ask.Ask.{Ask}
use Rattle.gl_bytecode.specs.declared.ask.Ask.TheVariants.{Over as AskOver, Read, Write}
use Rattle.gl_bytecode.specs.declared.ask.Reply.{Reply}
use Rattle.gl_bytecode.specs.declared.ask.Reply.TheVariants.{Go as Gone, Value}
use Rattle.gl_bytecode.specs.Fits.{Fits}
use Rattle.gl_bytecode.specs.Machine.{ask_of}
use Rattle.gl_bytecode.specs.Programs.{Bytecode}
use Rattle.gl_bytecode.specs.Runs.{Made, Progress, Quiet, knows, told_one, touched}
use Rattle.gl_vm.specs.Asking.{AsksInRange}
use Rattle.gl_vm.specs.Orderly.{IsOrderly}
use Rattle.gl_follow.specs.Following.{Follows, Stops, quiet_for}

-- what holds of the thread between two exchanges
pub record CanGo (P : Bytecode) (p : Progress) : Type 0 where
  pub fits : Fits P p.config
  pub orderly : IsOrderly P p.config
  pub in_range : AsksInRange P (ask_of p.config.stage)

-- a word that is looked at or written has room in the attempt
pub record HasRoomFor (p : Progress) (ask : Ask) (reply : Reply) : Type 0 where
  pub look :
      (x : ℕ) (a : ℤ) → ask ≡ Read x → reply ≡ Value a → is_some p.config.attempt ≡ true → knows p x ≡ false → touched p < TX_VARIABLES
  pub write :
      (x : ℕ) (a : ℤ) → ask ≡ Write x a → reply ≡ Gone → is_some p.config.attempt ≡ true →
      (knows p x || nat_lt (touched p) TX_VARIABLES) ≡ true

-- it goes on by a reply that leaves no entry
pub record GoesQuietly (P : Bytecode) (p : Progress) (rest : List Entry) (q : Progress) : Type 0 where
  pub reply : Reply
  pub chosen : quiet_for p rest (ask_of p.config.stage) ≡ Some reply
  pub first : told_one P (Quiet reply) p ≡ Some q

-- no such reply comes
abbrev pub StaysSilent : Progress → List Entry → Progress → Type 0
StaysSilent p rest q = (quiet_for p rest (ask_of p.config.stage) ≡ None) × (q ≡ p)

-- it passes over a Trim, and goes on by any other entry
abbrev pub Passes : Bytecode → Progress → Entry → Progress → Type 0
Passes P p e q = (IsTrim e × (q ≡ p)) ⊎ ((IsTrim e → ⊥) × (told_one P (Made e) p ≡ Some q))

-- the entry is no answer
abbrev pub IsNoAnswer : Bytecode → Progress → Entry → Progress → Type 0
IsNoAnswer P p e q = (told_one P (Made e) p ≡ None) × (q ≡ p)

abbrev pub Refuses : Bytecode → Progress → Entry → Progress → Type 0
Refuses P p e q = (IsTrim e → ⊥) × IsNoAnswer P p e q

-- by the first entry of the list
pub record PassesFirst (P : Bytecode) (p : Progress) (rest : List Entry) (q : Progress) : Type 0 where
  pub entry : Entry
  pub later : List Entry
  pub same : rest ≡ entry ∷ later
  pub none : quiet_for p rest (ask_of p.config.stage) ≡ None
  pub passes : Passes P p entry q

-- it goes on by so many entries of the list
abbrev pub Turns : Bytecode → Progress → List Entry → Progress → ℕ → Type 0
Turns P p rest q n = ((n ≡ 0) × GoesQuietly P p rest q) ⊎ ((n ≡ 1) × PassesFirst P p rest q)

-- thread t has come to p by the first n entries of its list
pub record IsAt (P : Bytecode) (steps t : ℕ) (es : List Entry) (p : Progress) (n : ℕ) : Type 0 where
  pub within : n ≤ length es
  pub follows : Follows P steps t (take n es) (drop n es) p
  pub can : CanGo P p

-- and goes no further
pub record EndsAt (P : Bytecode) (steps t : ℕ) (es : List Entry) (p : Progress) (n : ℕ) : Type 0 where
  pub at : IsAt P steps t es p n
  pub few : touched p ≤ TX_VARIABLES
  pub stops : Stops P p (drop n es)

-- the list is at its end, and its machine ended so
pub record IsWhole (p : Progress) (rest : List Entry) : Type 0 where
  pub ending : Ending
  pub later : List Entry
  pub same : rest ≡ Ended ending ∷ later
  pub over : ask_of p.config.stage ≡ AskOver ending

-- the list ends with its only Over
pub record EndsWithOver (es : List Entry) : Type 0 where
  pub base : List Entry
  pub ending : Ending
  pub whole : es ≡ base ++ Ended ending ∷ []
  pub alone : (i : ℕ) (e : Entry) → At es i e → IsOver e → length es ≡ i + 1
