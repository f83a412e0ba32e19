-- The reply that leaves no entry: it is one, it is the only one, and the machine takes it.
use Rattle.std.proofs.Common.{◌≡◌, ℕ, ℤ, pos, ◌≤◌, Bool, true, false, ◌==◌, ◌&&◌, ◌||◌, not, nat_lt, List, Option, Some, None, refl, sym, ◌∙◌, ap, subst, is_some, eq-eqb, rules, arith, unwrap_or}
use Rattle.std.specs.Ordering.{int_eq}
use Rattle.std.proofs.lemmas.Bool.{eqb-true}
use Rattle.std.proofs.lemmas.Bool.Decides.{nat_tests}
use Rattle.gl_model.specs.Entries.{Entry}
use Rattle.gl_model.specs.declared.limits.TheConstants.{TX_VARIABLES}
use Rattle.gl_bytecode.specs.declared.ask.Ask.{Ask}
use Rattle.gl_bytecode.specs.declared.ask.Ask.TheVariants.{Go, Read, Write, TxBegin}
use Rattle.gl_bytecode.specs.declared.ask.Reply.{Reply}
use Rattle.gl_bytecode.specs.declared.ask.Reply.TheVariants.{Go as Gone, Value, Raise}
use Rattle.gl_bytecode.specs.declared.ask.Stage.{Stage}
use Rattle.gl_bytecode.specs.declared.ask.Stage.TheVariants.{New, Runs, Waits}
use Rattle.gl_bytecode.specs.declared.limits.TheConstants.{TX_TOO_LARGE}
use Rattle.gl_bytecode.specs.Forced.{word_ahead}
use Rattle.gl_bytecode.specs.Machine.{Attempt, answers, ask_of, refusal_in, takes, takes_at}
use Rattle.gl_bytecode.specs.Programs.{Bytecode}
use Rattle.gl_bytecode.specs.Runs.{Progress, is_quiet, is_quiet_within, is_word, known_word, knows, touched, word_of}
use Rattle.gl_bytecode.proofs.AttemptWords.{none_known, same_int as int_same}
use Rattle.gl_vm.specs.Orderly.{IsOrderly, StageIsOrderly, WaitsRightly}
use Rattle.gl_follow.specs.Following.{quiet_at, quiet_for, quiet_inside, quiet_outside, quiet_read, quiet_write}

-- ## It leaves no entry

-- an integer is equal to itself
same_int : (v : ℤ) → int_eq v v ≡ true
same_int v = search rules

-- where there is no room, there are just as many as there may be
full : (n : ℕ) → n ≤ TX_VARIABLES → nat_lt n TX_VARIABLES ≡ false → (n == TX_VARIABLES) ≡ true
full n few is = (let same : n ≡ TX_VARIABLES = grind (arith, nat_tests) in eq-eqb n TX_VARIABLES same)

module _ (p : Progress) where
  -- the reply that is told for a read inside an attempt leaves no entry
  read_is :
      (x : ℕ) (k : Option ℤ) (room : Bool) (ahead : Option ℤ) → known_word (word_of p.writes x) (word_of p.looks x) ≡ k →
      nat_lt (touched p) TX_VARIABLES ≡ room → touched p ≤ TX_VARIABLES → is_quiet_within p (Read x) (quiet_read k room ahead) ≡ true
  read_is x (Some a) room ahead known has few = rw known (same_int a)
  read_is x None true ahead known has few = rw (known, has) refl
  read_is x None false ahead known has few =
      let none : knows p x ≡ false = (none_known (word_of p.writes x) (word_of p.looks x) known).0 in
      rw (none, full (touched p) few has) refl

  -- the reply that is told for a write inside an attempt leaves no entry
  write_is :
      (x : ℕ) (v : ℤ) (k room : Bool) → knows p x ≡ k → nat_lt (touched p) TX_VARIABLES ≡ room → touched p ≤ TX_VARIABLES →
      is_quiet_within p (Write x v) (quiet_write (k || room)) ≡ true
  write_is x v true room known has few = rw known refl
  write_is x v false true known has few = rw (known, has) refl
  write_is x v false false known has few = rw (known, full (touched p) few has) refl

  -- the reply that is told for an ask inside an attempt leaves no entry
  inside_is : (list : List Entry) (ask : Ask) (r : Reply) → touched p ≤ TX_VARIABLES → quiet_inside p list ask ≡ Some r
      → is_quiet_within p ask r ≡ true
  inside_is list Go r few is = (let e : r ≡ Gone = cc in rw e refl)
  inside_is list (Read x) r few is =
      let e : quiet_read (known_word (word_of p.writes x) (word_of p.looks x)) (nat_lt (touched p) TX_VARIABLES) (word_ahead list x)
      ≡ r = cc in
      subst (λ s. is_quiet_within p (Read x) s ≡ true) e (read_is x _ _ (word_ahead list x) refl refl few)
  inside_is list (Write x v) r few is =
      let e : quiet_write (knows p x || nat_lt (touched p) TX_VARIABLES) ≡ r = cc in
      subst (λ s. is_quiet_within p (Write x v) s ≡ true) e (write_is x v (knows p x) (nat_lt (touched p) TX_VARIABLES) refl refl few)
  inside_is list ask r few is = cc

  -- the reply that is told for an ask outside attempts leaves no entry
  outside_is : (ask : Ask) (r : Reply) → quiet_outside ask ≡ Some r → is_quiet None p ask r ≡ true
  outside_is Go r is = (let e : r ≡ Gone = cc in rw e refl)
  outside_is TxBegin r is = (let e : r ≡ Gone = cc in rw e refl)
  outside_is ask r is = cc

  -- the reply that is told for an ask leaves no entry, with an attempt or without
  is_at : (o : Option Attempt) (list : List Entry) (ask : Ask) (r : Reply) → touched p ≤ TX_VARIABLES → quiet_at o p list ask ≡ Some r
      → is_quiet o p ask r ≡ true
  is_at None list ask r few is = outside_is ask r is
  is_at (Some a) list ask r few is = inside_is list ask r few is

  -- the reply that is told where a machine stands leaves no entry
  pub quiet_is : (list : List Entry) (ask : Ask) (r : Reply) → touched p ≤ TX_VARIABLES → quiet_for p list ask ≡ Some r
      → is_quiet p.config.attempt p ask r ≡ true
  quiet_is list ask r few is = is_at p.config.attempt list ask r few is

-- ## There is no other

-- a word that is among neither the writes nor the looks is not known
pub not_known : (w l : Option ℤ) → (is_some w || is_some l) ≡ false → known_word w l ≡ None
not_known (Some a) l is = cc
not_known None (Some b) is = cc
not_known None None is = refl

-- where an attempt has as many variables as it may, there is no room for another
no_room : (n : ℕ) → (n == TX_VARIABLES) ≡ true → nat_lt n TX_VARIABLES ≡ false
no_room n is = (let same : n ≡ TX_VARIABLES = eqb-true n TX_VARIABLES is in rw same refl)

-- where all three hold, the first is false and the other two are true
three : (k e d : Bool) → (not k && e && d) ≡ true → (k ≡ false) × (e ≡ true) × (d ≡ true)
three true e d is = cc
three false true true is = (refl, refl, refl)
three false true false is = cc
three false false d is = cc

module _ (p : Progress) (list : List Entry) where
  -- the word of a look at what is not known
  abbrev LooksAhead : Ask → Reply → Type 0
  LooksAhead ask r =
      (x : ℕ) (w : ℤ) → ask ≡ Read x → r ≡ Value w → known_word (word_of p.writes x) (word_of p.looks x) ≡ None → word_ahead list x ≡ Some w

  -- a value that a read may give without an entry is the one that is told, where it is the one ahead in the list
  value_told :
      (x : ℕ) (w : ℤ) (k : Option ℤ) (room : Bool) → known_word (word_of p.writes x) (word_of p.looks x) ≡ k → is_word k room w ≡ true →
      LooksAhead (Read x) (Value w) → quiet_read k room (word_ahead list x) ≡ Value w
  value_told x w (Some a) room known is look = (let e : a ≡ w = sym (int_same w a is) in ap Value e)
  value_told x w None true known is look = ap (λ o. Value (unwrap_or o (pos 0))) (look x w refl refl known)
  value_told x w None false known is look = cc

  -- a refusal that a read may give without an entry, for want of room, is the one that is told
  refused_told :
      (x c : ℕ) → (not (knows p x) && touched p == TX_VARIABLES && c == TX_TOO_LARGE) ≡ true →
      quiet_read (known_word (word_of p.writes x) (word_of p.looks x)) (nat_lt (touched p) TX_VARIABLES) (word_ahead list x) ≡ Raise c
  refused_told x c is =
      let all = three (knows p x) (touched p == TX_VARIABLES) (c == TX_TOO_LARGE) is in
      rw (not_known (word_of p.writes x) (word_of p.looks x) all.0, no_room (touched p) all.1)
      (ap Raise (sym (eqb-true c TX_TOO_LARGE all.2)))

  -- a refusal that a write may give without an entry, for want of room, is the one that is told
  unwritten_told :
      (x c : ℕ) → (not (knows p x) && touched p == TX_VARIABLES && c == TX_TOO_LARGE) ≡ true →
      quiet_write (knows p x || nat_lt (touched p) TX_VARIABLES) ≡ Raise c
  unwritten_told x c is =
      let all = three (knows p x) (touched p == TX_VARIABLES) (c == TX_TOO_LARGE) is in
      let both : (knows p x || nat_lt (touched p) TX_VARIABLES) ≡ false = rw (all.0, no_room (touched p) all.1) refl in
      ap quiet_write both ∙ ap Raise (sym (eqb-true c TX_TOO_LARGE all.2))

  -- a reply that leaves no entry inside an attempt is the one that is told, where a look is the one ahead in the list
  inside_told : (ask : Ask) (r : Reply) → LooksAhead ask r → is_quiet_within p ask r ≡ true → quiet_inside p list ask ≡ Some r
  inside_told Go Gone look is = refl
  inside_told (Read x) (Value w) look is = ap Some (value_told x w _ _ refl is look)
  inside_told (Read x) (Raise c) look is = ap Some (refused_told x c is)
  inside_told (Write x v) Gone look is = ap (λ b. Some (quiet_write b)) is
  inside_told (Write x v) (Raise c) look is = ap Some (unwritten_told x c is)
  inside_told ask r look is = cc

  -- a reply that leaves no entry outside attempts is the one that is told
  outside_told : (ask : Ask) (r : Reply) → is_quiet None p ask r ≡ true → quiet_outside ask ≡ Some r
  outside_told Go Gone is = refl
  outside_told TxBegin Gone is = refl
  outside_told ask r is = cc

  -- a reply that leaves no entry is the one that is told, with an attempt or without
  told_at : (o : Option Attempt) (ask : Ask) (r : Reply) → ((a : Attempt) → o ≡ Some a → LooksAhead ask r) → is_quiet o p ask r ≡ true
      → quiet_at o p list ask ≡ Some r
  told_at None ask r look is = outside_told ask r is
  told_at (Some a) ask r look is = inside_told ask r (look a refl) is

  -- a reply that leaves no entry where a machine stands is the one that is told
  pub quiet_told : (ask : Ask) (r : Reply) → ((a : Attempt) → p.config.attempt ≡ Some a → LooksAhead ask r)
      → is_quiet p.config.attempt p ask r ≡ true → quiet_for p list ask ≡ Some r
  quiet_told ask r look is = told_at p.config.attempt ask r look is

-- ## The machine takes it

-- the reply that leaves no entry answers a read
read_fits : (x : ℕ) (k : Option ℤ) (room : Bool) (ahead : Option ℤ) → answers TX_TOO_LARGE (Read x) (quiet_read k room ahead) ≡ true
read_fits x (Some a) room ahead = refl
read_fits x None true ahead = refl
read_fits x None false ahead = refl

-- the reply that leaves no entry answers a write
write_fits : (x : ℕ) (v : ℤ) (b : Bool) → answers TX_TOO_LARGE (Write x v) (quiet_write b) ≡ true
write_fits x v true = refl
write_fits x v false = refl

module _ (P : Bytecode) (p : Progress) (list : List Entry) where
  -- the reply that is told answers an ask that is rightly waited for
  ask_taken : (ask : Ask) (o : Option Attempt) (r : Reply) → WaitsRightly P p.config ask → quiet_at o p list ask ≡ Some r
      → answers (refusal_in o) ask r ≡ true
  ask_taken Go o r waits is = absurd waits.asks
  ask_taken TxBegin None r waits is = (let e : r ≡ Gone = cc in rw e refl)
  ask_taken (Read x) (Some a) r waits is =
      let e : quiet_read (known_word (word_of p.writes x) (word_of p.looks x)) (nat_lt (touched p) TX_VARIABLES) (word_ahead list x)
      ≡ r = cc in
      subst (λ s. answers TX_TOO_LARGE (Read x) s ≡ true) e (read_fits x _ _ (word_ahead list x))
  ask_taken (Write x v) (Some a) r waits is =
      let e : quiet_write (knows p x || nat_lt (touched p) TX_VARIABLES) ≡ r = cc in
      subst (λ s. answers TX_TOO_LARGE (Write x v) s ≡ true) e (write_fits x v _)
  ask_taken ask None r waits is = cc
  ask_taken ask (Some a) r waits is = cc

  -- the reply that is told is taken at an orderly stage
  stage_taken : (s : Stage) (o : Option Attempt) (r : Reply) → StageIsOrderly P p.config s → quiet_at o p list (ask_of s) ≡ Some r
      → takes_at s o r ≡ true
  stage_taken New None r orderly is = (let e : r ≡ Gone = cc in rw e refl)
  stage_taken New (Some a) r orderly is = (let e : r ≡ Gone = cc in rw e refl)
  stage_taken Runs None r orderly is = (let e : r ≡ Gone = cc in rw e refl)
  stage_taken Runs (Some a) r orderly is = (let e : r ≡ Gone = cc in rw e refl)
  stage_taken (Waits ask) o r orderly is = ask_taken ask o r orderly is
  stage_taken s None r orderly is = cc
  stage_taken s (Some a) r orderly is = cc

  -- an orderly machine takes the reply that is told
  pub quiet_taken : (r : Reply) → IsOrderly P p.config → quiet_for p list (ask_of p.config.stage) ≡ Some r → takes p.config r ≡ true
  quiet_taken r orderly is = stage_taken p.config.stage p.config.attempt r orderly.stage is
