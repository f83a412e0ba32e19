-- The entries of a list force its exchanges.
use Rattle.std.proofs.Common.{◌≡◌, ℕ, ℤ, Bool, true, false, ◌==◌, ◌&&◌, ◌||◌, not, nat_lt, ◌<◌, if◌then◌else◌, List, [], ◌∷◌, Option, Some, None, refl, sym, ◌∙◌, ap, is_some, is_none, rules, arith}
use Rattle.std.specs.Option.{option_and_then}
use Rattle.std.proofs.lemmas.Bool.{eqb-true}
use Rattle.gl_model.specs.Entries.{Sync, Commit as Committed, Plain, Abort, Trim, Over as Ended}
use Rattle.gl_model.specs.declared.event.Act.{Act}
use Rattle.gl_model.specs.declared.limits.TheConstants.{TX_VARIABLES}
use Rattle.gl_model.specs.declared.tx.Tx.{Tx}
use Rattle.gl_model.specs.declared.tx.Why.{Why}
use Rattle.gl_model.specs.declared.tx.Why.TheVariants.{Changed, Raised}
use Rattle.gl_bytecode.specs.declared.ask.Ask.{Ask}
use Rattle.gl_bytecode.specs.declared.ask.Ask.TheVariants.{Go, Begin, End, Over, Read, Write, VRead, VWrite, Enter, Exit, Fork, Join, Alloc, Print, Input, TxBegin, TxEnd}
use Rattle.gl_bytecode.specs.declared.ask.Reply.{Reply}
use Rattle.gl_bytecode.specs.declared.ask.Reply.TheVariants.{Go as Gone, Value, Start, Raise, Retry}
use Rattle.gl_bytecode.specs.declared.limits.TheConstants.{TX_TOO_LARGE}
use Rattle.gl_bytecode.specs.Machine.{Attempt, next, takes, ask_of}
use Rattle.gl_bytecode.specs.Programs.{Bytecode}
use Rattle.gl_bytecode.specs.Runs.{Exchange, Made, Quiet, Progress, entries_of, is_its_end, is_quiet, is_quiet_within, is_word, known_word, knows, looks_after, writes_after, reply_of, reply_of_abort, reply_of_act, reply_of_commit, reply_of_plain, told, told_one, touched, when, with_word, word_of}
use Rattle.gl_bytecode.proofs.Answers.{one_way}
use Rattle.gl_bytecode.specs.Forced.{EndsMade, looks_of, word_ahead}
use Rattle.gl_bytecode.proofs.RunningAttempts.{IsNoEnd, next_lives}
use Rattle.gl_bytecode.proofs.AttemptWords.{word_put, word_kept, one_int, words_same, none_known, some_known, not_known}

-- ## One exchange

pub record Told (P : Bytecode) (x : Exchange) (p q : Progress) : Type 0 where
  pub reply : Reply
  pub gives : reply_of p (ask_of p.config.stage) x ≡ Some reply
  pub fits : takes p.config reply ≡ true
  pub config : q.config ≡ next P p.config reply
  pub looks : q.looks ≡ looks_after p (ask_of p.config.stage) reply
  pub writes : q.writes ≡ writes_after p (ask_of p.config.stage) reply

-- an exchange that leads from one progress to another is told so
pub told_of : (P : Bytecode) (x : Exchange) (p q : Progress) → told_one P x p ≡ Some q → Told P x p q
told_of P x p q is = by_reply (reply_of p (ask_of p.config.stage) x) refl where
  made : Reply → Progress
  made r = record {
    config = next P p.config r;
    looks = looks_after p (ask_of p.config.stage) r;
    writes = writes_after p (ask_of p.config.stage) r;
  }

  by_test : (r : Reply) (t : Bool) → reply_of p (ask_of p.config.stage) x ≡ Some r → takes p.config r ≡ t → Told P x p q
  by_test r true gives fits =
      let e : told_one P x p ≡ Some (made r) = rw (gives, fits) refl in
      let same : q ≡ made r = cc in
      record {
        reply = r;
        gives = gives;
        fits = fits;
        config = ap (λ (m : Progress). m.config) same;
        looks = ap (λ (m : Progress). m.looks) same;
        writes = ap (λ (m : Progress). m.writes) same;
      }
  by_test r false gives fits = (let e : told_one P x p ≡ None = rw (gives, fits) refl in cc)

  by_reply : (o : Option Reply) → reply_of p (ask_of p.config.stage) x ≡ o → Told P x p q
  by_reply None none = (let e : told_one P x p ≡ None = rw none refl in cc)
  by_reply (Some r) gives = by_test r (takes p.config r) gives refl

pub record Parts (P : Bytecode) (x : Exchange) (xs : List Exchange) (p q : Progress) : Type 0 where
  pub mid : Progress
  pub first : told_one P x p ≡ Some mid
  pub rest : told P mid xs ≡ Some q

-- exchanges that lead on are the first one, a progress between, and the others from there
pub told_cons : (P : Bytecode) (x : Exchange) (xs : List Exchange) (p q : Progress) → told P p (x ∷ xs) ≡ Some q → Parts P x xs p q
unfolding told
told_cons P x xs p q is = by_first (told_one P x p) refl is where
  by_first : (o : Option Progress) → told_one P x p ≡ o → option_and_then (λ m. told P m xs) o ≡ Some q → Parts P x xs p q
  by_first None first rest = cc
  by_first (Some m) first rest = record { mid = m; first = first; rest = rest }

-- no exchanges lead nowhere else
pub told_none : (P : Bytecode) (p q : Progress) → told P p [] ≡ Some q → p ≡ q
unfolding told
told_none P p q is = cc

-- a reply that stands only where a test holds is that reply, and the test holds
pub when_true : (t : Bool) (r s : Reply) → when t r ≡ Some s → (t ≡ true) × (r ≡ s)
when_true true r s is = (refl, cc)
when_true false r s is = cc

-- ## The words of an attempt are those of its end

-- where two hold, the first does
first_of : (a b : Bool) → (a && b) ≡ true → a ≡ true
first_of true b is = refl
first_of false b is = cc

-- a transaction that fits the end of an attempt has the attempt's looks
its_looks : (p : Progress) (keep : Bool) (tx : Tx) → is_its_end p keep tx ≡ true → looks_of tx ≡ p.looks
its_looks p keep tx is = words_same (looks_of tx) p.looks (first_of _ _ is)

-- a commit that is a reply has the attempt's looks
commit_looks : (p : Progress) (ask : Ask) (tx : Tx) (r : Reply) → reply_of_commit p ask tx ≡ Some r → looks_of tx ≡ p.looks
commit_looks p (TxEnd keep) tx r is = its_looks p keep tx (when_true _ _ r is).0
commit_looks p Go tx r is = cc
commit_looks p Begin tx r is = cc
commit_looks p End tx r is = cc
commit_looks p (Over e) tx r is = cc
commit_looks p (Read x) tx r is = cc
commit_looks p (Write x a) tx r is = cc
commit_looks p (VRead v) tx r is = cc
commit_looks p (VWrite v a) tx r is = cc
commit_looks p (Enter o) tx r is = cc
commit_looks p (Exit o) tx r is = cc
commit_looks p (Fork f a) tx r is = cc
commit_looks p (Join u) tx r is = cc
commit_looks p (Alloc k) tx r is = cc
commit_looks p (Print a) tx r is = cc
commit_looks p Input tx r is = cc
commit_looks p TxBegin tx r is = cc

-- an abort that is a reply has the attempt's looks
abort_looks : (p : Progress) (ask : Ask) (tx : Tx) (why : Why) (r : Reply) → reply_of_abort p ask tx why ≡ Some r → looks_of tx ≡ p.looks
abort_looks p (TxEnd keep) tx (Changed var read found) r is = its_looks p keep tx (when_true _ _ r is).0
abort_looks p (TxEnd keep) tx (Raised var) r is = its_looks p keep tx (when_true _ _ r is).0
abort_looks p Go tx why r is = cc
abort_looks p Begin tx why r is = cc
abort_looks p End tx why r is = cc
abort_looks p (Over e) tx why r is = cc
abort_looks p (Read x) tx why r is = cc
abort_looks p (Write x a) tx why r is = cc
abort_looks p (VRead v) tx why r is = cc
abort_looks p (VWrite v a) tx why r is = cc
abort_looks p (Enter o) tx why r is = cc
abort_looks p (Exit o) tx why r is = cc
abort_looks p (Fork f a) tx why r is = cc
abort_looks p (Join u) tx why r is = cc
abort_looks p (Alloc k) tx why r is = cc
abort_looks p (Print a) tx why r is = cc
abort_looks p Input tx why r is = cc
abort_looks p TxBegin tx why r is = cc

-- no event ends an attempt
no_end_by_act : (ask : Ask) (act : Act) (value : ℤ) (r : Reply) → reply_of_act ask act value ≡ Some r → IsNoEnd ask
no_end_by_act (TxEnd keep) act value r is = cc
no_end_by_act Go act value r is = tt
no_end_by_act Begin act value r is = tt
no_end_by_act End act value r is = tt
no_end_by_act (Over e) act value r is = tt
no_end_by_act (Read x) act value r is = tt
no_end_by_act (Write x a) act value r is = tt
no_end_by_act (VRead v) act value r is = tt
no_end_by_act (VWrite v a) act value r is = tt
no_end_by_act (Enter o) act value r is = tt
no_end_by_act (Exit o) act value r is = tt
no_end_by_act (Fork f a) act value r is = tt
no_end_by_act (Join u) act value r is = tt
no_end_by_act (Alloc k) act value r is = tt
no_end_by_act (Print a) act value r is = tt
no_end_by_act Input act value r is = tt
no_end_by_act TxBegin act value r is = tt

-- nor does a reply that leaves no entry
no_end_quietly : (o : Option Attempt) (p : Progress) (ask : Ask) (r : Reply) → is_quiet o p ask r ≡ true → IsNoEnd ask
no_end_quietly None p (TxEnd keep) r is = cc
no_end_quietly (Some a) p (TxEnd keep) r is = cc
no_end_quietly o p Go r is = tt
no_end_quietly o p Begin r is = tt
no_end_quietly o p End r is = tt
no_end_quietly o p (Over e) r is = tt
no_end_quietly o p (Read x) r is = tt
no_end_quietly o p (Write x a) r is = tt
no_end_quietly o p (VRead v) r is = tt
no_end_quietly o p (VWrite v a) r is = tt
no_end_quietly o p (Enter o') r is = tt
no_end_quietly o p (Exit o') r is = tt
no_end_quietly o p (Fork f a) r is = tt
no_end_quietly o p (Join u) r is = tt
no_end_quietly o p (Alloc k) r is = tt
no_end_quietly o p (Print a) r is = tt
no_end_quietly o p Input r is = tt
no_end_quietly o p TxBegin r is = tt

-- a look stays while its attempt runs
looks_stay : (p : Progress) (ask : Ask) (r : Reply) (y : ℕ) (w : ℤ) → IsNoEnd ask → word_of p.looks y ≡ Some w
    → word_of (looks_after p ask r) y ≡ Some w
looks_stay p (TxEnd keep) r y w no_end is = absurd no_end
looks_stay p (Read x) (Value a) y w no_end is = by_test (is_none p.config.attempt) (knows p x) refl refl where
  by_test : (s t : Bool) → is_none p.config.attempt ≡ s → knows p x ≡ t → word_of (looks_after p (Read x) (Value a)) y ≡ Some w
  by_test true t e f = rw e is
  by_test false true e f = rw (e, f) is
  by_test false false e f = rw (e, f) (word_kept x y a w p.looks (not_known (word_of p.writes x) (word_of p.looks x) f) is)
looks_stay p (Read x) Gone y w no_end is = is
looks_stay p (Read x) (Raise code) y w no_end is = is
looks_stay p (Read x) Retry y w no_end is = is
looks_stay p (Read x) (Start f a) y w no_end is = is
looks_stay p Go r y w no_end is = is
looks_stay p Begin r y w no_end is = is
looks_stay p End r y w no_end is = is
looks_stay p (Over e) r y w no_end is = is
looks_stay p (Write x a) r y w no_end is = is
looks_stay p (VRead v) r y w no_end is = is
looks_stay p (VWrite v a) r y w no_end is = is
looks_stay p (Enter o) r y w no_end is = is
looks_stay p (Exit o) r y w no_end is = is
looks_stay p (Fork f a) r y w no_end is = is
looks_stay p (Join u) r y w no_end is = is
looks_stay p (Alloc k) r y w no_end is = is
looks_stay p (Print a) r y w no_end is = is
looks_stay p Input r y w no_end is = is
looks_stay p TxBegin r y w no_end is = is

module _ (P : Bytecode) where
  -- an attempt that runs still runs after an exchange that does not end it
  still_runs : (x : Exchange) (p m : Progress) → Told P x p m → IsNoEnd (ask_of p.config.stage) → is_some p.config.attempt ≡ true
      → is_some m.config.attempt ≡ true
  still_runs x p m t no_end lives = rw t.config (next_lives P p.config t.reply no_end t.fits lives)

  -- a look that is there stays with its value through an exchange that does not end the attempt
  still_known : (x : Exchange) (p m : Progress) (y : ℕ) (w : ℤ) → Told P x p m → IsNoEnd (ask_of p.config.stage) → word_of p.looks y
      ≡ Some w → word_of m.looks y ≡ Some w
  still_known x p m y w t no_end is = rw t.looks (looks_stay p (ask_of p.config.stage) t.reply y w no_end is)

  -- inside an attempt nothing comes of what only goes on outside one
  plain_not : (p : Progress) (ask : Ask) (o : Option Reply) → is_some p.config.attempt ≡ true
      → (if is_none p.config.attempt then o else None) ≡ None
  plain_not p ask o lives = by_attempt p.config.attempt refl where
    -- nothing comes of it, since there is an attempt
    by_attempt : (a : Option Attempt) → p.config.attempt ≡ a → (if is_none a then o else None) ≡ None
    by_attempt None none = (let e : is_some p.config.attempt ≡ false = rw none refl in cc)
    by_attempt (Some a) some = refl

  -- a look of a running attempt is the word that is ahead in the entries, where they end outside attempts
  ahead :
      (xs : List Exchange) (p q : Progress) (y : ℕ) (w : ℤ) → told P p xs ≡ Some q → q.config.attempt ≡ None →
      is_some p.config.attempt ≡ true → word_of p.looks y ≡ Some w → word_ahead (entries_of xs) y ≡ Some w
  ahead [] p q y w is over lives look =
      let same = told_none P p q is in
      let e : is_some p.config.attempt ≡ false = rw (same, over) refl in
      cc
  ahead (Made (Sync at act value) ∷ xs) p q y w is over lives look =
      let parts = told_cons P (Made (Sync at act value)) xs p q is in
      let t = told_of P (Made (Sync at act value)) p parts.mid parts.first in
      let no_end = no_end_by_act (ask_of p.config.stage) act value t.reply t.gives in
      ahead xs parts.mid q y w parts.rest over (still_runs _ p parts.mid t no_end lives) (still_known _ p parts.mid y w t no_end look)
  ahead (Made (Committed at tx) ∷ xs) p q y w is over lives look =
      let parts = told_cons P (Made (Committed at tx)) xs p q is in
      let t = told_of P (Made (Committed at tx)) p parts.mid parts.first in
      ap (λ ws. word_of ws y) (commit_looks p (ask_of p.config.stage) tx t.reply t.gives) ∙ look
  ahead (Made (Plain var nth cached write value raised) ∷ xs) p q y w is over lives look =
      let parts = told_cons P (Made (Plain var nth cached write value raised)) xs p q is in
      let t = told_of P (Made (Plain var nth cached write value raised)) p parts.mid parts.first in
      let none = plain_not p (ask_of p.config.stage) (reply_of_plain (ask_of p.config.stage) var write value raised) lives in
      let gives = t.gives in
      cc
  ahead (Made (Abort tx why) ∷ xs) p q y w is over lives look =
      let parts = told_cons P (Made (Abort tx why)) xs p q is in
      let t = told_of P (Made (Abort tx why)) p parts.mid parts.first in
      ap (λ ws. word_of ws y) (abort_looks p (ask_of p.config.stage) tx why t.reply t.gives) ∙ look
  ahead (Made (Trim low) ∷ xs) p q y w is over lives look =
      let parts = told_cons P (Made (Trim low)) xs p q is in
      let t = told_of P (Made (Trim low)) p parts.mid parts.first in
      let gives = t.gives in
      cc
  ahead (Made (Ended ending) ∷ xs) p q y w is over lives look =
      let parts = told_cons P (Made (Ended ending)) xs p q is in
      let t = told_of P (Made (Ended ending)) p parts.mid parts.first in
      let gives = t.gives in
      cc
  ahead (Quiet r ∷ xs) p q y w is over lives look =
      let parts = told_cons P (Quiet r) xs p q is in
      let t = told_of P (Quiet r) p parts.mid parts.first in
      let quiet = (when_true _ r t.reply t.gives).0 in
      let no_end = no_end_quietly p.config.attempt p (ask_of p.config.stage) r quiet in
      ahead xs parts.mid q y w parts.rest over (still_runs _ p parts.mid t no_end lives) (still_known _ p parts.mid y w t no_end look)

-- ## Two quiet replies to one ask

-- where three hold, each of them does
three : (a b c : Bool) → (a && b && c) ≡ true → (a ≡ true) × (b ≡ true) × (c ≡ true)
three true true true is = (refl, refl, refl)
three true true false is = cc
three true false c is = cc
three false b c is = cc

-- a variable that is known or for which there is room is no new one for which there is none
clash : (k e : Bool) (n : ℕ) → (k || nat_lt n TX_VARIABLES) ≡ true → (not k && n == TX_VARIABLES && e) ≡ true → ⊥
clash true e n room refused = (let all = (three false (n == TX_VARIABLES) e refused).0 in cc)
clash false e n room refused =
    let full : n ≡ TX_VARIABLES = eqb-true n TX_VARIABLES (three true (n == TX_VARIABLES) e refused).1 in
    let less : n < TX_VARIABLES = search (rules, room) in
    omega arith

-- two codes that are equal to the same third are equal
same_codes : (a b c d : Bool) (m n k : ℕ) → (a && b && m == k) ≡ true → (c && d && n == k) ≡ true → m ≡ n
same_codes a b c d m n k first second =
    eqb-true m k (three a b (m == k) first).2 ∙ sym (eqb-true n k (three c d (n == k) second).2)

-- going on takes no other reply without an entry than the plain one
go_only : (p : Progress) (r : Reply) → is_quiet_within p Go r ≡ true → r ≡ Gone
go_only p Gone is = refl
go_only p (Value a) is = cc
go_only p (Raise code) is = cc
go_only p (Start f a) is = cc
go_only p Retry is = cc

-- outside an attempt the only reply without an entry is the plain one
pub outside_only : (p : Progress) (ask : Ask) (r : Reply) → is_quiet None p ask r ≡ true → r ≡ Gone
outside_only p ask Gone is = refl
outside_only p Go (Value z) is = cc
outside_only p TxBegin (Value z) is = cc
outside_only p (Read x) (Value z) is = cc
outside_only p (Write x a) (Value z) is = cc
outside_only p Begin (Value z) is = cc
outside_only p End (Value z) is = cc
outside_only p (Over e) (Value z) is = cc
outside_only p (VRead v) (Value z) is = cc
outside_only p (VWrite v a) (Value z) is = cc
outside_only p (Enter o) (Value z) is = cc
outside_only p (Exit o) (Value z) is = cc
outside_only p (Fork f a) (Value z) is = cc
outside_only p (Join u) (Value z) is = cc
outside_only p (Alloc k) (Value z) is = cc
outside_only p (Print a) (Value z) is = cc
outside_only p Input (Value z) is = cc
outside_only p (TxEnd keep) (Value z) is = cc
outside_only p Go (Raise z) is = cc
outside_only p TxBegin (Raise z) is = cc
outside_only p (Read x) (Raise z) is = cc
outside_only p (Write x a) (Raise z) is = cc
outside_only p Begin (Raise z) is = cc
outside_only p End (Raise z) is = cc
outside_only p (Over e) (Raise z) is = cc
outside_only p (VRead v) (Raise z) is = cc
outside_only p (VWrite v a) (Raise z) is = cc
outside_only p (Enter o) (Raise z) is = cc
outside_only p (Exit o) (Raise z) is = cc
outside_only p (Fork f a) (Raise z) is = cc
outside_only p (Join u) (Raise z) is = cc
outside_only p (Alloc k) (Raise z) is = cc
outside_only p (Print a) (Raise z) is = cc
outside_only p Input (Raise z) is = cc
outside_only p (TxEnd keep) (Raise z) is = cc
outside_only p Go (Start g z) is = cc
outside_only p TxBegin (Start g z) is = cc
outside_only p (Read x) (Start g z) is = cc
outside_only p (Write x a) (Start g z) is = cc
outside_only p Begin (Start g z) is = cc
outside_only p End (Start g z) is = cc
outside_only p (Over e) (Start g z) is = cc
outside_only p (VRead v) (Start g z) is = cc
outside_only p (VWrite v a) (Start g z) is = cc
outside_only p (Enter o) (Start g z) is = cc
outside_only p (Exit o) (Start g z) is = cc
outside_only p (Fork f a) (Start g z) is = cc
outside_only p (Join u) (Start g z) is = cc
outside_only p (Alloc k) (Start g z) is = cc
outside_only p (Print a) (Start g z) is = cc
outside_only p Input (Start g z) is = cc
outside_only p (TxEnd keep) (Start g z) is = cc
outside_only p Go Retry is = cc
outside_only p TxBegin Retry is = cc
outside_only p (Read x) Retry is = cc
outside_only p (Write x a) Retry is = cc
outside_only p Begin Retry is = cc
outside_only p End Retry is = cc
outside_only p (Over e) Retry is = cc
outside_only p (VRead v) Retry is = cc
outside_only p (VWrite v a) Retry is = cc
outside_only p (Enter o) Retry is = cc
outside_only p (Exit o) Retry is = cc
outside_only p (Fork f a) Retry is = cc
outside_only p (Join u) Retry is = cc
outside_only p (Alloc k) Retry is = cc
outside_only p (Print a) Retry is = cc
outside_only p Input Retry is = cc
outside_only p (TxEnd keep) Retry is = cc

-- both a word, of which nothing else is known
abbrev LooksSame : Progress → Ask → Reply → Reply → Type 0
LooksSame p ask r s =
    (x : ℕ) (a b : ℤ) → ask ≡ Read x → r ≡ Value a → s ≡ Value b → known_word (word_of p.writes x) (word_of p.looks x) ≡ None → a ≡ b

-- one of two holds where the first does
or_left : (a b : Bool) → a ≡ true → (a || b) ≡ true
or_left true b is = refl
or_left false b is = cc

-- one of two holds where the second does
or_right : (a b : Bool) → b ≡ true → (a || b) ≡ true
or_right true b is = refl
or_right false true is = refl
or_right false false is = cc

-- a word that is known or has room is not refused for want of room
refused_word :
    (w l : Option ℤ) (a : ℤ) (n : ℕ) (e : Bool) → is_word (known_word w l) (nat_lt n TX_VARIABLES) a ≡ true →
    (not (is_some w || is_some l) && n == TX_VARIABLES && e) ≡ true → ⊥
refused_word w l a n e is refused = by_known (known_word w l) refl is where
  by_known : (o : Option ℤ) → known_word w l ≡ o → is_word o (nat_lt n TX_VARIABLES) a ≡ true → ⊥
  by_known (Some k) known word =
      let some = some_known w l k known in
      clash (is_some w || is_some l) e n (or_left (is_some w || is_some l) (nat_lt n TX_VARIABLES) some) refused
  by_known None known word = clash (is_some w || is_some l) e n (or_right (is_some w || is_some l) (nat_lt n TX_VARIABLES) word) refused

-- a read has one reply without an entry, where equal looks are forced
reads_same : (p : Progress) (x : ℕ) (r s : Reply) → LooksSame p (Read x) r s → is_quiet_within p (Read x) r ≡ true
    → is_quiet_within p (Read x) s ≡ true → r ≡ s
reads_same p x (Value a) (Value b) look first second =
    by_known (known_word (word_of p.writes x) (word_of p.looks x)) refl first second where
      by_known :
          (o : Option ℤ) → known_word (word_of p.writes x) (word_of p.looks x) ≡ o → is_word o (nat_lt (touched p) TX_VARIABLES) a ≡ true →
          is_word o (nat_lt (touched p) TX_VARIABLES) b ≡ true → Value a ≡ Value b
      by_known (Some k) known one other = ap Value (one_int a b k one other)
      by_known None known one other = ap Value (look x a b refl refl refl known)
reads_same p x (Value a) (Raise d) look first second =
    absurd (refused_word (word_of p.writes x) (word_of p.looks x) a (touched p) (d == TX_TOO_LARGE) first second)
reads_same p x (Raise c) (Value b) look first second =
    absurd (refused_word (word_of p.writes x) (word_of p.looks x) b (touched p) (c == TX_TOO_LARGE) second first)
reads_same p x (Raise c) (Raise d) look first second =
    ap Raise (same_codes (not (knows p x)) (touched p == TX_VARIABLES) (not (knows p x)) (touched p == TX_VARIABLES) c d TX_TOO_LARGE first
    second)
reads_same p x Gone s look first second = cc
reads_same p x Retry s look first second = cc
reads_same p x (Start f a) s look first second = cc
reads_same p x (Value a) Gone look first second = cc
reads_same p x (Value a) Retry look first second = cc
reads_same p x (Value a) (Start f b) look first second = cc
reads_same p x (Raise c) Gone look first second = cc
reads_same p x (Raise c) Retry look first second = cc
reads_same p x (Raise c) (Start f b) look first second = cc

-- a write inside an attempt has one reply without an entry
writes_same : (p : Progress) (x : ℕ) (v : ℤ) (r s : Reply) → is_quiet_within p (Write x v) r ≡ true → is_quiet_within p (Write x v) s
    ≡ true → r ≡ s
writes_same p x v Gone Gone first second = refl
writes_same p x v Gone (Raise d) first second = absurd (clash (knows p x) (d == TX_TOO_LARGE) (touched p) first second)
writes_same p x v (Raise c) Gone first second = absurd (clash (knows p x) (c == TX_TOO_LARGE) (touched p) second first)
writes_same p x v (Raise c) (Raise d) first second =
    ap Raise (same_codes (not (knows p x)) (touched p == TX_VARIABLES) (not (knows p x)) (touched p == TX_VARIABLES) c d TX_TOO_LARGE first
    second)
writes_same p x v (Value a) s first second = cc
writes_same p x v Retry s first second = cc
writes_same p x v (Start f a) s first second = cc
writes_same p x v Gone (Value a) first second = cc
writes_same p x v Gone Retry first second = cc
writes_same p x v Gone (Start f a) first second = cc
writes_same p x v (Raise c) (Value a) first second = cc
writes_same p x v (Raise c) Retry first second = cc
writes_same p x v (Raise c) (Start f a) first second = cc

-- each ask inside an attempt has one reply without an entry, where equal looks are forced
inside_same : (p : Progress) (ask : Ask) (r s : Reply) → LooksSame p ask r s → is_quiet_within p ask r ≡ true → is_quiet_within p ask s
    ≡ true → r ≡ s
inside_same p (Read x) r s look first second = reads_same p x r s look first second
inside_same p (Write x v) r s look first second = writes_same p x v r s first second
inside_same p Go r s look first second = go_only p r first ∙ sym (go_only p s second)
inside_same p TxBegin r s look first second = cc
inside_same p Begin r s look first second = cc
inside_same p End r s look first second = cc
inside_same p (Over e) r s look first second = cc
inside_same p (VRead v) r s look first second = cc
inside_same p (VWrite v a) r s look first second = cc
inside_same p (Enter o) r s look first second = cc
inside_same p (Exit o) r s look first second = cc
inside_same p (Fork f a) r s look first second = cc
inside_same p (Join u) r s look first second = cc
inside_same p (Alloc k) r s look first second = cc
inside_same p (Print a) r s look first second = cc
inside_same p Input r s look first second = cc
inside_same p (TxEnd keep) r s look first second = cc

-- each ask has one reply without an entry, where equal looks are forced inside attempts
quiet_same : (p : Progress) (o : Option Attempt) (ask : Ask) (r s : Reply) → ((a : Attempt) → o ≡ Some a → LooksSame p ask r s)
    → is_quiet o p ask r ≡ true → is_quiet o p ask s ≡ true → r ≡ s
quiet_same p None ask r s look first second = outside_only p ask r first ∙ sym (outside_only p ask s second)
quiet_same p (Some a) ask r s look first second = inside_same p ask r s (look a refl) first second

-- ## Two lists of exchanges

module _ (P : Bytecode) where
  -- what an unknown word is, by what follows
  pub word_told :
      (x : ℕ) (a : ℤ) (at : Attempt) (xs : List Exchange) (p m q : Progress) → p.config.attempt ≡ Some at → ask_of p.config.stage ≡ Read x →
      known_word (word_of p.writes x) (word_of p.looks x) ≡ None → told_one P (Quiet (Value a)) p ≡ Some m → told P m xs ≡ Some q →
      q.config.attempt ≡ None → word_ahead (entries_of xs) x ≡ Some a
  word_told x a at xs p m q runs asks unknown one more over =
      let t = told_of P (Quiet (Value a)) p m one in
      let both = when_true _ (Value a) t.reply t.gives in
      let no_end = no_end_quietly p.config.attempt p (ask_of p.config.stage) (Value a) both.0 in
      let lives : is_some p.config.attempt ≡ true = rw runs refl in
      let none = none_known (word_of p.writes x) (word_of p.looks x) unknown in
      let outside : is_none p.config.attempt ≡ false = rw runs refl in
      let unknown' : knows p x ≡ false = none.0 in
      let looked : looks_after p (Read x) (Value a) ≡ with_word x a p.looks = rw (outside, unknown') refl in
      let by_ask : looks_after p (ask_of p.config.stage) t.reply ≡ looks_after p (Read x) (Value a) = rw (asks, sym both.1) refl in
      let now : m.looks ≡ with_word x a p.looks = t.looks ∙ by_ask ∙ looked in
      ahead P xs m q x a more over (still_runs P (Quiet (Value a)) p m t no_end lives) (ap (λ ws. word_of ws x) now ∙ word_put x a p.looks)

  -- two ways from one progress with the same entries begin with the same exchange, where they end outside attempts
  same_first :
      (x y : Exchange) (xs ys : List Exchange) (p m n q r : Progress) → told_one P x p ≡ Some m → told_one P y p ≡ Some n →
      told P m xs ≡ Some q → told P n ys ≡ Some r → entries_of (x ∷ xs) ≡ entries_of (y ∷ ys) → q.config.attempt ≡ None →
      r.config.attempt ≡ None → x ≡ y
  same_first (Made e) (Made f) xs ys p m n q r one other more also es over too = cc
  same_first (Made e) (Quiet s) xs ys p m n q r one other more also es over too =
      let t = told_of P (Made e) p m one in
      let u = told_of P (Quiet s) p n other in
      let none = one_way p (ask_of p.config.stage) s e (when_true _ s u.reply u.gives).0 in
      let gives = t.gives in
      cc
  same_first (Quiet s) (Made e) xs ys p m n q r one other more also es over too =
      let t = told_of P (Made e) p n other in
      let u = told_of P (Quiet s) p m one in
      let none = one_way p (ask_of p.config.stage) s e (when_true _ s u.reply u.gives).0 in
      let gives = t.gives in
      cc
  same_first (Quiet s) (Quiet t) xs ys p m n q r one other more also es over too =
      ap Quiet (quiet_same p p.config.attempt (ask_of p.config.stage) s t looks (quietly s m one) (quietly t n other)) where
        quietly : (v : Reply) (k : Progress) → told_one P (Quiet v) p ≡ Some k → is_quiet p.config.attempt p (ask_of p.config.stage) v
            ≡ true
        quietly v k is = (let u = told_of P (Quiet v) p k is in (when_true _ v u.reply u.gives).0)

        looks : (a : Attempt) → p.config.attempt ≡ Some a → LooksSame p (ask_of p.config.stage) s t
        looks a runs x v w asks is_v is_w unknown =
            let by_v : told_one P (Quiet (Value v)) p ≡ Some m = rw (sym is_v) one in
            let by_w : told_one P (Quiet (Value w)) p ≡ Some n = rw (sym is_w) other in
            let at_v = word_told x v a xs p m q runs asks unknown by_v more over in
            let at_w = word_told x w a ys p n r runs asks unknown by_w also too in
            let same : entries_of xs ≡ entries_of ys = es in
            let ahead_same : word_ahead (entries_of xs) x ≡ word_ahead (entries_of ys) x = ap (λ l. word_ahead l x) same in
            cc

-- an option that is there is one progress
some_same : (o : Option Progress) (m n : Progress) → o ≡ Some m → o ≡ Some n → m ≡ n
some_same o m n first second = cc

-- exchanges that begin with the same one and have the same entries have the same entries after it
tail_entries : (x y : Exchange) (xs ys : List Exchange) → x ≡ y → entries_of (x ∷ xs) ≡ entries_of (y ∷ ys) → entries_of xs ≡ entries_of ys
tail_entries (Made e) (Made f) xs ys same es = cc
tail_entries (Quiet r) (Quiet s) xs ys same es = es
tail_entries (Made e) (Quiet s) xs ys same es = cc
tail_entries (Quiet r) (Made f) xs ys same es = cc

-- exchanges that end with an entry do so without their first one, or none are left
tail_made : (x : Exchange) (xs : List Exchange) → EndsMade (x ∷ xs) → EndsMade xs
tail_made x [] made = tt
tail_made (Made e) (y ∷ ys) made = made
tail_made (Quiet r) (y ∷ ys) made = made

-- exchanges that are some and end with an entry have an entry
has_entry : (x : Exchange) (xs : List Exchange) → EndsMade (x ∷ xs) → entries_of (x ∷ xs) ≡ [] → ⊥
has_entry (Made e) xs made none = cc
has_entry (Quiet r) [] made none = absurd made
has_entry (Quiet r) (y ∷ ys) made none = has_entry y ys made none

-- two ways of exchanges from one progress with the same entries are the same, where they end outside attempts and with entries
pub forced :
    (P : Bytecode) (p q r : Progress) (xs ys : List Exchange) → told P p xs ≡ Some q → told P p ys ≡ Some r →
    entries_of xs ≡ entries_of ys → q.config.attempt ≡ None → r.config.attempt ≡ None → EndsMade xs → EndsMade ys → xs ≡ ys
forced P p q r [] [] one other es over too made also = refl
forced P p q r [] (y ∷ ys) one other es over too made also = absurd (has_entry y ys also (sym es))
forced P p q r (x ∷ xs) [] one other es over too made also = absurd (has_entry x xs made es)
forced P p q r (x ∷ xs) (y ∷ ys) one other es over too made also =
    let a = told_cons P x xs p q one in
    let b = told_cons P y ys p r other in
    let same = same_first P x y xs ys p a.mid b.mid q r a.first b.first a.rest b.rest es over too in
    let second : told_one P x p ≡ Some b.mid = rw same b.first in
    let mids : a.mid ≡ b.mid = some_same (told_one P x p) a.mid b.mid a.first second in
    let rest : told P a.mid ys ≡ Some r = rw mids b.rest in
    let tails = forced P a.mid q r xs ys a.rest rest (tail_entries x y xs ys same es) over too (tail_made x xs made) (tail_made y ys also)
    in
    rw (same, tails) refl
