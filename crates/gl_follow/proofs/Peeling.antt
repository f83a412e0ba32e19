-- A way by the entries of a list begins with the exchange that is forced.
use Rattle.std.proofs.Common.{◌≡◌, ℕ, ℤ, ◌≤◌, Bool, true, false, if◌then◌else◌, List, [], ◌∷◌, ◌++◌, Option, Some, None, refl, sym, ◌∙◌, ap, subst, is_some, inl, inr}
use Rattle.std.specs.Prelude.{◌⊎◌}
use Rattle.std.specs.Option.{option_and_then}
use Rattle.gl_model.specs.Entries.{Entry, Sync, Commit as Committed, Plain, Abort, Trim, Over as Ended}
use Rattle.gl_model.specs.declared.event.Act.{Act}
use Rattle.gl_model.specs.declared.event.Act.TheVariants.{Begin as Began, End as Ends, Acq, Rel, Fork as Forked, Join as Joined, VRead as VolatileRead, VWrite as VolatileWrite, Alloc as Allocated, Print as Printed, Input as Taken, Fail}
use Rattle.gl_model.specs.declared.limits.TheConstants.{TX_VARIABLES}
use Rattle.gl_model.specs.declared.tx.Why.TheVariants.{Changed, Raised}
use Rattle.gl_bytecode.specs.declared.ask.Ask.{Ask}
use Rattle.gl_bytecode.specs.declared.ask.Ask.TheVariants.{Go, Begin, End, Read, Write, VRead, VWrite, Enter, Exit, Fork, Join, Alloc, Print, Input, TxBegin, TxEnd}
use Rattle.gl_bytecode.specs.declared.ask.Reply.{Reply}
use Rattle.gl_bytecode.specs.declared.ask.Reply.TheVariants.{Go as Gone, Value, Start, Raise, Retry}
use Rattle.gl_bytecode.specs.Attending.{Attends, runs_after}
use Rattle.gl_bytecode.specs.Fits.{Fits, StartsRight}
use Rattle.gl_bytecode.specs.Forced.{word_ahead}
use Rattle.gl_bytecode.specs.Machine.{Attempt, ask_of, next}
use Rattle.gl_bytecode.specs.Programs.{Bytecode}
use Rattle.gl_bytecode.specs.Runs.{Exchange, Made, Quiet, Progress, entries_of, is_quiet, is_quiet_within, known_word, reply_in, reply_of_act, reply_of_plain, told, told_one, touched, when, without_trims, word_of}
use Rattle.gl_bytecode.proofs.Answers.{no_entry, one_way}
use Rattle.gl_bytecode.proofs.Attending.{attends_on}
use Rattle.gl_bytecode.proofs.Exchanges.{Told, told_of, Parts, told_cons, told_none, outside_only, when_true, word_told}
use Rattle.gl_bytecode.proofs.Soundness.{Fits-next}
use Rattle.gl_follow.specs.Following.{BeginsRight, EachBeginsRight, Reaches, quiet_for}
use Rattle.gl_follow.proofs.Quiet.{quiet_is, quiet_told}

-- ## What replies start

-- inside an attempt a thread's start is no reply without an entry
within_starts : (p : Progress) (ask : Ask) (f : ℕ) (a : ℤ) → is_quiet_within p ask (Start f a) ≡ true → ⊥
within_starts p Go f a is = cc
within_starts p (Read x) f a is = cc
within_starts p (Write x v) f a is = cc
within_starts p ask f a is = cc

-- a reply that leaves no entry starts no thread wrongly, as it starts none
pub quiet_starts : (P : Bytecode) (o : Option Attempt) (p : Progress) (ask : Ask) (r : Reply) → is_quiet o p ask r ≡ true → StartsRight P r
quiet_starts P o p ask Gone is = tt
quiet_starts P o p ask (Value a) is = tt
quiet_starts P o p ask (Raise code) is = tt
quiet_starts P o p ask Retry is = tt
quiet_starts P None p ask (Start f a) is = absurd (let e = outside_only p ask (Start f a) is in cc)
quiet_starts P (Some a) p ask (Start f b) is = absurd (within_starts p ask f b is)

-- the reply starts no thread
abbrev NoStart : Reply → Type 0
NoStart (Start f a) = ⊥
NoStart _ = Unit {0}

-- a reply that starts no thread starts none wrongly
no_start : (P : Bytecode) (r : Reply) → NoStart r → StartsRight P r
no_start P Gone is = tt
no_start P (Value a) is = tt
no_start P (Raise code) is = tt
no_start P Retry is = tt
no_start P (Start f a) is = absurd is

-- a reply under a condition starts no thread, where the reply does not
when_none : (b : Bool) (r s : Reply) → NoStart r → when b r ≡ Some s → NoStart s
when_none b r s is gives = subst NoStart (when_true b r s gives).1 is

-- one of two replies starts no thread, where neither does
either_none : (b : Bool) (r s : Reply) → NoStart r → NoStart s → NoStart (if b then r else s)
either_none true r s one other = one
either_none false r s one other = other

-- the reply of a plain access starts no thread
plain_none : (ask : Ask) (x : ℕ) (write : Bool) (value : ℤ) (raised : Bool) (r : Reply) → reply_of_plain ask x write value raised ≡ Some r
    → NoStart r
plain_none (Read y) x write value raised r is = when_none _ _ r (either_none raised _ _ tt tt) is
plain_none (Write y a) x write value raised r is = when_none _ _ r (either_none raised _ _ tt tt) is
plain_none ask x write value raised r is = cc

-- the reply of an act starts its thread rightly, where the act that begins one does
act_starts : (P : Bytecode) (ask : Ask) (act : Act) (value : ℤ) (r : Reply) → ((f : ℕ) → act ≡ Began f → StartsRight P (Start f value))
    → reply_of_act ask act value ≡ Some r → StartsRight P r
act_starts P Begin (Began f) value r right is = (let e : Start f value ≡ r = cc in subst (StartsRight P) e (right f refl))
act_starts P End Ends value r right is = (let e : Gone ≡ r = cc in subst (StartsRight P) e tt)
act_starts P (VRead v) (VolatileRead w) value r right is = no_start P r (when_none _ _ r tt is)
act_starts P (VWrite v a) (VolatileWrite w) value r right is = no_start P r (when_none _ _ r tt is)
act_starts P (Enter o) (Acq m) value r right is = no_start P r (when_none _ _ r tt is)
act_starts P (Exit o) (Rel m) value r right is = no_start P r (when_none _ _ r tt is)
act_starts P (Exit o) (Fail code) value r right is = no_start P r (when_none _ _ r tt is)
act_starts P (Alloc c) (Allocated d) value r right is = no_start P r (when_none _ _ r tt is)
act_starts P (Alloc c) (Fail code) value r right is = no_start P r (when_none _ _ r tt is)
act_starts P (Fork f a) (Forked u g) value r right is = no_start P r (when_none _ _ r tt is)
act_starts P (Fork f a) (Fail code) value r right is = no_start P r (when_none _ _ r tt is)
act_starts P (Join u) (Joined w) value r right is = no_start P r (when_none _ _ r tt is)
act_starts P (Join u) (Fail code) value r right is = no_start P r (when_none _ _ r tt is)
act_starts P (Print a) Printed value r right is = no_start P r (when_none _ _ r tt is)
act_starts P Input Taken value r right is = (let e : Value value ≡ r = cc in subst (StartsRight P) e tt)
act_starts P Input (Fail code) value r right is = no_start P r (when_none _ _ r tt is)
act_starts P ask act value r right is = cc

-- the reply of a plain access, or none, starts no thread wrongly
plain_starts : (P : Bytecode) (b : Bool) (o : Option Reply) (r : Reply) → ((s : Reply) → o ≡ Some s → NoStart s) → (if b then o else None)
    ≡ Some r → StartsRight P r
plain_starts P true o r each is = no_start P r (each r is)
plain_starts P false o r each is = cc

-- a reply by an entry that begins in no wrong function
pub entry_starts : (P : Bytecode) (p : Progress) (ask : Ask) (e : Entry) (r : Reply) → BeginsRight P e → reply_in p ask e ≡ Some r
    → StartsRight P r
entry_starts P p ask (Sync at act value) r right is =
    act_starts P ask act value r (λ f same. right at f value (ap (λ a. Sync at a value) same)) is
entry_starts P p ask (Plain x nth cached write value raised) r right is =
    plain_starts P _ _ r (λ s gives. plain_none ask x write value raised s gives) is
entry_starts P p (TxEnd keep) (Committed at tx) r right is = no_start P r (when_none _ _ r tt is)
entry_starts P p (TxEnd keep) (Abort tx (Changed x read found)) r right is = no_start P r (when_none _ _ r tt is)
entry_starts P p (TxEnd keep) (Abort tx (Raised x)) r right is = no_start P r (when_none _ _ r tt is)
entry_starts P p ask e r right is = cc

-- ## One exchange

-- an exchange starts no thread wrongly
abbrev pub ExchangeIsRight : Bytecode → Exchange → Type 0
ExchangeIsRight P (Made e) = BeginsRight P e
ExchangeIsRight P (Quiet r) = Unit {0}

module _ (P : Bytecode) where
  -- the reply of an exchange that starts no thread wrongly starts none wrongly
  told_starts : (x : Exchange) (p q : Progress) (t : Told P x p q) → ExchangeIsRight P x → StartsRight P t.reply
  told_starts (Made e) p q t right = entry_starts P p (ask_of p.config.stage) e t.reply right t.gives
  told_starts (Quiet r) p q t right =
      let both = when_true _ r t.reply t.gives in
      subst (StartsRight P) both.1 (quiet_starts P p.config.attempt p (ask_of p.config.stage) r both.0)

  -- a machine that fits still fits after an exchange that starts no thread wrongly
  pub told_fits : (x : Exchange) (p q : Progress) → Fits P p.config → ExchangeIsRight P x → told_one P x p ≡ Some q → Fits P q.config
  told_fits x p q fits right is =
      let t = told_of P x p q is in
      rw t.config (Fits-next P p.config t.reply fits t.fits (told_starts x p q t right))

  -- where an entry answers, no attempt runs afterwards
  ends_by : (p : Progress) (o : Option Attempt) (ask : Ask) (e : Entry) (r : Reply) → p.config.attempt ≡ o → Attends o ask
      → reply_in p ask e ≡ Some r → runs_after ask (is_some o) ≡ false
  ends_by p None TxBegin e r is attends gives = (let none = no_entry p None TxBegin e is tt in cc)
  ends_by p None ask e r is attends gives = refl
  ends_by p (Some a) (TxEnd keep) e r is attends gives = refl
  ends_by p (Some a) Go e r is attends gives = (let none = no_entry p (Some a) Go e is tt in cc)
  ends_by p (Some a) (Read x) e r is attends gives = (let none = no_entry p (Some a) (Read x) e is tt in cc)
  ends_by p (Some a) (Write x v) e r is attends gives = (let none = no_entry p (Some a) (Write x v) e is tt in cc)
  ends_by p (Some a) ask e r is attends gives = absurd attends

  -- an option that is not there is none
  some_not : (o : Option Attempt) → is_some o ≡ false → o ≡ None
  some_not None is = refl
  some_not (Some a) is = cc

  -- no attempt runs after an exchange with an entry
  pub made_over : (e : Entry) (p q : Progress) → Fits P p.config → told_one P (Made e) p ≡ Some q → q.config.attempt ≡ None
  made_over e p q fits is =
      let t = told_of P (Made e) p q is in
      let on = attends_on P p.config t.reply fits t.fits in
      let ends = ends_by p p.config.attempt (ask_of p.config.stage) e t.reply refl fits.attends t.gives in
      let same : is_some q.config.attempt ≡ is_some (next P p.config t.reply).attempt = ap (λ c. is_some c.attempt) t.config in
      some_not q.config.attempt (same ∙ on.runs ∙ ends)

  -- ## Ways

  -- an exchange and then others lead where the others lead after it
  pub told_more : (x : Exchange) (xs : List Exchange) (p m : Progress) (o : Option Progress) → told_one P x p ≡ Some m → told P m xs ≡ o
      → told P p (x ∷ xs) ≡ o
  unfolding told
  told_more x xs p m o first rest = ap (option_and_then (λ n. told P n xs)) first ∙ rest

  -- a machine that fits still fits after exchanges whose entries begin threads rightly
  pub all_fit : (xs : List Exchange) (p q : Progress) → Fits P p.config → EachBeginsRight P (entries_of xs) → told P p xs ≡ Some q
      → Fits P q.config
  all_fit [] p q fits right is = (let same = told_none P p q is in subst (λ (m : Progress). Fits P m.config) same fits)
  all_fit (Made e ∷ xs) p q fits right is =
      let parts = told_cons P (Made e) xs p q is in
      all_fit xs parts.mid q (told_fits (Made e) p parts.mid fits right.0 parts.first) right.1 parts.rest
  all_fit (Quiet r ∷ xs) p q fits right is =
      let parts = told_cons P (Quiet r) xs p q is in
      all_fit xs parts.mid q (told_fits (Quiet r) p parts.mid fits tt parts.first) right parts.rest

  -- a way by some entry, up to the last of them: no attempt runs then
  pub record Cut (p : Progress) (es : List Entry) : Type 0 where
    pub last : Progress
    pub way : Reaches P p es last
    pub outside : last.config.attempt ≡ None

  -- where a way by entries leads to where no attempt runs, so does one with an exchange more before it
  one_more : (x : Exchange) (es fs : List Entry) (p m : Progress) → told_one P x p ≡ Some m
      → ((xs : List Exchange) → entries_of xs ≡ es → entries_of (x ∷ xs) ≡ fs) → Cut m es → Cut p fs
  one_more x es fs p m first same c = record {
    last = c.last;
    way = record {
      exchanges = x ∷ c.way.exchanges;
      entries = same c.way.exchanges c.way.entries;
      reached = told_more x c.way.exchanges p m _ first c.way.reached;
    };
    outside = c.outside;
  }

  -- exchanges of a machine that fits make no entries, or up to their last entry they lead to where no attempt runs
  pub cut : (xs : List Exchange) (p q : Progress) → Fits P p.config → EachBeginsRight P (entries_of xs) → told P p xs ≡ Some q
      → (entries_of xs ≡ []) ⊎ Cut p (entries_of xs)
  unfolding told
  cut [] p q fits right is = inl refl
  cut (Quiet r ∷ xs) p q fits right is = by_rest
      (cut xs parts.mid q (told_fits (Quiet r) p parts.mid fits tt parts.first) right parts.rest) where
        parts : Parts P (Quiet r) xs p q
        parts = told_cons P (Quiet r) xs p q is

        by_rest : (entries_of xs ≡ []) ⊎ Cut parts.mid (entries_of xs) → (entries_of xs ≡ []) ⊎ Cut p (entries_of xs)
        by_rest (inl none) = inl none
        by_rest (inr c) = inr (one_more (Quiet r) (entries_of xs) (entries_of xs) p parts.mid parts.first (λ ys same. same) c)
  cut (Made e ∷ xs) p q fits right is = by_rest
      (cut xs parts.mid q (told_fits (Made e) p parts.mid fits right.0 parts.first) right.1 parts.rest) where
        parts : Parts P (Made e) xs p q
        parts = told_cons P (Made e) xs p q is

        alone : Cut parts.mid []
        alone = record {
          last = parts.mid;
          way = record { exchanges = []; entries = refl; reached = refl };
          outside = made_over e p parts.mid fits parts.first;
        }

        by_rest : (entries_of xs ≡ []) ⊎ Cut parts.mid (entries_of xs) → (e ∷ entries_of xs ≡ []) ⊎ Cut p (e ∷ entries_of xs)
        by_rest (inl none) = inr (one_more (Made e) [] (e ∷ entries_of xs) p parts.mid parts.first
            (λ ys same. ap (λ l. e ∷ l) (same ∙ sym none)) alone)
        by_rest (inr c) = inr (one_more (Made e) (entries_of xs) (e ∷ entries_of xs) p parts.mid parts.first
            (λ ys same. ap (λ l. e ∷ l) same)
            c)

-- ## The first exchange

-- a word that is ahead in a list is ahead in a longer one
ahead_append : (es back : List Entry) (x : ℕ) (w : ℤ) → word_ahead es x ≡ Some w → word_ahead (es ++ back) x ≡ Some w
ahead_append [] back x w is = cc
ahead_append (Sync at act value ∷ es) back x w is = ahead_append es back x w is
ahead_append (Committed at tx ∷ es) back x w is = is
ahead_append (Plain y nth cached write value raised ∷ es) back x w is = ahead_append es back x w is
ahead_append (Abort tx why ∷ es) back x w is = is
ahead_append (Trim low ∷ es) back x w is = ahead_append es back x w is
ahead_append (Ended ending ∷ es) back x w is = ahead_append es back x w is

-- the word that is ahead in a list is the same without its trims
ahead_trims : (es : List Entry) (x : ℕ) → word_ahead (without_trims es) x ≡ word_ahead es x
ahead_trims [] x = refl
ahead_trims (Sync at act value ∷ es) x = ahead_trims es x
ahead_trims (Committed at tx ∷ es) x = refl
ahead_trims (Plain y nth cached write value raised ∷ es) x = ahead_trims es x
ahead_trims (Abort tx why ∷ es) x = refl
ahead_trims (Trim low ∷ es) x = ahead_trims es x
ahead_trims (Ended ending ∷ es) x = ahead_trims es x

-- the way begins with the reply that leaves no entry
pub record Quietly (P : Bytecode) (p : Progress) (list es : List Entry) (r : Progress) : Type 0 where
  pub reply : Reply
  pub mid : Progress
  pub chosen : quiet_for p list (ask_of p.config.stage) ≡ Some reply
  pub first : told_one P (Quiet reply) p ≡ Some mid
  pub rest : Reaches P mid es r

-- or there is none, and it begins with the first entry
pub record ByEntry (P : Bytecode) (p : Progress) (list es : List Entry) (r : Progress) : Type 0 where
  pub entry : Entry
  pub later : List Entry
  pub mid : Progress
  pub none : quiet_for p list (ask_of p.config.stage) ≡ None
  pub first : told_one P (Made entry) p ≡ Some mid
  pub same : es ≡ entry ∷ later
  pub rest : Reaches P mid later r

-- the list is of those entries and others behind them
pub record Leads (list es : List Entry) : Type 0 where
  pub back : List Entry
  pub same : without_trims list ≡ es ++ back

-- a way by the entries of a list begins with the reply that leaves no entry, or with the list's first entry
pub peel :
    (P : Bytecode) (p r : Progress) (x : Exchange) (xs : List Exchange) (list es : List Entry) → touched p ≤ TX_VARIABLES →
    Leads list es → entries_of (x ∷ xs) ≡ es → told P p (x ∷ xs) ≡ Some r → r.config.attempt ≡ None → Quietly P p list es r
    ⊎ ByEntry P p list es r
peel P p r (Quiet reply) xs list es few leads same is outside =
    inl (record {
      reply = reply;
      mid = parts.mid;
      chosen = quiet_told p list (ask_of p.config.stage) reply looks (when_true _ reply t.reply t.gives).0;
      first = parts.first;
      rest = record { exchanges = xs; entries = same; reached = parts.rest };
    }) where
      parts : Parts P (Quiet reply) xs p r
      parts = told_cons P (Quiet reply) xs p r is

      t : Told P (Quiet reply) p parts.mid
      t = told_of P (Quiet reply) p parts.mid parts.first

      looks :
          (a : Attempt) → p.config.attempt ≡ Some a → (x : ℕ) (w : ℤ) → ask_of p.config.stage ≡ Read x → reply ≡ Value w →
          known_word (word_of p.writes x) (word_of p.looks x) ≡ None → word_ahead list x ≡ Some w
      looks a runs x w asks is_word unknown =
          let first : told_one P (Quiet (Value w)) p ≡ Some parts.mid = rw (sym is_word) parts.first in
          let told_word = word_told P x w a xs p parts.mid r runs asks unknown first parts.rest outside in
          let by_es : word_ahead es x ≡ Some w = ap (λ l. word_ahead l x) (sym same) ∙ told_word in
          sym (ahead_trims list x) ∙ ap (λ l. word_ahead l x) leads.same ∙ ahead_append es leads.back x w by_es
peel P p r (Made e) xs list es few leads same is outside = by_quiet (quiet_for p list (ask_of p.config.stage)) refl where
  parts : Parts P (Made e) xs p r
  parts = told_cons P (Made e) xs p r is

  t : Told P (Made e) p parts.mid
  t = told_of P (Made e) p parts.mid parts.first

  by_quiet : (o : Option Reply) → quiet_for p list (ask_of p.config.stage) ≡ o → Quietly P p list es r ⊎ ByEntry P p list es r
  by_quiet None none = inr (record {
    entry = e;
    later = entries_of xs;
    mid = parts.mid;
    none = none;
    first = parts.first;
    same = sym same;
    rest = record { exchanges = xs; entries = refl; reached = parts.rest };
  })
  by_quiet (Some reply) some =
      let quiet = quiet_is p list (ask_of p.config.stage) reply few some in
      let none = one_way p (ask_of p.config.stage) reply e quiet in
      let gives = t.gives in
      cc
