-- The transactions of a program's run name few variables, since no attempt touches more than a transaction may have.
use Rattle.std.proofs.Common.{◌≡◌, ◌≢◌, ◌+◌, ◌<◌, ◌≤◌, ◌==◌, ◌&&◌, ◌||◌, ℕ, ℤ, List, [], ◌∷◌, ◌++◌, Bool, true, false, Option, Some, None, nat_lt, is_some, is_none, length, map, refl, ap, sym, subst, ◌∙◌, arith, inl, inr}
use Rattle.std.specs.Prelude.{◌⊎◌, if◌then◌else◌}
use Rattle.std.specs.List.{AllByRecursion}
use Rattle.std.proofs.lemmas.Bool.{cases_Bool, cases_order, eq-eqb, eqb-true, le-ltb, lt-ltb, ltb-true, ne_eqb, or_cases, or_parts}
use Rattle.gl_model.specs.Entries.{Entry, Sync, Commit, Plain, Abort, Trim, Over as Ended}
use Rattle.gl_model.specs.declared.event.Act.{Act}
use Rattle.gl_model.specs.declared.event.Act.TheVariants as acts
use Rattle.gl_model.specs.declared.limits.TheConstants.{TX_VARIABLES}
use Rattle.gl_model.specs.declared.tx.Look.{Look}
use Rattle.gl_model.specs.declared.tx.Pair.{Pair}
use Rattle.gl_model.specs.declared.tx.Tx.{Tx}
use Rattle.gl_model.specs.declared.tx.Why.{Why}
use Rattle.gl_model.specs.declared.tx.Why.TheVariants.{Changed, Raised}
use Rattle.gl_model.specs.Records.{variables_of}
use Rattle.gl_model.specs.Rising.{with_all, with_one}
use Rattle.gl_bytecode.specs.declared.ask.Ask.{Ask}
use Rattle.gl_bytecode.specs.declared.ask.Ask.TheVariants.{Go, Begin, End, Over, Read, Write, VRead, VWrite, Enter, Exit, Fork, Join, Alloc, Print, Input, TxBegin, TxEnd}
use Rattle.gl_bytecode.specs.declared.ask.Reply.{Reply}
use Rattle.gl_bytecode.specs.declared.ask.Reply.TheVariants.{Go as Gone, Value, Start, Raise, Retry}
use Rattle.gl_bytecode.specs.Machine.{Attempt, ask_of}
use Rattle.gl_bytecode.specs.Programs.{Bytecode}
use Rattle.gl_bytecode.specs.Runs.{Exchange, Made, Quiet, Progress, Runs, entries_of, is_its_end, is_quiet, is_word, known_word, knows, looks_after, outset, reply_in, reply_of, reply_of_abort, reply_of_act, reply_of_commit, same_words, told, touched, with_word, without_trims, word_of, writes_after}
use Rattle.gl_bytecode.proofs.AttemptWords.{words_same}
use Rattle.gl_bytecode.proofs.Exchanges.{Told, told_cons, told_of, when_true}
use Rattle.gl_model.specs.Kept.{IsRecord}
use Rattle.gl_model.specs.Lists.{lists_of}
use Rattle.gl_journal.specs.Written.{AllEntries, NamesFew, TxNamesFew}
use Rattle.gl_table.specs.SealedView.{SealedView}
use Rattle.gl_threads.specs.declared.options.Options.{Options}
use Rattle.gl_run.specs.Runs.{IsRunOf}
use Rattle.gl_run.proofs.SameRecord.{first_list, no_list, other_list, some_entry}

-- ## One number put in its place

-- a number that is first in a list is not put there again
put_same : (x y : ℕ) (ys : List ℕ) → x ≡ y → with_one x (y ∷ ys) ≡ y ∷ ys
put_same x y ys same = rw (eq-eqb x y same) refl

-- a number below the first of a list is put before it
put_below : (x y : ℕ) (ys : List ℕ) → x < y → with_one x (y ∷ ys) ≡ x ∷ y ∷ ys
put_below x y ys less = rw (ne_eqb x y (λ e. omega (arith, less, e)), lt-ltb x y less) refl

-- a number above the first of a list is put among the rest
put_above : (x y : ℕ) (ys : List ℕ) → y < x → with_one x (y ∷ ys) ≡ y ∷ with_one x ys
put_above x y ys less = rw (ne_eqb x y (λ e. omega (arith, less, e)), le-ltb x y (omega (arith, less))) refl

-- what is there is not put again
put_twice : (x : ℕ) (ys : List ℕ) → with_one x (with_one x ys) ≡ with_one x ys
put_twice x [] = put_same x x [] refl
put_twice x (y ∷ ys) = elim (cases_order x y) [
  | inl same ↦ ap (with_one x) (put_same x y ys same)
  | inr apart ↦ elim apart [
    | inl less ↦ ap (with_one x) (put_below x y ys less) ∙ put_same x x (y ∷ ys) refl ∙ sym (put_below x y ys less)
    | inr more ↦
        ap (with_one x) (put_above x y ys more) ∙ put_above x y (with_one x ys) more ∙ ap (λ zs. y ∷ zs) (put_twice x ys)
        ∙ sym (put_above x y ys more)
  ]
]

-- two numbers are put in either order, the first below the second
swap_less : (a b : ℕ) (ys : List ℕ) → a < b → with_one a (with_one b ys) ≡ with_one b (with_one a ys)
swap_less a b [] below = put_below a b [] below ∙ sym (put_above b a [] below)
swap_less a b (y ∷ ys) below = elim (cases_order b y) [
  | inl same ↦
      let less : a < y = omega (arith, below, same) in
      ap (with_one a) (put_same b y ys same)
      ∙ put_below a y ys less
      ∙ ap (λ zs. a ∷ zs) (sym (put_same b y ys same))
      ∙ sym (put_above b a (y ∷ ys) below)
      ∙ ap (with_one b) (sym (put_below a y ys less))
  | inr apart ↦ elim apart [
    | inl less ↦
        ap (with_one a) (put_below b y ys less)
        ∙ put_below a b (y ∷ ys) below
        ∙ ap (λ zs. a ∷ zs) (sym (put_below b y ys less))
        ∙ sym (put_above b a (y ∷ ys) below)
        ∙ ap (with_one b) (sym (put_below a y ys (omega (arith, below, less))))
    | inr more ↦ ap (with_one a) (put_above b y ys more) ∙ elim (cases_order a y) [
      | inl same ↦
          put_same a y (with_one b ys) same ∙ sym (put_above b y ys more) ∙ ap (with_one b) (sym (put_same a y ys same))
      | inr other ↦ elim other [
        | inl less ↦
            put_below a y (with_one b ys) less
            ∙ ap (λ zs. a ∷ zs) (sym (put_above b y ys more))
            ∙ sym (put_above b a (y ∷ ys) below)
            ∙ ap (with_one b) (sym (put_below a y ys less))
        | inr over ↦
            put_above a y (with_one b ys) over
            ∙ ap (λ zs. y ∷ zs) (swap_less a b ys below)
            ∙ sym (put_above b y (with_one a ys) more)
            ∙ ap (with_one b) (sym (put_above a y ys over))
      ]
    ]
  ]
]

-- any two
swap : (a b : ℕ) (ys : List ℕ) → with_one a (with_one b ys) ≡ with_one b (with_one a ys)
swap a b ys = elim (cases_order a b) [
  | inl same ↦ ap (λ c. with_one c (with_one b ys)) same ∙ ap (λ c. with_one b (with_one c ys)) (sym same)
  | inr apart ↦ elim apart [ inl less ↦ swap_less a b ys less | inr more ↦ sym (swap_less b a ys more) ]
]

-- one more at most
put_length : (x : ℕ) (ys : List ℕ) → (length ys ≤ length (with_one x ys)) × (length (with_one x ys) ≤ length ys + 1)
put_length x [] = (omega arith, omega arith)
put_length x (y ∷ ys) = elim (cases_order x y) [
  | inl same ↦ let e = ap length (put_same x y ys same) in (omega (arith, e), omega (arith, e))
  | inr apart ↦ elim apart [
    | inl less ↦ let e = ap length (put_below x y ys less) in (omega (arith, e), omega (arith, e))
    | inr more ↦
        let e = ap length (put_above x y ys more) in let rest = put_length x ys in
        (omega (arith, e, rest.0), omega (arith, e, rest.1))
  ]
]

-- ## Many put in their places

-- putting numbers among others makes no list shorter
all_grow : (xs ys : List ℕ) → length ys ≤ length (with_all xs ys)
all_grow [] ys = omega arith
all_grow (x ∷ xs) ys = omega (arith, (put_length x ys).0, all_grow xs (with_one x ys))

-- one before them or after them
all_one : (x : ℕ) (xs ys : List ℕ) → with_all xs (with_one x ys) ≡ with_one x (with_all xs ys)
all_one x [] ys = refl
all_one x (y ∷ xs) ys = ap (with_all xs) (swap y x ys) ∙ all_one x xs (with_one y ys)

-- or among them
one_all : (x : ℕ) (xs ys : List ℕ) → with_all (with_one x xs) ys ≡ with_one x (with_all xs ys)
one_all x [] ys = refl
one_all x (y ∷ xs) ys = elim (cases_order x y) [
  | inl same ↦
      ap (λ zs. with_all zs ys) (put_same x y xs same)
      ∙ ap (with_all xs) (sym (put_twice y ys) ∙ ap (λ c. with_one c (with_one y ys)) (sym same))
      ∙ all_one x xs (with_one y ys)
  | inr apart ↦ elim apart [
    | inl less ↦ ap (λ zs. with_all zs ys) (put_below x y xs less) ∙ all_one x (y ∷ xs) ys
    | inr more ↦ ap (λ zs. with_all zs ys) (put_above x y xs more) ∙ one_all x xs (with_one y ys)
  ]
]

-- ## The variables of words

-- variables with their values
abbrev Words : Type 0
Words = List (ℕ × ℤ)

-- the variables of words
abbrev vars : Words → List ℕ
vars ws = map (λ w. w.0) ws

-- those of one word more
vars_with : (x : ℕ) (a : ℤ) (ws : Words) → vars (with_word x a ws) ≡ with_one x (vars ws)
vars_with x a [] = refl
vars_with x a (w ∷ ws) = elim (cases_order x w.0) [
  | inl same ↦ rw (eq-eqb w.0 x (sym same)) (ap (λ y. y ∷ vars ws) same ∙ sym (put_same x w.0 (vars ws) same))
  | inr apart ↦ elim apart [
    | inl less ↦
        rw (ne_eqb w.0 x (λ e. omega (arith, less, e)), lt-ltb x w.0 less, ne_eqb x w.0 (λ e. omega (arith, less, e))) refl
    | inr more ↦
        rw (ne_eqb w.0 x (λ e. omega (arith, more, e)), le-ltb x w.0 (omega (arith, more)), ne_eqb x w.0 (λ e. omega (arith, more, e)))
        (ap (λ zs. w.0 ∷ zs) (vars_with x a ws))
  ]
]

-- the word of another variable stays
word_other : (x y : ℕ) (a : ℤ) (ws : Words) → (x == y) ≡ false → word_of (with_word x a ws) y ≡ word_of ws y
word_other x y a [] apart = rw apart refl
word_other x y a (w ∷ ws) apart = elim (cases_Bool (w.0 == x)) [
  | inl same ↦ let e : (w.0 == y) ≡ false = ap (λ k. k == y) (eqb-true w.0 x same) ∙ apart in rw (same, apart, e) refl
  | inr differ ↦ elim (cases_Bool (nat_lt x w.0)) [
    | inl less ↦ rw (differ, less, apart) refl
    | inr more ↦ rw (differ, more) (ap (λ o. if w.0 == y then Some w.1 else o) (word_other x y a ws apart))
  ]
]

-- a variable that has a word is the new one, or had one
word_with : (x y : ℕ) (a : ℤ) (ws : Words) → is_some (word_of (with_word x a ws) y) ≡ true → (y ≡ x) ⊎ (is_some (word_of ws y) ≡ true)
word_with x y a ws has = elim (cases_Bool (x == y)) [
  | inl same ↦ inl (sym (eqb-true x y same))
  | inr apart ↦ inr (ap is_some (sym (word_other x y a ws apart)) ∙ has)
]

-- ## What an attempt touched

-- the variables of looks and writes, each once
abbrev all_vars : Words → Words → List ℕ
all_vars looks writes = with_all (vars writes) (vars looks)

-- whether a variable is among looks or writes
abbrev has_word : Words → Words → ℕ → Bool
has_word looks writes x = is_some (word_of writes x) || is_some (word_of looks x)

-- they are at most as many as a transaction may have, and each that has a word is among them
record AreFew (looks writes : Words) : Type 0 where
  few : length (all_vars looks writes) ≤ TX_VARIABLES
  among : (x : ℕ) → has_word looks writes x ≡ true → with_one x (all_vars looks writes) ≡ all_vars looks writes

-- no looks and no writes are few
none_few : AreFew [] []
none_few = record { few = omega arith; among = λ x has. cc }

-- with one word more, for which there is room, or which a variable had
one_more : (x : ℕ) (looks writes more others : Words) → AreFew looks writes → all_vars more others ≡ with_one x (all_vars looks writes)
    → ((y : ℕ) → has_word more others y ≡ true → (y ≡ x) ⊎ (has_word looks writes y ≡ true))
    → (has_word looks writes x ≡ true) ⊎ (length (all_vars looks writes) < TX_VARIABLES) → AreFew more others
one_more x looks writes more others old same new room = record { few = few; among = among } where
  few : length (all_vars more others) ≤ TX_VARIABLES
  few = elim room [
    | inl has ↦ let e = ap length (same ∙ old.among x has) in omega (arith, e, old.few)
    | inr less ↦ let e = ap length same in omega (arith, e, less, (put_length x (all_vars looks writes)).1)
  ]

  among : (y : ℕ) → has_word more others y ≡ true → with_one y (all_vars more others) ≡ all_vars more others
  among y has = ap (with_one y) same ∙ elim (new y has) [
    | inl is ↦ ap (λ k. with_one k (with_one x (all_vars looks writes))) is ∙ put_twice x (all_vars looks writes)
    | inr had ↦ swap y x (all_vars looks writes) ∙ ap (with_one x) (old.among y had)
  ] ∙ sym same

-- looks and writes stay few after a look, if there was room
more_look : (x : ℕ) (a : ℤ) (looks writes : Words) → AreFew looks writes → length (all_vars looks writes) < TX_VARIABLES
    → AreFew (with_word x a looks) writes
more_look x a looks writes old room =
    one_more x looks writes (with_word x a looks) writes old
    (ap (with_all (vars writes)) (vars_with x a looks) ∙ all_one x (vars writes) (vars looks))
    (λ y has. elim (or_cases (is_some (word_of writes y)) (is_some (word_of (with_word x a looks) y)) has) [
      | inl written ↦ inr (rw written refl)
      | inr looked ↦ elim (word_with x y a looks looked) [ inl is ↦ inl is | inr had ↦ inr (either (is_some (word_of writes y)) _ had) ]
    ])
    (inr room)
  where
    either : (s t : Bool) → t ≡ true → (s || t) ≡ true
    either true t is = refl
    either false t is = is

-- looks and writes stay few after a write to a variable that was among them, or if there was room
more_write : (x : ℕ) (a : ℤ) (looks writes : Words) → AreFew looks writes
    → (has_word looks writes x ≡ true) ⊎ (length (all_vars looks writes) < TX_VARIABLES)
    → AreFew looks (with_word x a writes)
more_write x a looks writes old room =
    one_more x looks writes looks (with_word x a writes) old
    (ap (λ xs. with_all xs (vars looks)) (vars_with x a writes) ∙ one_all x (vars writes) (vars looks))
    (λ y has. elim (or_cases (is_some (word_of (with_word x a writes) y)) (is_some (word_of looks y)) has) [
      | inl written ↦ elim (word_with x y a writes written) [ inl is ↦ inl is | inr had ↦ inr (rw had refl) ]
      | inr looked ↦ inr (either (is_some (word_of writes y)) _ looked)
    ])
    room
  where
    either : (s t : Bool) → t ≡ true → (s || t) ≡ true
    either true t is = refl
    either false t is = is

-- ## Answers inside an attempt

-- no event answers a get
no_read : (x : ℕ) (act : Act) (value : ℤ) → reply_of_act (Read x) act value ≡ None
no_read x (acts.Begin f) value = refl
no_read x acts.End value = refl
no_read x (acts.Acq o) value = refl
no_read x (acts.Rel o) value = refl
no_read x (acts.VRead v) value = refl
no_read x (acts.VWrite v) value = refl
no_read x (acts.Fork u f) value = refl
no_read x (acts.Join u) value = refl
no_read x (acts.Alloc c) value = refl
no_read x acts.Print value = refl
no_read x acts.Input value = refl
no_read x (acts.Fail code) value = refl

-- and none a put
no_write : (x : ℕ) (a : ℤ) (act : Act) (value : ℤ) → reply_of_act (Write x a) act value ≡ None
no_write x a (acts.Begin f) value = refl
no_write x a acts.End value = refl
no_write x a (acts.Acq o) value = refl
no_write x a (acts.Rel o) value = refl
no_write x a (acts.VRead v) value = refl
no_write x a (acts.VWrite v) value = refl
no_write x a (acts.Fork u f) value = refl
no_write x a (acts.Join u) value = refl
no_write x a (acts.Alloc c) value = refl
no_write x a acts.Print value = refl
no_write x a acts.Input value = refl
no_write x a (acts.Fail code) value = refl

-- no entry is the answer to a get
no_read_made : (p : Progress) (x : ℕ) (e : Entry) → is_none p.config.attempt ≡ false → reply_in p (Read x) e ≡ None
no_read_made p x (Sync at act value) running = no_read x act value
no_read_made p x (Plain var nth cached write value raised) running = rw running refl
no_read_made p x (Commit at tx) running = refl
no_read_made p x (Abort tx why) running = refl
no_read_made p x (Trim low) running = refl
no_read_made p x (Ended ending) running = refl

-- within an attempt no entry answers a write
no_write_made : (p : Progress) (x : ℕ) (a : ℤ) (e : Entry) → is_none p.config.attempt ≡ false → reply_in p (Write x a) e ≡ None
no_write_made p x a (Sync at act value) running = no_write x a act value
no_write_made p x a (Plain var nth cached write value raised) running = rw running refl
no_write_made p x a (Commit at tx) running = refl
no_write_made p x a (Abort tx why) running = refl
no_write_made p x a (Trim low) running = refl
no_write_made p x a (Ended ending) running = refl

-- what is none is not something
none_some : {A : Type 0} (o : Option A) (v : A) → o ≡ None → o ≡ Some v → ⊥
none_some o v none some = (let e = sym none ∙ some in cc)

-- a variable with no word is looked at only where there is room
new_word : (w l : Option ℤ) (room : Bool) (a : ℤ) → (is_some w || is_some l) ≡ false → is_word (known_word w l) room a ≡ true → room ≡ true
new_word (Some b) l room a none is = cc
new_word None (Some b) room a none is = cc
new_word None None room a none is = is

-- a read of a variable that was not known, within an attempt without an entry, found room
quiet_room : (p : Progress) (o : Option Attempt) (x : ℕ) (a : ℤ) → is_none o ≡ false → knows p x ≡ false
    → is_quiet o p (Read x) (Value a) ≡ true
    → touched p < TX_VARIABLES
quiet_room p None x a running none is = cc
quiet_room p (Some t) x a running none is =
    ltb-true (touched p) TX_VARIABLES
    (new_word (word_of p.writes x) (word_of p.looks x) (nat_lt (touched p) TX_VARIABLES) a none is)

-- a read of a variable that was not known, that an attempt answers, found room
look_room : (p : Progress) (x : ℕ) (a : ℤ) (e : Exchange) → is_none p.config.attempt ≡ false → knows p x ≡ false
    → reply_of p (Read x) e ≡ Some (Value a)
    → touched p < TX_VARIABLES
look_room p x a (Made entry) running none gives = absurd
    (none_some (reply_in p (Read x) entry) (Value a) (no_read_made p x entry running) gives)
look_room p x a (Quiet (Value b)) running none gives = quiet_room p p.config.attempt x b running none
    (when_true _ (Value b) (Value a) gives).0
look_room p x a (Quiet Gone) running none gives = (let e = (when_true _ Gone (Value a) gives).1 in cc)
look_room p x a (Quiet (Start f b)) running none gives = (let e = (when_true _ (Start f b) (Value a) gives).1 in cc)
look_room p x a (Quiet (Raise code)) running none gives = (let e = (when_true _ (Raise code) (Value a) gives).1 in cc)
look_room p x a (Quiet Retry) running none gives = (let e = (when_true _ Retry (Value a) gives).1 in cc)

-- a write without an entry, within an attempt, is to a known variable or found room
quiet_write : (p : Progress) (o : Option Attempt) (x : ℕ) (a : ℤ) → is_none o ≡ false → is_quiet o p (Write x a) Gone ≡ true
    → (knows p x ≡ true) ⊎ (touched p < TX_VARIABLES)
quiet_write p None x a running is = cc
quiet_write p (Some t) x a running is = elim (or_cases (knows p x) (nat_lt (touched p) TX_VARIABLES) is) [
  | inl has ↦ inl has
  | inr less ↦ inr (ltb-true (touched p) TX_VARIABLES less)
]

-- a write that is answered, within an attempt, is to a known variable or found room
write_room : (p : Progress) (x : ℕ) (a : ℤ) (e : Exchange) → is_none p.config.attempt ≡ false → reply_of p (Write x a) e ≡ Some Gone
    → (knows p x ≡ true) ⊎ (touched p < TX_VARIABLES)
write_room p x a (Made entry) running gives = absurd
    (none_some (reply_in p (Write x a) entry) Gone (no_write_made p x a entry running) gives)
write_room p x a (Quiet Gone) running gives = quiet_write p p.config.attempt x a running (when_true _ Gone Gone gives).0
write_room p x a (Quiet (Value b)) running gives = (let e = (when_true _ (Value b) Gone gives).1 in cc)
write_room p x a (Quiet (Start f b)) running gives = (let e = (when_true _ (Start f b) Gone gives).1 in cc)
write_room p x a (Quiet (Raise code)) running gives = (let e = (when_true _ (Raise code) Gone gives).1 in cc)
write_room p x a (Quiet Retry) running gives = (let e = (when_true _ Retry Gone gives).1 in cc)

-- looks and writes stay few after a read that is answered
read_few : (p : Progress) (x : ℕ) (e : Exchange) (r : Reply) → reply_of p (Read x) e ≡ Some r → AreFew p.looks p.writes
    → AreFew (looks_after p (Read x) r) (writes_after p (Read x) r)
read_few p x e (Value a) gives old = by_test (is_none p.config.attempt || knows p x) refl where
  by_test : (b : Bool) → (is_none p.config.attempt || knows p x) ≡ b → AreFew (if b then p.looks else with_word x a p.looks) p.writes
  by_test true is = old
  by_test false is =
      let two = or_parts (is_none p.config.attempt) (knows p x) is in
      more_look x a p.looks p.writes old (look_room p x a e two.0 two.1 gives)
read_few p x e Gone gives old = old
read_few p x e (Start f b) gives old = old
read_few p x e (Raise code) gives old = old
read_few p x e Retry gives old = old

-- looks and writes stay few after a write that is answered
write_few : (p : Progress) (x : ℕ) (a : ℤ) (e : Exchange) (r : Reply) → reply_of p (Write x a) e ≡ Some r → AreFew p.looks p.writes
    → AreFew (looks_after p (Write x a) r) (writes_after p (Write x a) r)
write_few p x a e Gone gives old = by_test (is_none p.config.attempt) refl where
  by_test : (b : Bool) → is_none p.config.attempt ≡ b → AreFew p.looks (if b then p.writes else with_word x a p.writes)
  by_test true is = old
  by_test false is = more_write x a p.looks p.writes old (write_room p x a e is gives)
write_few p x a e (Value b) gives old = old
write_few p x a e (Start f b) gives old = old
write_few p x a e (Raise code) gives old = old
write_few p x a e Retry gives old = old

-- after any answer few are touched
answer_few : (p : Progress) (ask : Ask) (e : Exchange) (r : Reply) → reply_of p ask e ≡ Some r → AreFew p.looks p.writes
    → AreFew (looks_after p ask r) (writes_after p ask r)
answer_few p (Read x) e r gives old = read_few p x e r gives old
answer_few p (Write x a) e r gives old = write_few p x a e r gives old
answer_few p (TxEnd keep) e r gives old = none_few
answer_few p Go e r gives old = old
answer_few p Begin e r gives old = old
answer_few p End e r gives old = old
answer_few p (Over ending) e r gives old = old
answer_few p (VRead v) e r gives old = old
answer_few p (VWrite v a) e r gives old = old
answer_few p (Enter o) e r gives old = old
answer_few p (Exit o) e r gives old = old
answer_few p (Fork f a) e r gives old = old
answer_few p (Join u) e r gives old = old
answer_few p (Alloc c) e r gives old = old
answer_few p (Print a) e r gives old = old
answer_few p Input e r gives old = old
answer_few p TxBegin e r gives old = old

-- ## The entries of an attempt's end

-- the variables of the words of looks are those of the looks
look_vars : (ls : List Look) → vars (map (λ l. (l.var, l.value)) ls) ≡ map (λ l. l.var) ls
look_vars [] = refl
look_vars (l ∷ ls) = ap (λ xs. l.var ∷ xs) (look_vars ls)

-- the variables of the words of writes are those of the writes
write_vars : (ps : List Pair) → vars (map (λ w. (w.var, w.value)) ps) ≡ map (λ w. w.var) ps
write_vars [] = refl
write_vars (p ∷ ps) = ap (λ xs. p.var ∷ xs) (write_vars ps)

-- if a conjunction is true, both of its parts are
both_parts : (a b : Bool) → (a && b) ≡ true → (a ≡ true) × (b ≡ true)
both_parts true b is = (refl, is)
both_parts false b is = cc

-- few looks and writes have few variables, whether the writes are kept or not
kept_few : (looks writes : Words) (keep : Bool) → AreFew looks writes → length (all_vars looks (if keep then writes else [])) ≤ TX_VARIABLES
kept_few looks writes true old = old.few
kept_few looks writes false old = omega (arith, old.few, all_grow (vars writes) (vars looks))

-- the transaction of an attempt's end
end_few : (p : Progress) (keep : Bool) (tx : Tx) → is_its_end p keep tx ≡ true → AreFew p.looks p.writes → TxNamesFew tx
end_few p keep tx is old =
    let kept : Words = if keep then p.writes else [] in
    let two = both_parts (same_words (map (λ l. (l.var, l.value)) tx.looks) p.looks) _ is in
    let looks : map (λ l. l.var) tx.looks ≡ vars p.looks = sym (look_vars tx.looks) ∙ ap vars (words_same _ p.looks two.0) in
    let writes : map (λ w. w.var) tx.writes ≡ vars kept = sym (write_vars tx.writes) ∙ ap vars (words_same _ kept two.1) in
    let same : variables_of tx ≡ all_vars p.looks kept = ap (with_all (map (λ w. w.var) tx.writes)) looks
    ∙ ap (λ xs. with_all xs (vars p.looks)) writes in
    let e = ap length same in
    omega (arith, e, kept_few p.looks p.writes keep old)

-- a commit that is answered names few variables
commit_few : (p : Progress) (ask : Ask) (tx : Tx) (r : Reply) → reply_of_commit p ask tx ≡ Some r → AreFew p.looks p.writes → TxNamesFew tx
commit_few p (TxEnd keep) tx r is old = end_few p keep tx (when_true _ _ r is).0 old
commit_few p Go tx r is old = cc
commit_few p Begin tx r is old = cc
commit_few p End tx r is old = cc
commit_few p (Over e) tx r is old = cc
commit_few p (Read x) tx r is old = cc
commit_few p (Write x a) tx r is old = cc
commit_few p (VRead v) tx r is old = cc
commit_few p (VWrite v a) tx r is old = cc
commit_few p (Enter o) tx r is old = cc
commit_few p (Exit o) tx r is old = cc
commit_few p (Fork f a) tx r is old = cc
commit_few p (Join u) tx r is old = cc
commit_few p (Alloc k) tx r is old = cc
commit_few p (Print a) tx r is old = cc
commit_few p Input tx r is old = cc
commit_few p TxBegin tx r is old = cc

-- a drop that is answered names few variables
abort_few : (p : Progress) (ask : Ask) (tx : Tx) (why : Why) (r : Reply) → reply_of_abort p ask tx why ≡ Some r → AreFew p.looks p.writes
    → TxNamesFew tx
abort_few p (TxEnd keep) tx (Changed var read found) r is old = end_few p keep tx (when_true _ _ r is).0 old
abort_few p (TxEnd keep) tx (Raised var) r is old = end_few p keep tx (when_true _ _ r is).0 old
abort_few p Go tx why r is old = cc
abort_few p Begin tx why r is old = cc
abort_few p End tx why r is old = cc
abort_few p (Over e) tx why r is old = cc
abort_few p (Read x) tx why r is old = cc
abort_few p (Write x a) tx why r is old = cc
abort_few p (VRead v) tx why r is old = cc
abort_few p (VWrite v a) tx why r is old = cc
abort_few p (Enter o) tx why r is old = cc
abort_few p (Exit o) tx why r is old = cc
abort_few p (Fork f a) tx why r is old = cc
abort_few p (Join u) tx why r is old = cc
abort_few p (Alloc k) tx why r is old = cc
abort_few p (Print a) tx why r is old = cc
abort_few p Input tx why r is old = cc
abort_few p TxBegin tx why r is old = cc

-- an entry that is answered names few variables
entry_few : (p : Progress) (ask : Ask) (e : Entry) (r : Reply) → reply_in p ask e ≡ Some r → AreFew p.looks p.writes → NamesFew e
entry_few p ask (Sync at act value) r is old = tt
entry_few p ask (Plain var nth cached write value raised) r is old = tt
entry_few p ask (Commit at tx) r is old = commit_few p ask tx r is old
entry_few p ask (Abort tx why) r is old = abort_few p ask tx why r is old
entry_few p ask (Trim low) r is old = tt
entry_few p ask (Ended ending) r is old = tt

-- ## Along a run

-- looks and writes stay few after an exchange that is answered
next_few : (P : Bytecode) (x : Exchange) (p q : Progress) → Told P x p q → AreFew p.looks p.writes → AreFew q.looks q.writes
next_few P x p q one old =
    subst (λ ls. AreFew ls q.writes) (sym one.looks)
    (subst (λ ws. AreFew (looks_after p (ask_of p.config.stage) one.reply) ws) (sym one.writes)
    (answer_few p (ask_of p.config.stage) x one.reply one.gives old))

-- the entries of exchanges that are told name few variables
exchanges_few : (P : Bytecode) (xs : List Exchange) (p q : Progress) → told P p xs ≡ Some q → AreFew p.looks p.writes
    → AllByRecursion NamesFew (entries_of xs)
exchanges_few P [] p q is old = tt
exchanges_few P (Made e ∷ xs) p q is old =
    let parts = told_cons P (Made e) xs p q is in
    let one = told_of P (Made e) p parts.mid parts.first in (
      entry_few p (ask_of p.config.stage) e one.reply one.gives old,
      exchanges_few P xs parts.mid q parts.rest (next_few P (Made e) p parts.mid one old),
    )
exchanges_few P (Quiet r ∷ xs) p q is old =
    let parts = told_cons P (Quiet r) xs p q is in
    let one = told_of P (Quiet r) p parts.mid parts.first in
    exchanges_few P xs parts.mid q parts.rest (next_few P (Quiet r) p parts.mid one old)

-- ## The list of a thread

-- what names few variables does so still with one entry more that does
and_over : (es : List Entry) (e : Entry) → AllByRecursion NamesFew es → NamesFew e → AllByRecursion NamesFew (es ++ e ∷ [])
and_over [] e all last = (last, tt)
and_over (d ∷ es) e all last = (all.0, and_over es e all.1 last)

-- a Trim has no transaction
and_trims : (es : List Entry) → AllByRecursion NamesFew (without_trims es) → AllByRecursion NamesFew es
and_trims [] all = tt
and_trims (Trim low ∷ es) all = (tt, and_trims es all)
and_trims (Sync at act value ∷ es) all = (all.0, and_trims es all.1)
and_trims (Commit at tx ∷ es) all = (all.0, and_trims es all.1)
and_trims (Plain var nth cached write value raised ∷ es) all = (all.0, and_trims es all.1)
and_trims (Abort tx why ∷ es) all = (all.0, and_trims es all.1)
and_trims (Ended ending ∷ es) all = (all.0, and_trims es all.1)

-- each transaction that a thread of a program ends names few variables
run_few : (P : Bytecode) (steps t : ℕ) (es : List Entry) → Runs P steps t es → AllByRecursion NamesFew es
run_few P steps t es runs =
    let made = exchanges_few P runs.along.exchanges (outset P t steps) runs.last runs.along.reached none_few in
    let all : AllByRecursion NamesFew (without_trims runs.before ++ Ended runs.ending ∷ []) = and_over (without_trims runs.before)
    (Ended runs.ending) (subst (AllByRecursion NamesFew) runs.along.made made) tt in
    and_trims es (subst (AllByRecursion NamesFew) (sym runs.whole) all)

-- ## The record

-- what holds of the list of each thread that has one holds of each list
pub lists_all : (P : Entry → Type 0) (ls : List (ℕ × List Entry)) → IsRecord ls
    → ((t : ℕ) → lists_of ls t ≢ [] → AllByRecursion P (lists_of ls t))
    → AllEntries P ls
lists_all P [] is all = tt
lists_all P (l ∷ ls) is all = (
  subst (AllByRecursion P) (first_list l ls l.0 refl)
      (all l.0 (λ none. some_entry l.1 is.1.0.1 (sym (first_list l ls l.0 refl) ∙ none))),
  lists_all P ls (is.0.1, is.1.1) behind,
) where
  behind : (t : ℕ) → lists_of ls t ≢ [] → AllByRecursion P (lists_of ls t)
  behind t some =
      let other : (l.0 ≡ t) → ⊥ = λ same. some (ap (lists_of ls) (sym same) ∙ no_list ls l.0 is.0.0) in
      let here : lists_of (l ∷ ls) t ≡ lists_of ls t = other_list l ls t other in
      subst (AllByRecursion P) here (all t (λ none. some (sym here ∙ none)))

-- each transaction of a program's run names few variables
pub run_names_few : (program : Bytecode) (inputs : List ℤ) (options : Options) (made : SealedView) → IsRunOf program inputs options made
    → AllEntries NamesFew made.entries
run_names_few program inputs options made run =
    lists_all NamesFew made.entries run.is
    (λ t some. run_few program options.steps t (lists_of made.entries t) (run.lawful.runs t some))
