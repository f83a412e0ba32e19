-- What an access and an attempt are answered, and how an attempt begins and ends.
use Rattle.std.proofs.Common.{◌≡◌, ℕ, ℤ, pos, ◌<◌, ◌==◌, nat_lt, Bool, true, false, ◌&&◌, ◌||◌, not, List, [], ◌∷◌, length, map, refl, sym, ◌∙◌, ap, arith, Option, Some, None, inl, inr, eq-eqb, is_some, rules}
use Rattle.std.specs.Prelude.{◌⊎◌, if◌then◌else◌, Contains}
use Rattle.std.specs.List.{find}
use Rattle.std.specs.Option.{option_map}
use Rattle.std.proofs.lemmas.Bool.Decides.{nat_tests}
use Rattle.std.specs.Ordering.{int_eq}
use Rattle.std.proofs.lemmas.List.{append-nil}
use Rattle.gl_model.specs.declared.limits.TheConstants.{TX_VARIABLES}
use Rattle.gl_model.specs.declared.tx.Look.{Look}
use Rattle.gl_model.specs.declared.tx.Pair.{Pair}
use Rattle.gl_model.specs.declared.tx.Tx.{Tx}
use Rattle.gl_model.specs.Entries.{Plain}
use Rattle.gl_model.specs.Rising.{with_all, with_part}
use Rattle.gl_bytecode.specs.declared.ask.Ask.{Ask}
use Rattle.gl_bytecode.specs.declared.ask.Ask.TheVariants.{Read, Write, TxBegin, TxEnd}
use Rattle.gl_bytecode.specs.declared.ask.Reply.{Reply}
use Rattle.gl_bytecode.specs.declared.ask.Reply.TheVariants.{Go as Gone, Value as Answer, Raise}
use Rattle.gl_bytecode.specs.declared.limits.TheConstants.{TX_TOO_LARGE}
use Rattle.gl_bytecode.specs.Attending.{runs_after}
use Rattle.gl_bytecode.specs.Fits.{StartsRight}
use Rattle.gl_bytecode.specs.Machine.{Attempt, Config}
use Rattle.gl_bytecode.specs.Programs.{Bytecode}
use Rattle.gl_bytecode.specs.Runs.{Made, Quiet, Progress, word_of, with_word, same_words, touched, knows, known_word, is_word, is_its_end, is_quiet, looks_after, writes_after, reply_of, without_trims}
use Rattle.gl_draws.specs.Ties.{Drawn}
use Rattle.gl_rows.specs.declared.accessing.Seen.{Seen}
use Rattle.gl_rows.specs.declared.accessing.Seen.TheVariants.{Value, Raised}
use Rattle.gl_rows.specs.Accessing.{HasEntry, is_raised, value_told}
use Rattle.gl_rule.specs.Lives.{Life, Running, life_after, life_of}
use Rattle.gl_table.specs.PassView.{Own}
use Rattle.gl_table.specs.RightOf.{right_of}
use Rattle.gl_txn.specs.declared.stops.TxEnd.{TxEnd as HowEnded}
use Rattle.gl_txn.specs.declared.stops.TxEnd.TheVariants.{Done, Raised as WasRaised, Changed}
use Rattle.gl_txn.specs.Attempts.{Attempting, IsTooLarge, is_in, is_in_by, looked, nothing, size, with_write, written}
use Rattle.gl_txn.specs.Ending.{HasEnded, IsEndOf, entry_of}
use Rattle.gl_txn.specs.Reading.{IsRead, ReadBy}
use Rattle.gl_txn.specs.Trying.{Draws}
use Rattle.gl_vm.specs.Asking.{levels_told}
use Rattle.gl_riders.specs.Exchanges.{IsAnswered, IsRightly, LeavesRightly, life_told, suits}
use Rattle.gl_rule.specs.Levels.{levels_entry, levels_of}
use Rattle.gl_riders.specs.Owing.{PlainBy, repeat_number, repeated}
use Rattle.gl_riders.specs.Riding.{DrawsFor, looks_of, writes_of, progress_of}
use Rattle.gl_riders.specs.Sparing.{allows}
use Rattle.gl_riders.specs.Tries.{access_ask, access_reply, end_reply}
use Rattle.gl_riders.proofs.Lists.{levels_push, life_push}

-- a whole number is the same as itself
same_int : (v : ℤ) → int_eq v v ≡ true
same_int v = search rules

-- a number is the same as itself
same_nat : (n : ℕ) → (n == n) ≡ true
same_nat n = eq-eqb n n refl

-- ## Plain accesses

-- where there is a number for a repeat, the right allows it
numbered : (r : Option (ℕ × Bool)) (write : Option ℤ) (n : ℕ) → repeat_number r write ≡ Some n → true ≡ allows r (is_some write)
numbered None write n is = cc
numbered (Some r) None n is = refl
numbered (Some (k, true)) (Some a) n is = refl
numbered (Some (k, false)) (Some a) n is = cc

-- where no number is found for a repeat, the right does not allow it
unnumbered : (r : Option (ℕ × Bool)) (write : Option ℤ) → repeat_number r write ≡ None → false ≡ allows r (is_some write)
unnumbered None write is = refl
unnumbered (Some r) None is = cc
unnumbered (Some (k, true)) (Some a) is = cc
unnumbered (Some (k, false)) (Some a) is = refl

-- a plain access outside an attempt that has its entry is answered by what was seen
pub access_answers :
    (P : Bytecode) (c : Config) (x : ℕ) (write : Option ℤ) (s : Seen) (own new : Own) → c.attempt ≡ None → life_of own.mine ≡ Running →
    own.drawn ≡ [] → repeat_number (right_of own.mine x) write ≡ None → HasEntry x write own s new
    → IsAnswered P c (access_ask x write) (access_reply write s) own new None None
access_answers P c x None (Value a) own new none runs drawn first is = rw is.own (record {
  exchange = Made (Plain x is.number false false a false);
  gives = rw (none, same_nat x) refl;
  kept = refl;
  fitting = refl;
  leaves = tt;
  starts = tt;
  mine = refl;
  rest = refl;
  repeats = unnumbered (right_of own.mine x) None first;
  looks = rw none refl;
  writes = refl;
  running = refl;
  life = life_push own.mine (Plain x is.number false false a false) ∙ rw runs refl;
  levels = levels_push own.mine (Plain x is.number false false a false);
  drawn = drawn;
})
access_answers P c x None (Raised k) own new none runs drawn first is = rw is.own (record {
  exchange = Made (Plain x is.number false false (pos 0) true);
  gives = rw (none, same_nat x) refl;
  kept = refl;
  fitting = rw none refl;
  leaves = tt;
  starts = tt;
  mine = refl;
  rest = refl;
  repeats = unnumbered (right_of own.mine x) None first;
  looks = refl;
  writes = refl;
  running = refl;
  life = life_push own.mine (Plain x is.number false false (pos 0) true) ∙ rw runs refl;
  levels = levels_push own.mine (Plain x is.number false false (pos 0) true);
  drawn = drawn;
})
access_answers P c x (Some b) (Value a) own new none runs drawn first is = rw is.own (record {
  exchange = Made (Plain x is.number false true b false);
  gives = rw (none, same_nat x, same_int b) refl;
  kept = refl;
  fitting = refl;
  leaves = tt;
  starts = tt;
  mine = refl;
  rest = refl;
  repeats = unnumbered (right_of own.mine x) (Some b) first;
  looks = refl;
  writes = rw none refl;
  running = refl;
  life = life_push own.mine (Plain x is.number false true b false) ∙ rw runs refl;
  levels = levels_push own.mine (Plain x is.number false true b false);
  drawn = drawn;
})
access_answers P c x (Some b) (Raised k) own new none runs drawn first is = rw is.own (record {
  exchange = Made (Plain x is.number false true b true);
  gives = rw (none, same_nat x, same_int b) refl;
  kept = refl;
  fitting = rw none refl;
  leaves = tt;
  starts = tt;
  mine = refl;
  rest = refl;
  repeats = unnumbered (right_of own.mine x) (Some b) first;
  looks = refl;
  writes = refl;
  running = refl;
  life = life_push own.mine (Plain x is.number false true b true) ∙ rw runs refl;
  levels = levels_push own.mine (Plain x is.number false true b true);
  drawn = drawn;
})

-- a repeat outside an attempt, by a number that the list gives, is answered by what was seen
pub repeat_answers :
    (P : Bytecode) (c : Config) (x nth : ℕ) (write : Option ℤ) (s : Seen) (own new : Own) → c.attempt ≡ None → life_of own.mine ≡ Running →
    own.drawn ≡ [] → repeat_number (right_of own.mine x) write ≡ Some nth → is_raised s ≡ false → new
    ≡ repeated x nth (is_some write) (value_told write s) own →
    IsAnswered P c (access_ask x write) (access_reply write s) own new None None
repeat_answers P c x nth None (Value a) own new none runs drawn again calm is = rw is (record {
  exchange = Made (Plain x nth true false a false);
  gives = rw (none, same_nat x) refl;
  kept = refl;
  fitting = refl;
  leaves = tt;
  starts = tt;
  mine = refl;
  rest = refl;
  repeats = numbered (right_of own.mine x) None nth again;
  looks = rw none refl;
  writes = refl;
  running = refl;
  life = life_push own.mine (Plain x nth true false a false) ∙ rw runs refl;
  levels = levels_push own.mine (Plain x nth true false a false);
  drawn = drawn;
})
repeat_answers P c x nth (Some b) (Value a) own new none runs drawn again calm is = rw is (record {
  exchange = Made (Plain x nth true true b false);
  gives = rw (none, same_nat x, same_int b) refl;
  kept = refl;
  fitting = refl;
  leaves = tt;
  starts = tt;
  mine = refl;
  rest = refl;
  repeats = numbered (right_of own.mine x) (Some b) nth again;
  looks = refl;
  writes = rw none refl;
  running = refl;
  life = life_push own.mine (Plain x nth true true b false) ∙ rw runs refl;
  levels = levels_push own.mine (Plain x nth true true b false);
  drawn = drawn;
})
repeat_answers P c x nth None (Raised k) own new none runs drawn again calm is = cc
repeat_answers P c x nth (Some b) (Raised k) own new none runs drawn again calm is = cc

-- a plain access outside an attempt, whether it is a repeat or not, is answered by what was seen
pub plain_answers :
    (P : Bytecode) (c : Config) (x : ℕ) (write : Option ℤ) (s : Seen) (own new : Own) → c.attempt ≡ None → life_of own.mine ≡ Running
    → own.drawn ≡ [] →
    PlainBy (repeat_number (right_of own.mine x) write) x write s own new
    → IsAnswered P c (access_ask x write) (access_reply write s) own new None None
plain_answers P c x write s own new none runs drawn by = by_number (repeat_number (right_of own.mine x) write) refl by where
  by_number : (o : Option ℕ) → repeat_number (right_of own.mine x) write ≡ o → PlainBy o x write s own new
      → IsAnswered P c (access_ask x write) (access_reply write s) own new None None
  by_number None first is = access_answers P c x write s own new none runs drawn first is
  by_number (Some n) again is = repeat_answers P c x n write s own new none runs drawn again is.1 is.0

-- ## Words of an attempt

-- the variable and the value of a look
abbrev look_pair : Look → ℕ × ℤ
look_pair l = (l.var, l.value)

-- the variable and the value of a write
abbrev write_pair : Pair → ℕ × ℤ
write_pair w = (w.var, w.value)

-- the word of x among the writes is the value of the write on x
word_written : (ws : List Pair) (x : ℕ) → word_of (map write_pair ws) x ≡ option_map (λ w. w.value) (find (λ p. p.var == x) ws)
word_written [] x = refl
word_written (w ∷ ws) x = by_test (w.var == x) (word_written ws x) where
  by_test :
      (b : Bool) → word_of (map write_pair ws) x ≡ option_map (λ w. w.value) (find (λ p. p.var == x) ws) →
      (if b then Some w.value else word_of (map write_pair ws) x)
      ≡ option_map (λ w. w.value) (if b then Some w else find (λ p. p.var == x) ws)
  by_test true more = refl
  by_test false more = more

-- the word of x among the looks is the value of the look on x
word_looked : (ls : List Look) (x : ℕ) → word_of (map look_pair ls) x ≡ option_map (λ l. l.value) (find (λ p. p.var == x) ls)
word_looked [] x = refl
word_looked (l ∷ ls) x = by_test (l.var == x) (word_looked ls x) where
  by_test :
      (b : Bool) → word_of (map look_pair ls) x ≡ option_map (λ l. l.value) (find (λ p. p.var == x) ls) →
      (if b then Some l.value else word_of (map look_pair ls) x)
      ≡ option_map (λ l. l.value) (if b then Some l else find (λ p. p.var == x) ls)
  by_test true more = refl
  by_test false more = more

-- the variables of the pairs are those of the writes
vars_written : (ws : List Pair) → map (λ w. w.0) (map write_pair ws) ≡ map (λ w. w.var) ws
vars_written [] = refl
vars_written (w ∷ ws) = ap (λ xs. w.var ∷ xs) (vars_written ws)

-- the variables of the pairs are those of the looks
vars_looked : (ls : List Look) → map (λ w. w.0) (map look_pair ls) ≡ map (λ l. l.var) ls
vars_looked [] = refl
vars_looked (l ∷ ls) = ap (λ xs. l.var ∷ xs) (vars_looked ls)

-- the machine has touched as many variables as the attempt has
touches : (c : Config) (a : Attempting) → touched (progress_of c (Some a)) ≡ size a
touches c a = λ i. length (with_all (vars_written a.writes i) (vars_looked a.looks i))

-- whether two numbers are the same does not depend on their order
turned : (x y : ℕ) → (x == y) ≡ (y == x)
turned x y = by_tests (x == y) (y == x) refl refl where
  by_tests : (b d : Bool) → (x == y) ≡ b → (y == x) ≡ d → b ≡ d
  by_tests true true p q = refl
  by_tests false false p q = refl
  by_tests true false p q = absurd (let e : x ≡ y = grind (arith, nat_tests) in let f : (y == x) ≡ true = eq-eqb y x (sym e) in cc)
  by_tests false true p q = absurd (let e : y ≡ x = grind (arith, nat_tests) in let f : (x == y) ≡ true = eq-eqb x y (sym e) in cc)

-- putting a look among the looks is putting its word among their words
put_looked : (x : ℕ) (value : ℤ) (nth : ℕ) (ls : List Look)
    → map look_pair (with_part (λ p. p.var) (record { var = x; value = value; nth = nth }) ls) ≡ with_word x value (map look_pair ls)
put_looked x value nth [] = refl
put_looked x value nth (l ∷ ls) = rw (turned x l.var) (by_tests (l.var == x) (nat_lt x l.var) (put_looked x value nth ls)) where
  by_tests :
      (b d : Bool) → map look_pair (with_part (λ p. p.var) (record { var = x; value = value; nth = nth }) ls)
      ≡ with_word x value (map look_pair ls) →
      map look_pair (if b then (record { var = x; value = value; nth = nth }) ∷ ls else if d
      then (record { var = x; value = value; nth = nth }) ∷ (l ∷ ls) else l
      ∷ with_part (λ p. p.var) (record { var = x; value = value; nth = nth }) ls)
      ≡ (if b then (x, value) ∷ map look_pair ls else if d then (x, value) ∷ look_pair l ∷ map look_pair ls else look_pair l
      ∷ with_word x value (map look_pair ls))
  by_tests true d more = refl
  by_tests false true more = refl
  by_tests false false more = ap (λ ws. look_pair l ∷ ws) more

-- putting a write among the writes is putting its word among their words
put_written : (x : ℕ) (value : ℤ) (ws : List Pair) → map write_pair (with_part (λ p. p.var) (record { var = x; value = value }) ws)
    ≡ with_word x value (map write_pair ws)
put_written x value [] = refl
put_written x value (w ∷ ws) = rw (turned x w.var) (by_tests (w.var == x) (nat_lt x w.var) (put_written x value ws)) where
  by_tests :
      (b d : Bool) → map write_pair (with_part (λ p. p.var) (record { var = x; value = value }) ws)
      ≡ with_word x value (map write_pair ws) →
      map write_pair (if b then (record { var = x; value = value }) ∷ ws else if d then (record { var = x; value = value }) ∷ (w ∷ ws)
      else w ∷ with_part (λ p. p.var) (record { var = x; value = value }) ws)
      ≡ (if b then (x, value) ∷ map write_pair ws else if d then (x, value) ∷ write_pair w ∷ map write_pair ws else write_pair w
      ∷ with_word x value (map write_pair ws))
  by_tests true d more = refl
  by_tests false true more = refl
  by_tests false false more = ap (λ us. write_pair w ∷ us) more

-- words are the same as themselves
same_words_itself : (ws : List (ℕ × ℤ)) → same_words ws ws ≡ true
same_words_itself [] = refl
same_words_itself (w ∷ ws) = rw (same_nat w.0, same_int w.1, same_words_itself ws) refl

-- ## Replies that leave no entry

-- an answer without an entry answers rightly, if looks, writes, attempt, life and levels are as it tells
quiet_answers :
    (P : Bytecode) (c : Config) (ask : Ask) (reply : Reply) (own new : Own) (txn after : Option Attempting) → new
    ≡ record own { drawn = new.drawn } →
    is_quiet c.attempt (progress_of c txn) ask reply ≡ true → suits c.attempt ask reply ≡ true → LeavesRightly c ask reply
    → StartsRight P reply →
    looks_of after ≡ looks_after (progress_of c txn) ask reply → writes_of after ≡ writes_after (progress_of c txn) ask reply →
    is_some after ≡ runs_after ask (is_some txn) → ((l : Life) → l ≡ life_told ask l)
    → ((levels : List ℕ) → levels ≡ levels_told ask reply levels) →
    DrawsFor after new → IsAnswered P c ask reply own new txn after
quiet_answers P c ask reply own new txn after rest quiet fits leaves starts looks writes running life levels draws =
    let mine : new.mine ≡ own.mine = ap (λ (v : Own). v.mine) rest in
    record {
      exchange = Quiet reply;
      gives = rw quiet refl;
      kept = refl;
      fitting = fits;
      leaves = leaves;
      starts = starts;
      mine = mine ∙ sym (append-nil own.mine);
      rest = rest ∙ (λ i. record own { mine = sym mine i; drawn = new.drawn; owed = ap (λ (v : Own). v.owed) (sym rest) i });
      repeats = tt;
      looks = looks;
      writes = writes;
      running = running;
      life = ap life_of mine ∙ life (life_of own.mine);
      levels = ap levels_of mine ∙ levels (levels_of own.mine);
      drawn = draws;
    }

-- nothing is in an empty list
none_in : {A : Type 0} (xs : List A) (x : A) → xs ≡ [] → Contains xs x → ⊥
none_in {A} xs x none there = (let none' : Contains {X = A} [] x = rw none at there in let less = none'.1 in omega arith)

-- a pass that has drawn nothing has the draws of an attempt that did nothing
draws_nothing : (o : Own) → o.drawn ≡ [] → Draws nothing o
draws_nothing o none = record {
  looks = λ y k value. (
    (λ there. absurd (none_in o.drawn (record { var = y; nth = k; look = Some value }) none there)),
    (λ there. absurd (none_in [] (record { var = y; value = value; nth = k }) refl there)),
  );
  ends = λ y k there. none_in o.drawn (record { var = y; nth = k; look = None }) none there;
  each = λ y. rw none (omega arith);
}

-- an attempt that begins with nothing is answered rightly
pub begin_answers :
    (P : Bytecode) (c : Config) (own new : Own) (a : Attempting) → c.attempt ≡ None → own.drawn ≡ [] → new ≡ own → a ≡ nothing →
    IsAnswered P c TxBegin Gone own new None (Some a)
begin_answers P c own new a none drawn same is =
    rw is (quiet_answers P c TxBegin Gone own new None (Some nothing) (rw same refl) (rw none refl) refl tt tt refl refl refl
    (λ l. refl) (λ ls. refl) (draws_nothing new (rw same drawn)))

-- the machine knows a variable in the attempt exactly where the attempt has it
knows_in : (c : Config) (a : Attempting) (x : ℕ) → knows (progress_of c (Some a)) x ≡ is_in a x
knows_in c a x = rw (word_written a.writes x, word_looked a.looks x) (by_words (written a x) (looked a x)) where
  by_words : (w : Option Pair) (l : Option Look)
      → (is_some (option_map (λ (v : Pair). v.value) w) || is_some (option_map (λ (v : Look). v.value) l)) ≡ is_in_by w l
  by_words (Some w) l = refl
  by_words None (Some l) = refl
  by_words None None = refl

-- a pass in which only the draws changed is the old one with the new draws
drawn_rest : (own new : Own) (ds : List Drawn) → new ≡ record own { drawn = ds } → new ≡ record own { drawn = new.drawn }
drawn_rest own new ds is = rw is refl

module _ (P : Bytecode) (c : Config) (att : Attempt) (runs : c.attempt ≡ Some att) (a : Attempting) (x : ℕ) where
  abbrev p : Progress
  p = progress_of c (Some a)

  -- a read of a variable that the attempt knows adds no look
  no_look : knows p x ≡ true → (value : ℤ) → p.looks ≡ looks_after p (Read x) (Answer value)
  no_look known value = rw (runs, known) refl

  -- what was read of x in the attempt is what the read is answered
  pub read_answers : (value : ℤ) (own new : Own) (b : Attempting) → DrawsFor (Some a) own → IsRead x value a own b new
      → IsAnswered P c (Read x) (Answer value) own new (Some a) (Some b)
  read_answers value own new b draws read = by_words (written a x) (looked a x) refl refl read where
    known_answers :
        knows p x ≡ true → is_word (known_word (word_of p.writes x) (word_of p.looks x)) (nat_lt (touched p) TX_VARIABLES) value ≡ true → b
        ≡ a →
        new ≡ own → IsAnswered P c (Read x) (Answer value) own new (Some a) (Some b)
    known_answers known word same_b same_new =
        rw same_b
        (quiet_answers P c (Read x) (Answer value) own new (Some a) (Some a) (rw same_new refl) (rw runs word) refl tt tt
        (no_look known value) refl refl
        (λ l. refl) (λ ls. refl) (rw same_new draws))

    -- whether the attempt wrote the variable, looked at it or did neither, its read is answered so
    by_words : (w : Option Pair) (l : Option Look) → written a x ≡ w → looked a x ≡ l → ReadBy w l x value a own b new
        → IsAnswered P c (Read x) (Answer value) own new (Some a) (Some b)
    by_words (Some w) l is_w is_l r =
        known_answers (knows_in c a x ∙ rw is_w refl) (rw (word_written a.writes x, is_w, r.0) (same_int w.value)) r.1 r.2
    by_words None (Some l) is_w is_l r =
        known_answers (knows_in c a x ∙ rw (is_w, is_l) refl)
        (rw (word_written a.writes x, is_w, word_looked a.looks x, is_l, r.0) (same_int l.value)) r.1 r.2
    by_words None None is_w is_l r =
        let nth = r.0 in
        let room : nat_lt (touched p) TX_VARIABLES ≡ true = rw (touches c a) (search (rules, r.4)) in
        let new_one : knows p x ≡ false = knows_in c a x ∙ rw (is_w, is_l) refl in
        let looks' : looks_of (Some b) ≡ looks_after p (Read x) (Answer value) = rw (runs, new_one, r.1) (put_looked x value nth a.looks) in
        let writes' : writes_of (Some b) ≡ writes_after p (Read x) (Answer value) = rw r.1 refl in
        quiet_answers P c (Read x) (Answer value) own new (Some a) (Some b) (drawn_rest own new _ r.3)
        (rw (runs, word_written a.writes x, is_w, word_looked a.looks x, is_l) room) refl tt tt looks' writes' refl (λ l. refl)
        (λ ls. refl) r.2

  pub write_answers :
      (value : ℤ) (own new : Own) (b : Attempting) → DrawsFor (Some a) own → new ≡ own → b ≡ with_write x value a →
      (is_in a x ≡ true) ⊎ (size a < TX_VARIABLES) → IsAnswered P c (Write x value) Gone own new (Some a) (Some b)
  write_answers value own new b draws same_new is room =
      let quiet : (knows p x || nat_lt (touched p) TX_VARIABLES)
      ≡ true = rw (knows_in c a x, touches c a) (by_room (is_in a x) (size a) room) in
      let looks' : looks_of (Some b) ≡ looks_after p (Write x value) Gone = rw is refl in
      let writes' : writes_of (Some b) ≡ writes_after p (Write x value) Gone = rw (is, runs) (put_written x value a.writes) in
      quiet_answers P c (Write x value) Gone own new (Some a) (Some b) (rw same_new refl) (rw runs quiet) refl tt tt looks' writes' refl
      (λ l. refl) (λ ls. refl)
      (rw (is, same_new) (record { looks = draws.looks; ends = draws.ends; each = draws.each }))
    where
      by_room : (k : Bool) (n : ℕ) → (k ≡ true) ⊎ (n < TX_VARIABLES) → (k || nat_lt n TX_VARIABLES) ≡ true
      by_room true n room' = refl
      by_room false n (inl is') = cc
      by_room false n (inr less) = search (rules, less)

  pub large_answers :
      (write : Option ℤ) (own new : Own) → DrawsFor (Some a) own → new ≡ own → IsTooLarge a x →
      IsAnswered P c (access_ask x write) (Raise TX_TOO_LARGE) own new (Some a) (Some a)
  large_answers write own new draws same_new large = by_write write where
    -- the attempt does not know the variable, and touches as many as it may
    quiet : (not (knows p x) && touched p == TX_VARIABLES && TX_TOO_LARGE == TX_TOO_LARGE) ≡ true
    quiet = rw (knows_in c a x, touches c a, large.new, large.full) refl

    -- a read or a write of such a variable is answered by raising that the transaction is too large
    by_write : (w : Option ℤ) → IsAnswered P c (access_ask x w) (Raise TX_TOO_LARGE) own new (Some a) (Some a)
    by_write None =
        quiet_answers P c (Read x) (Raise TX_TOO_LARGE) own new (Some a) (Some a) (rw same_new refl) (rw runs quiet) (rw runs refl) tt tt
        refl refl refl
        (λ l. refl) (λ ls. refl) (rw same_new draws)
    by_write (Some b) =
        quiet_answers P c (Write x b) (Raise TX_TOO_LARGE) own new (Some a) (Some a) (rw same_new refl) (rw runs quiet) (rw runs refl) tt
        tt refl refl refl
        (λ l. refl) (λ ls. refl) (rw same_new draws)

-- ## The end of an attempt

-- a transaction that is the attempt's end is recognised as its end
is_its : (c : Config) (a : Attempting) (keep : Bool) (tx : Tx) → IsEndOf a keep tx → is_its_end (progress_of c (Some a)) keep tx ≡ true
is_its c a true tx end = rw (end.looks, end.writes, same_words_itself (map look_pair a.looks), same_words_itself (map write_pair a.writes))
    refl
is_its c a false tx end = rw (end.looks, end.writes, same_words_itself (map look_pair a.looks)) refl

-- the entry of an attempt's end gives the reply of how it ended
end_gives : (c : Config) (a : Attempting) (keep : Bool) (e : HowEnded) (tx : Tx) → IsEndOf a keep tx
    → reply_of (progress_of c (Some a)) (TxEnd keep) (Made (entry_of e tx)) ≡ Some (end_reply e)
end_gives c a keep (Done at) tx end = rw (is_its c a keep tx end) refl
end_gives c a keep (WasRaised var) tx end = rw (is_its c a keep tx end) refl
end_gives c a keep (Changed var read found) tx end = rw (is_its c a keep tx end) refl

-- the entry of an attempt's end leaves a running thread's life
end_lives : (l : Life) (e : HowEnded) (tx : Tx) → l ≡ Running → life_after l (entry_of e tx) ≡ l
end_lives l (Done at) tx runs = rw runs refl
end_lives l (WasRaised var) tx runs = rw runs refl
end_lives l (Changed var read found) tx runs = rw runs refl

-- the entry of an attempt's end changes the levels as the reply tells
end_levels : (levels : List ℕ) (keep : Bool) (e : HowEnded) (tx : Tx) → levels_entry levels (entry_of e tx)
    ≡ levels_told (TxEnd keep) (end_reply e) levels
end_levels levels keep (Done at) tx = refl
end_levels levels keep (WasRaised var) tx = refl
end_levels levels keep (Changed var read found) tx = refl

-- the entry of an attempt's end is no trim and is kept
end_kept : (e : HowEnded) (tx : Tx) → without_trims (entry_of e tx ∷ []) ≡ entry_of e tx ∷ []
end_kept (Done at) tx = refl
end_kept (WasRaised var) tx = refl
end_kept (Changed var read found) tx = refl

-- the reply of an attempt's end suits the question whether to commit
end_suits : (o : Option Attempt) (keep : Bool) (e : HowEnded) → suits o (TxEnd keep) (end_reply e) ≡ true
end_suits o keep (Done at) = refl
end_suits o keep (WasRaised var) = refl
end_suits o keep (Changed var read found) = refl

-- the reply of an attempt's end starts no thread
end_starts : (P : Bytecode) (e : HowEnded) → StartsRight P (end_reply e)
end_starts P (Done at) = tt
end_starts P (WasRaised var) = tt
end_starts P (Changed var read found) = tt

-- the entry of an attempt's end is no access, and so right about repeats
end_repeats : (e : HowEnded) (tx : Tx) (own : Own) → IsRightly (entry_of e tx) own
end_repeats (Done at) tx own = tt
end_repeats (WasRaised var) tx own = tt
end_repeats (Changed var read found) tx own = tt

-- the end of an attempt of a running thread is answered rightly
pub end_answers :
    (P : Bytecode) (c : Config) (a : Attempting) (keep : Bool) (e : HowEnded) (own new : Own) → life_of own.mine ≡ Running
    → HasEnded a keep e own new →
    IsAnswered P c (TxEnd keep) (end_reply e) own new (Some a) None
end_answers P c a keep e own new runs end = rw end.own (record {
  exchange = Made (entry_of e end.tx);
  gives = end_gives c a keep e end.tx end.whole;
  kept = end_kept e end.tx;
  fitting = end_suits c.attempt keep e;
  leaves = tt;
  starts = end_starts P e;
  mine = refl;
  rest = refl;
  repeats = end_repeats e end.tx own;
  looks = refl;
  writes = refl;
  running = refl;
  life = life_push own.mine (entry_of e end.tx) ∙ end_lives (life_of own.mine) e end.tx runs;
  levels = levels_push own.mine (entry_of e end.tx) ∙ end_levels (levels_of own.mine) keep e end.tx;
  drawn = refl;
})
