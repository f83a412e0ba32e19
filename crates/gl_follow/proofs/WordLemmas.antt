-- The words of an attempt as lists of pairs.
use Rattle.std.proofs.Common.{◌≡◌, ℕ, ℤ, zero, suc, ◌==◌, ◌&&◌, ◌||◌, ◌<◌, ◌≤◌, Bool, true, false, List, [], ◌∷◌, length, map, drop, refl, sym, ap, ◌∙◌, subst, arith, Option, Some, None, inl, inr, eq-eqb, nat_lt, is_none, is_some}
use Rattle.std.specs.Prelude.{Contains, if◌then◌else◌, ◌⊎◌, slice_get}
use Rattle.std.specs.List.{find}
use Rattle.std.specs.Option.{option_map}
use Rattle.std.specs.Ordering.{int_eq}
use Rattle.std.proofs.lemmas.Bool.{cases_Bool, eqb-true}
use Rattle.gl_model.specs.declared.limits.TheConstants.{TX_VARIABLES}
use Rattle.gl_model.specs.declared.tx.Look.{Look}
use Rattle.gl_model.specs.declared.tx.Pair.{Pair}
use Rattle.gl_model.specs.declared.tx.Tx.{Tx}
use Rattle.gl_model.specs.Kept.{AreVariables}
use Rattle.gl_model.specs.Rising.{with_all, with_one, with_part}
use Rattle.gl_bytecode.specs.Runs.{Progress, is_its_end, known_word, same_words, with_word, word_of}
use Rattle.gl_follow.specs.Words.{Touched, look_word, pair_var, pair_word, size_of}
use Rattle.gl_model.proofs.PutParts.{all_grow, all_left, all_one, all_right, in_next, keys_with, one_all, one_fits}

-- the word of a variable among pairs is the value of the first pair that has it, if there is one
pub word_pairs : (ws : List Pair) (x : ℕ) → word_of (map pair_word ws) x ≡ option_map (λ w. w.value) (find (λ p. p.var == x) ws)
word_pairs [] x = refl
word_pairs (w ∷ ws) x = by_test (w.var == x) (word_pairs ws x) where
  by_test :
      (b : Bool) → word_of (map pair_word ws) x ≡ option_map (λ w. w.value) (find (λ p. p.var == x) ws) →
      (if b then Some w.value else word_of (map pair_word ws) x)
      ≡ option_map (λ w. w.value) (if b then Some w else find (λ p. p.var == x) ws)
  by_test true more = refl
  by_test false more = more

-- the word of a variable among looks is the value of the first look at it, if there is one
pub word_looks : (ls : List Look) (x : ℕ) → word_of (map look_word ls) x ≡ option_map (λ l. l.value) (find (λ p. p.var == x) ls)
word_looks [] x = refl
word_looks (l ∷ ls) x = by_test (l.var == x) (word_looks ls x) where
  by_test :
      (b : Bool) → word_of (map look_word ls) x ≡ option_map (λ l. l.value) (find (λ p. p.var == x) ls) →
      (if b then Some l.value else word_of (map look_word ls) x)
      ≡ option_map (λ l. l.value) (if b then Some l else find (λ p. p.var == x) ls)
  by_test true more = refl
  by_test false more = more

-- the variables of words are the variables of their pairs
vars_pairs : (ws : List Pair) → map (λ w. w.0) (map pair_word ws) ≡ map pair_var ws
vars_pairs [] = refl
vars_pairs (w ∷ ws) = ap (λ xs. w.var ∷ xs) (vars_pairs ws)

-- a number equals another exactly where that one equals it
turned : (x y : ℕ) → (x == y) ≡ (y == x)
turned x y = by_tests (x == y) (y == x) refl refl where
  by_tests : (b d : Bool) → (x == y) ≡ b → (y == x) ≡ d → b ≡ d
  by_tests true true p q = refl
  by_tests false false p q = refl
  by_tests true false p q = absurd (let e : x ≡ y = eqb-true x y p in let f : (y == x) ≡ true = eq-eqb y x (sym e) in cc)
  by_tests false true p q = absurd (let e : y ≡ x = eqb-true y x q in let f : (x == y) ≡ true = eq-eqb x y (sym e) in cc)

-- a pair that is put among pairs is a word that is put among their words
pub put_pairs : (x : ℕ) (a : ℤ) (ws : List Pair) → map pair_word (with_part (λ p. p.var) (record { var = x; value = a }) ws)
    ≡ with_word x a (map pair_word ws)
put_pairs x a [] = refl
put_pairs x a (w ∷ ws) = rw (turned x w.var) (by_tests (w.var == x) (nat_lt x w.var) (put_pairs x a ws)) where
  by_tests :
      (b d : Bool) → map pair_word (with_part (λ p. p.var) (record { var = x; value = a }) ws) ≡ with_word x a (map pair_word ws) →
      map pair_word (if b then (record { var = x; value = a }) ∷ ws else if d then (record { var = x; value = a }) ∷ (w ∷ ws) else w
      ∷ with_part (λ p. p.var) (record { var = x; value = a }) ws)
      ≡ (if b then (x, a) ∷ map pair_word ws else if d then (x, a) ∷ pair_word w ∷ map pair_word ws else pair_word w
      ∷ with_word x a (map pair_word ws))
  by_tests true d more = refl
  by_tests false true more = refl
  by_tests false false more = ap (λ us. pair_word w ∷ us) more

-- the variables of both
abbrev pub vars_of : List Pair → List Pair → List ℕ
vars_of looks writes = with_all (map pair_var writes) (map pair_var looks)

-- what an attempt touched, by the pairs of its looks and writes
abbrev pub touched_by : List Pair → List Pair → Touched
touched_by looks writes = record { looks = map pair_word looks; writes = map pair_word writes }

-- an attempt has touched as many variables as are among its looks and writes
pub size_is : (looks writes : List Pair) → size_of (touched_by looks writes) ≡ length (vars_of looks writes)
size_is looks writes = λ i. length (with_all (vars_pairs writes i) (vars_pairs looks i))

-- an attempt has touched as many variables as the list of them is long
pub size_all : (looks writes : List Pair) (all : List ℕ) → all ≡ vars_of looks writes → size_of (touched_by looks writes) ≡ length all
size_all looks writes all is = size_is looks writes ∙ ap length (sym is)

-- a variable that has a word has a pair
word_among : (ws : List Pair) (x : ℕ) → is_some (word_of (map pair_word ws) x) ≡ true → Contains (map pair_var ws) x
word_among [] x is = absurd (cc)
word_among (w ∷ ws) x is = elim (cases_Bool (w.var == x)) [
  | inl same ↦ (0, omega arith, eqb-true w.var x same)
  | inr other ↦ in_next w.var (map pair_var ws) x (word_among ws x (rw other at is))
]

-- where one of two holds, the first does or the second
either : (a b : Bool) → (a || b) ≡ true → (a ≡ true) ⊎ (b ≡ true)
either true b is = inl refl
either false b is = inr is

-- a variable that is written or looked at is among the variables touched
known_among :
    (looks writes : List Pair) (x : ℕ) → (is_some (word_of (map pair_word writes) x) || is_some (word_of (map pair_word looks) x)) ≡ true →
    Contains (vars_of looks writes) x
known_among looks writes x is = elim (either _ _ is) [
  | inl w ↦ all_left (map pair_var writes) (map pair_var looks) x (word_among writes x w)
  | inr l ↦ all_right (map pair_var writes) (map pair_var looks) x (word_among looks x l)
]

-- where fewer variables are touched than may be, the list of them is not as long as it may be
pub look_enters : (looks writes : List Pair) (all : List ℕ) → all ≡ vars_of looks writes → size_of (touched_by looks writes) < TX_VARIABLES
    → length all ≡ TX_VARIABLES → ⊥
look_enters looks writes all is room full = (let e = size_all looks writes all is in omega arith)

-- where fewer variables are touched than may be, the looks are not as many as may be
pub look_fits : (looks writes : List Pair) → size_of (touched_by looks writes) < TX_VARIABLES → length looks ≡ TX_VARIABLES → ⊥
look_fits looks writes room full =
    let e = size_is looks writes in
    let grows = all_grow (map pair_var writes) (map pair_var looks) in
    let long = length_map looks in
    omega arith where
      length_map : (ws : List Pair) → length (map pair_var ws) ≡ length ws
      length_map [] = refl
      length_map (w ∷ ws) = ap suc (length_map ws)

-- a look at a variable puts it among the variables touched
pub look_more : (x : ℕ) (a : ℤ) (looks writes : List Pair) (all : List ℕ) → all ≡ vars_of looks writes → with_one x all
    ≡ vars_of (with_part pair_var (record { var = x; value = a }) looks) writes
look_more x a looks writes all is =
    ap (with_one x) is ∙ sym (ap (with_all (map pair_var writes)) (keys_with pair_var (record { var = x; value = a }) looks)
    ∙ all_one (map pair_var writes) x (map pair_var looks))

-- a write of a variable puts it among the variables touched
pub write_more : (x : ℕ) (a : ℤ) (looks writes : List Pair) (all : List ℕ) → all ≡ vars_of looks writes → with_one x all
    ≡ vars_of looks (with_part pair_var (record { var = x; value = a }) writes)
write_more x a looks writes all is =
    ap (with_one x) is ∙ sym (ap (λ l. with_all l (map pair_var looks)) (keys_with pair_var (record { var = x; value = a }) writes)
    ∙ one_all x (map pair_var writes) (map pair_var looks))

-- where a write is of a known word or has room, and as many variables are touched as may be, its own is among them
pub write_enters :
    (x : ℕ) (looks writes : List Pair) (all : List ℕ) → all ≡ vars_of looks writes →
    ((is_some (word_of (map pair_word writes) x) || is_some (word_of (map pair_word looks) x)) || nat_lt
    (size_of (touched_by looks writes)) TX_VARIABLES) ≡ true →
    length all ≡ TX_VARIABLES → (Contains all x → ⊥) → ⊥
write_enters x looks writes all is room full out = elim (either _ _ room) [
  | inl known ↦ out (subst (λ l. Contains l x) (sym is) (known_among looks writes x known))
  | inr less ↦ (let e = size_all looks writes all is in let same : size_of (touched_by looks writes) ≡ TX_VARIABLES = e ∙ full in
      let no : nat_lt (size_of (touched_by looks writes)) TX_VARIABLES ≡ false = rw same refl in cc)
]

-- where the variables touched are no more than may be with one that is not written yet, fewer are written than may be
pub write_fits :
    (x : ℕ) (looks writes : List Pair) (all : List ℕ) → all ≡ with_one x (vars_of looks writes) → AreVariables (map pair_var looks)
    → AreVariables (map pair_var writes) →
    length all ≤ TX_VARIABLES → length writes ≡ TX_VARIABLES → (Contains (map pair_var writes) x → ⊥) → ⊥
write_fits x looks writes all is are also few full out =
    one_fits x TX_VARIABLES (map pair_var writes) (map pair_var looks) also.1 are.1 (subst (λ l. length l ≤ TX_VARIABLES) is few)
    (length_map writes ∙ full) out where
      length_map : (ws : List Pair) → length (map pair_var ws) ≡ length ws
      length_map [] = refl
      length_map (w ∷ ws) = ap suc (length_map ws)

-- ## Two lists beside each other

-- what is left from a place with an element is that element and what is left after it
drop_at : {A : Type 0} (xs : List A) (i : ℕ) (x : A) → slice_get xs i ≡ Some x → drop i xs ≡ x ∷ drop (suc i) xs
drop_at [] i x is = cc
drop_at (a ∷ xs) zero x is = (let same : a ≡ x = cc in ap (λ h. h ∷ xs) same)
drop_at (a ∷ xs) (suc i) x is = drop_at xs i x is

-- nothing is left from a place without an element
drop_past : {A : Type 0} (xs : List A) (i : ℕ) → slice_get xs i ≡ None → drop i xs ≡ []
drop_past [] zero is = refl
drop_past [] (suc i) is = refl
drop_past (a ∷ xs) zero is = cc
drop_past (a ∷ xs) (suc i) is = drop_past xs i is

-- nothing is left from a place past the end
drop_long : {A : Type 0} (xs : List A) (i : ℕ) → length xs ≤ i → drop i xs ≡ []
drop_long [] zero is = refl
drop_long [] (suc i) is = refl
drop_long (a ∷ xs) zero is = absurd (omega arith)
drop_long (a ∷ xs) (suc i) is = drop_long xs i (omega arith)

module _ {A : Type 0} {B : Type 0} (f : A → ℕ × ℤ) (g : B → ℕ × ℤ) where
  -- what is left of both from a place on
  abbrev pub same_from : List A → List B → ℕ → Bool
  same_from xs ys i = same_words (map f (drop i xs)) (map g (drop i ys))

  -- two lists are the same from a place on exactly where what is left of them has the same words
  both : (xs vs : List A) (ys ws : List B) (i : ℕ) → drop i xs ≡ vs → drop i ys ≡ ws → same_from xs ys i ≡ same_words (map f vs) (map g ws)
  both xs vs ys ws i first second = ap (λ l. same_words (map f l) (map g (drop i ys))) first
      ∙ ap (λ l. same_words (map f vs) (map g l)) second

  -- where both lists have the same word at a place, they are the same from it on exactly where they are from the next
  pub same_on :
      (xs : List A) (ys : List B) (i : ℕ) (x : A) (y : B) → slice_get xs i ≡ Some x → slice_get ys i ≡ Some y →
      ((f x).0 == (g y).0 && int_eq (f x).1 (g y).1) ≡ true → same_from xs ys (suc i) ≡ same_from xs ys i
  same_on xs ys i x y first second same =
      sym (both xs _ ys _ i (drop_at xs i x first) (drop_at ys i y second)
      ∙ and_true ((f x).0 == (g y).0) (int_eq (f x).1 (g y).1) (same_from xs ys (suc i)) same) where
        and_true : (a b c : Bool) → (a && b) ≡ true → (a && b && c) ≡ c
        and_true true true c is = refl
        and_true true false c is = cc
        and_true false b c is = cc

  -- where two lists have different words at a place, they are not the same from it on
  pub other_on :
      (xs : List A) (ys : List B) (i : ℕ) (x : A) (y : B) → slice_get xs i ≡ Some x → slice_get ys i ≡ Some y →
      ((f x).0 == (g y).0 && int_eq (f x).1 (g y).1) ≡ false → same_from xs ys i ≡ false
  other_on xs ys i x y first second other = both xs _ ys _ i (drop_at xs i x first) (drop_at ys i y second)
      ∙ and_false ((f x).0 == (g y).0) (int_eq (f x).1 (g y).1) (same_from xs ys (suc i)) other where
        and_false : (a b c : Bool) → (a && b) ≡ false → (a && b && c) ≡ false
        and_false true true c is = cc
        and_false true false c is = refl
        and_false false b c is = refl

  -- where neither list has anything at a place, they are the same from it on
  pub none_from : (xs : List A) (ys : List B) (i : ℕ) → slice_get xs i ≡ None → slice_get ys i ≡ None → same_from xs ys i ≡ true
  none_from xs ys i first second = both xs [] ys [] i (drop_past xs i first) (drop_past ys i second)

  -- where only the first list goes on, they are not the same from there on
  pub longer_from : (xs : List A) (ys : List B) (i : ℕ) (x : A) → slice_get xs i ≡ Some x → slice_get ys i ≡ None → same_from xs ys i
      ≡ false
  longer_from xs ys i x first second = both xs _ ys [] i (drop_at xs i x first) (drop_past ys i second)

  -- where only the second list goes on, they are not the same from there on
  pub shorter_from : (xs : List A) (ys : List B) (i : ℕ) (y : B) → slice_get xs i ≡ None → slice_get ys i ≡ Some y → same_from xs ys i
      ≡ false
  shorter_from xs ys i y first second = both xs [] ys _ i (drop_past xs i first) (drop_at ys i y second)

  -- past the ends of both lists they are the same
  pub past_both : (xs : List A) (ys : List B) (i : ℕ) → length xs ≤ i → length ys ≤ i → same_from xs ys i ≡ true
  past_both xs ys i first second = both xs [] ys [] i (drop_long xs i first) (drop_long ys i second)

-- ## The word that is known

-- the value of a write is the known word of its variable
pub written_known :
    (t : Touched) (looks writes : List Pair) (x : ℕ) (w : Pair) → touched_by looks writes ≡ t → find (λ p. p.var == x) writes ≡ Some w →
    Some w.value ≡ known_word (word_of t.writes x) (word_of t.looks x)
written_known t looks writes x w is found =
    let word : word_of (map pair_word writes) x ≡ Some w.value = word_pairs writes x ∙ ap (option_map (λ v. v.value)) found in
    subst (λ (s : Touched). Some w.value ≡ known_word (word_of s.writes x) (word_of s.looks x)) is (rw word refl)

-- the value of a look, or none, is the known word of a variable that is not written
pub looked_known :
    (t : Touched) (looks writes : List Pair) (x : ℕ) (o : Option Pair) → touched_by looks writes ≡ t → find (λ p. p.var == x) writes
    ≡ None →
    find (λ p. p.var == x) looks ≡ o → option_map (λ v. v.value) o ≡ known_word (word_of t.writes x) (word_of t.looks x)
looked_known t looks writes x o is none found =
    let unwritten : word_of (map pair_word writes) x ≡ None = word_pairs writes x ∙ ap (option_map (λ v. v.value)) none in
    let word : word_of (map pair_word looks) x ≡ option_map (λ v. v.value) o = word_pairs looks x ∙ ap (option_map (λ v. v.value)) found in
    subst (λ (s : Touched). option_map (λ v. v.value) o ≡ known_word (word_of s.writes x) (word_of s.looks x)) is
    (rw (unwritten, word) refl)

-- a variable that is written is written or looked at
pub is_written :
    (t : Touched) (looks writes : List Pair) (x : ℕ) (w : Pair) → touched_by looks writes ≡ t → find (λ p. p.var == x) writes ≡ Some w →
    true ≡ (is_some (word_of t.writes x) || is_some (word_of t.looks x))
is_written t looks writes x w is found =
    let word : word_of (map pair_word writes) x ≡ Some w.value = word_pairs writes x ∙ ap (option_map (λ v. v.value)) found in
    subst (λ (s : Touched). true ≡ (is_some (word_of s.writes x) || is_some (word_of s.looks x))) is (rw word refl)

-- an option is there exactly where its value is
some_still : (o : Option Pair) → is_some o ≡ is_some (option_map (λ v. v.value) o)
some_still None = refl
some_still (Some w) = refl

-- a variable that is not written is looked at exactly where it is written or looked at
pub is_looked :
    (t : Touched) (looks writes : List Pair) (x : ℕ) → touched_by looks writes ≡ t → find (λ p. p.var == x) writes ≡ None →
    is_some (find (λ p. p.var == x) looks) ≡ (is_some (word_of t.writes x) || is_some (word_of t.looks x))
is_looked t looks writes x is none =
    let unwritten : word_of (map pair_word writes) x ≡ None = word_pairs writes x ∙ ap (option_map (λ v. v.value)) none in
    let word : is_some (find (λ p. p.var == x) looks) ≡ is_some (word_of (map pair_word looks) x) =
    some_still (find (λ p. p.var == x) looks) ∙ ap is_some (sym (word_pairs looks x)) in
    subst (λ (s : Touched). is_some (find (λ p. p.var == x) looks) ≡ (is_some (word_of s.writes x) || is_some (word_of s.looks x))) is
    (rw unwritten word)

-- ## What the calls leave

-- a new look changes what an attempt touched by that look alone
pub look_result :
    (t : Touched) (looks writes new : List Pair) (x : ℕ) (a : ℤ) → touched_by looks writes ≡ t → new
    ≡ with_part pair_var (record { var = x; value = a }) looks →
    touched_by new writes ≡ record t { looks = with_word x a t.looks }
look_result t looks writes new x a is put =
    subst (λ (s : Touched). touched_by new writes ≡ record s { looks = with_word x a s.looks }) is
    (ap (λ l. record (touched_by looks writes) { looks = l }) (ap (map pair_word) put ∙ put_pairs x a looks))

-- a new write changes what an attempt touched by that write alone
pub write_result :
    (t : Touched) (looks writes new : List Pair) (x : ℕ) (a : ℤ) → touched_by looks writes ≡ t → new
    ≡ with_part pair_var (record { var = x; value = a }) writes →
    touched_by looks new ≡ record t { writes = with_word x a t.writes }
write_result t looks writes new x a is put =
    subst (λ (s : Touched). touched_by looks new ≡ record s { writes = with_word x a s.writes }) is
    (ap (λ l. record (touched_by looks writes) { writes = l }) (ap (map pair_word) put ∙ put_pairs x a writes))

-- ## The end of an attempt

-- there is no first write exactly where the writes are none
none_written : (ws : List Pair) → is_none (slice_get ws 0) ≡ same_words (map pair_word ws) []
none_written [] = refl
none_written (w ∷ ws) = refl

-- an attempt that is not kept ends by an entry with its looks exactly where that entry has no writes
pub ends_without :
    (p : Progress) (tx : Tx) (keep b : Bool) → keep ≡ false → same_words (map look_word tx.looks) p.looks ≡ true → b
    ≡ is_none (slice_get tx.writes 0) →
    b ≡ is_its_end p keep tx
ends_without p tx keep b dropped looked is = rw (dropped, looked) (is ∙ none_written tx.writes)
