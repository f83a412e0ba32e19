-- Lists of words that are owed, and the last performed access of a variable.
use Rattle.std.proofs.Common.{◌≡◌, ◌≢◌, ℕ, ℤ, zero, suc, ◌+◌, ◌<◌, ◌≤◌, ◌==◌, Bool, true, false, not, cond, List, [], ◌∷◌, ◌++◌, length, refl, sym, ◌∙◌, ap, subst, arith, inl, inr, eq-eqb}
use Rattle.std.specs.Prelude.{◌⊎◌, Contains, filter}
use Rattle.std.proofs.lemmas.List.{length-append}
use Rattle.std.proofs.lemmas.List.Elements.{All-contains, All-contains_itself, All-filter, filter_passes}
use Rattle.std.proofs.lemmas.Bool.Decides.{nat_tests}
use Rattle.gl_model.specs.Entries.{Entry, Sync, Commit, Plain, Abort, Trim, Over}
use Rattle.gl_draws.specs.Cached.{HasValue}
use Rattle.gl_draws.proofs.Pushes.{at_kept, at_new, at_cases, at_within}
use Rattle.gl_riders.specs.Owing.{IsLast}
use Rattle.gl_riders.specs.Sweeping.{AreTrims}
use Rattle.std.proofs.lemmas.List.{append-nil, append_assoc}

-- ## A filter of what is owed

-- a word of another variable than x
abbrev pub others : ℕ → ℕ × ℤ → Bool
others x o = not (o.0 == x)

-- what is in a list that was filtered was in the list
pub filter_has : (p : ℕ × ℤ → Bool) (xs : List (ℕ × ℤ)) (v : ℕ × ℤ) → Contains (filter p xs) v → Contains xs v
filter_has p xs v there = All-contains (Contains xs) (filter p xs) v (All-filter p (Contains xs) xs (All-contains_itself xs)) there

-- what is in a list that was filtered passes the test
pub filter_says : (p : ℕ × ℤ → Bool) (xs : List (ℕ × ℤ)) (v : ℕ × ℤ) → Contains (filter p xs) v → p v ≡ true
filter_says p xs v there = All-contains (λ u. p u ≡ true) (filter p xs) v (filter_passes p xs) there

-- the first word is in the list
head_is : (x : ℕ × ℤ) (xs : List (ℕ × ℤ)) → Contains (x ∷ xs) x
head_is x xs = (0, omega arith, refl)

-- what is in the rest is in the list
rest_is : (x v : ℕ × ℤ) (xs : List (ℕ × ℤ)) → Contains xs v → Contains (x ∷ xs) v
rest_is x v xs there = (suc there.0, (let less = there.1 in omega arith), there.2)

-- what is in a list is its first or in the rest
pub cons_cases : (x v : ℕ × ℤ) (xs : List (ℕ × ℤ)) → Contains (x ∷ xs) v → (x ≡ v) ⊎ Contains xs v
cons_cases x v xs (zero, less, is) = inl is
cons_cases x v xs (suc k, less, is) = inr (k, omega arith, is)

-- what is in a list and passes the test is in the filtered list
pub filter_keeps : (p : ℕ × ℤ → Bool) (xs : List (ℕ × ℤ)) (v : ℕ × ℤ) → Contains xs v → p v ≡ true → Contains (filter p xs) v
filter_keeps p [] v there passes = absurd (let less = there.1 in omega arith)
filter_keeps p (x ∷ xs) v there passes = elim (cons_cases x v xs there) [
  | inl same ↦ (let e : p x ≡ true = ap p same ∙ passes
      in rw e (let at : ℕ × ℤ → Type 0 = λ u. Contains (x ∷ filter p xs) u in subst at same (head_is x (filter p xs))))
  | inr more ↦ by_test (p x) (filter_keeps p xs v more passes)
] where
  by_test : (b : Bool) → Contains (filter p xs) v → Contains (cond b (x ∷ filter p xs) (filter p xs)) v
  by_test true there' = rest_is x v (filter p xs) there'
  by_test false there' = there'

-- a word of another variable passes the test of being another's
pub is_other : (x y : ℕ) (a : ℤ) → y ≢ x → others x (y, a) ≡ true
is_other x y a apart = by_test (y == x) refl where
  by_test : (b : Bool) → (y == x) ≡ b → not b ≡ true
  by_test true e = absurd (apart (let p : y ≡ x = grind (arith, nat_tests) in p))
  by_test false e = refl

-- a word that passes the test of being another's is of another variable
pub not_other : (x y : ℕ) (a : ℤ) → others x (y, a) ≡ true → y ≢ x
not_other x y a is same = (let e : (y == x) ≡ true = eq-eqb y x same in let t : not true ≡ true = ap not (sym e) ∙ is in cc)

-- a filtered list is no longer than the list
shorter : (p : ℕ × ℤ → Bool) (xs : List (ℕ × ℤ)) → length (filter p xs) ≤ length xs
shorter p [] = omega arith
shorter p (x ∷ xs) = by_test (p x) (shorter p xs) where
  by_test : (b : Bool) → length (filter p xs) ≤ length xs → length (cond b (x ∷ filter p xs) (filter p xs)) ≤ length (x ∷ xs)
  by_test true le = omega arith
  by_test false le = omega arith

-- a filtered list is shorter if something in the list fails the test
pub fewer : (p : ℕ × ℤ → Bool) (xs : List (ℕ × ℤ)) (v : ℕ × ℤ) → Contains xs v → p v ≡ false → length (filter p xs) < length xs
fewer p [] v there out = absurd (let less = there.1 in omega arith)
fewer p (x ∷ xs) v there out = elim (cons_cases x v xs there) [
  | inl same ↦ (let e : p x ≡ false = ap p same ∙ out in let le = shorter p xs in rw e (omega arith))
  | inr more ↦ by_test (p x) (fewer p xs v more out)
] where
  by_test : (b : Bool) → length (filter p xs) < length xs → length (cond b (x ∷ filter p xs) (filter p xs)) < length (x ∷ xs)
  by_test true less = omega arith
  by_test false less = omega arith

-- a word of x fails the test of being another's than x
pub its_own : (x : ℕ) (a : ℤ) → others x (x, a) ≡ false
its_own x a = (let e : (x == x) ≡ true = eq-eqb x x refl in rw e refl)

-- ## The last performed access

-- an access that is put last is the last of its variable
pub last_new : (es : List Entry) (x nth : ℕ) (cached write : Bool) (value : ℤ)
    → IsLast (es ++ Plain x nth cached write value false ∷ []) x value
last_new es x nth cached write value =
    let e : Entry = Plain x nth cached write value false in
    let long : length (es ++ e ∷ []) ≡ length es + 1 = length-append es (e ∷ []) in
    record {
      index = length es;
      entry = e;
      there = at_new es e;
      before = omega arith;
      has = (refl, refl, refl);
      latest = λ j f v a after before has. absurd (omega arith);
    }

-- the last access of x stays so when an entry without a value for x is put last
pub last_kept : (es : List Entry) (e : Entry) (x : ℕ) (value : ℤ) → ((v : ℤ) → HasValue e x v → ⊥) → IsLast es x value
    → IsLast (es ++ e ∷ []) x value
last_kept es e x value other last =
    let long : length (es ++ e ∷ []) ≡ length es + 1 = length-append es (e ∷ []) in
    let early = last.before in
    record {
      index = last.index;
      entry = last.entry;
      there = at_kept es (e ∷ []) last.index last.entry last.there;
      before = omega arith;
      has = last.has;
      latest = λ j f v a after before has. elim (at_cases es e f j a) [
        | inl old ↦ last.latest j f v old after (at_within es j f old) has
        | inr new ↦ (let at : Entry → Type 0 = λ g. HasValue g x v in other v (subst at new.1 has))
      ];
    }

-- the last access of y stays so when an access of another variable is put last
pub last_other : (es : List Entry) (x y nth : ℕ) (cached write raised : Bool) (value was : ℤ) → y ≢ x → IsLast es y was
    → IsLast (es ++ Plain x nth cached write value raised ∷ []) y was
last_other es x y nth cached write raised value was apart last =
    last_kept es (Plain x nth cached write value raised) y was (λ v has. apart (sym has.1)) last

-- the last access of y stays so when an access that raised is put last
pub last_raised : (es : List Entry) (x y nth : ℕ) (cached write : Bool) (value was : ℤ) → IsLast es y was
    → IsLast (es ++ Plain x nth cached write value true ∷ []) y was
last_raised es x y nth cached write value was last =
    last_kept es (Plain x nth cached write value true) y was (λ v has. (let t : true ≡ false = has.0 in cc)) last

-- the last access of x stays so when trims are put last
pub last_trims : (es ts : List Entry) (x : ℕ) (value : ℤ) → AreTrims ts → IsLast es x value → IsLast (es ++ ts) x value
last_trims es [] x value trims last = (let at : List Entry → Type 0 = λ fs. IsLast fs x value in subst at (sym (append-nil es)) last)
last_trims es (Trim low ∷ ts) x value trims last =
    let at : List Entry → Type 0 = λ fs. IsLast fs x value in
    subst at (append_assoc es (Trim low ∷ []) ts)
    (last_trims (es ++ Trim low ∷ []) ts x value trims (last_kept es (Trim low) x value (λ v has. has) last))
last_trims es (Sync at act value' ∷ ts) x value trims last = absurd trims
last_trims es (Commit at tx ∷ ts) x value trims last = absurd trims
last_trims es (Plain y n k w v r ∷ ts) x value trims last = absurd trims
last_trims es (Abort tx why ∷ ts) x value trims last = absurd trims
last_trims es (Over e ∷ ts) x value trims last = absurd trims
