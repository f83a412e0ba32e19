-- The lists of a record, thread by thread from 0 up.
use Rattle.std.proofs.Common.{◌≡◌, ◌⊎◌, ℕ, ◌+◌, ◌<◌, ◌≤◌, ◌==◌, true, false, List, [], ◌∷◌, ◌++◌, Option, Some, None, map, refl, ap, arith, inl, inr, eq-eqb}
use Rattle.std.specs.Prelude.{nat_lt}
use Rattle.std.specs.List.{AllByRecursion, filter}
use Rattle.std.proofs.lemmas.Bool.Decides.{nat_tests}
use Rattle.std.proofs.lemmas.Bool.{cases_order}
use Rattle.gl_model.specs.Entries.{Entry}
use Rattle.gl_model.specs.Kept.{IsListKept}
use Rattle.gl_model.specs.Lists.{list_of}
use Rattle.gl_model.specs.Rising.{Rises}
use Rattle.gl_model.specs.declared.limits.TheConstants.{THREADS}

-- the lists of the threads below this one
abbrev pub below : ℕ → List (ℕ × List Entry) → List (ℕ × List Entry)
below t ls = filter (λ l. nat_lt l.0 t) ls

-- no thread is below 0
pub below_none : (ls : List (ℕ × List Entry)) → below 0 ls ≡ []
below_none [] = refl
below_none (l ∷ ls) = (let no : nat_lt l.0 0 ≡ false = grind (arith, nat_tests) in rw no (below_none ls))

-- none is below n where all are above a thread that is at n - 1 or further
none_below : (t n : ℕ) (ls : List (ℕ × List Entry)) → n ≤ t + 1 → AllByRecursion (λ s. t < s) (map (λ l. l.0) ls) → below n ls ≡ []
none_below t n [] le above = refl
none_below t n (l ∷ ls) le above =
    let first : t < l.0 = above.0 in
    let out : nat_lt l.0 n ≡ false = grind (arith, nat_tests) in
    rw out (none_below t n ls le above.1)

-- all threads are below their limit
pub all_below : (ls : List (ℕ × List Entry)) → AllByRecursion IsListKept ls → below THREADS ls ≡ ls
all_below [] kept = refl
all_below (l ∷ ls) kept =
    let first : l.0 < THREADS = kept.0.0 in
    let within : nat_lt l.0 THREADS ≡ true = grind (arith, nat_tests) in
    rw within (ap (λ rest. l ∷ rest) (all_below ls kept.1))

-- the list of a thread, if it has one
abbrev pub one_of : ℕ → Option (List Entry) → List (ℕ × List Entry)
one_of t None = []
one_of t (Some es) = (t, es) ∷ []

-- the lists below t + 1 are those below t, and t's, if it has one
abbrev pub GathersNext : ℕ → List (ℕ × List Entry) → Type 0
GathersNext t ls = below (t + 1) ls ≡ below t ls ++ one_of t (list_of ls t)

-- where t's list is the first, and the others are above, it is so
next_is_first : (t : ℕ) (l : ℕ × List Entry) (ls : List (ℕ × List Entry)) → l.0 ≡ t → AllByRecursion (λ s. l.0 < s) (map (λ l. l.0) ls)
    → GathersNext t (l ∷ ls)
next_is_first t l ls same above =
    let within : nat_lt l.0 (t + 1) ≡ true = grind (arith, nat_tests) in
    let out : nat_lt l.0 t ≡ false = grind (arith, nat_tests) in
    let here : (l.0 == t) ≡ true = eq-eqb l.0 t same in
    rw (within, out, here, none_below l.0 (t + 1) ls (omega arith) above, none_below l.0 t ls (omega arith) above)
    (ap (λ s. (s, l.1) ∷ []) same)

-- where the first list is another's, it is so where it is so of the rest
next_is_later : (t : ℕ) (l : ℕ × List Entry) (ls : List (ℕ × List Entry)) → (l.0 < t) ⊎ (t < l.0) → GathersNext t ls
    → GathersNext t (l ∷ ls)
next_is_later t l ls (inl lt) more =
    let within_next : nat_lt l.0 (t + 1) ≡ true = grind (arith, nat_tests) in
    let within : nat_lt l.0 t ≡ true = grind (arith, nat_tests) in
    let other : (l.0 == t) ≡ false = grind (arith, nat_tests) in
    rw (within_next, within, other) (ap (λ rest. l ∷ rest) more)
next_is_later t l ls (inr lt) more =
    let out_next : nat_lt l.0 (t + 1) ≡ false = grind (arith, nat_tests) in
    let out : nat_lt l.0 t ≡ false = grind (arith, nat_tests) in
    let other : (l.0 == t) ≡ false = grind (arith, nat_tests) in
    rw (out_next, out, other) more

-- the next thread's list comes last
pub gathers_next : (t : ℕ) (ls : List (ℕ × List Entry)) → Rises (map (λ l. l.0) ls) → GathersNext t ls
gathers_next t [] rises = refl
gathers_next t (l ∷ ls) rises =
    elim (cases_order l.0 t) [
      | inl same ↦ next_is_first t l ls same rises.0
      | inr other ↦ next_is_later t l ls other (gathers_next t ls rises.1)
    ]
