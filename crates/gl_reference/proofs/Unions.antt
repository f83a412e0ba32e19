-- The variables of a commit, put in one by one.
use Rattle.std.proofs.Common.{◌≡◌, ℕ, ◌+◌, ◌<◌, ◌≤◌, ◌==◌, List, [], ◌∷◌, length, drop, get_or, suc, refl, sym, ◌∙◌, ap, subst, arith, Ok, Err, true, false, Bool, add-one}
use Rattle.std.specs.Prelude.{Result, ◌↔◌, Contains, IsErr, OnOk, nat_lt, if◌then◌else◌}
use Rattle.std.proofs.Math.Seq.{drop-cons}
use Rattle.std.proofs.lemmas.Bool.{eqb-true}
use Rattle.std.proofs.lemmas.List.Elements.{Contains-get_or, Contains-append_right}
use Rattle.gl_model.specs.declared.limits.TheConstants.{TX_VARIABLES}
use Rattle.gl_model.specs.Rising.{with_one, with_all}

-- two tests that hold alike are equal
pub same_bool : (a b : Bool) → (a ≡ true) ↔ (b ≡ true) → a ≡ b
same_bool true b e = sym (e.0 refl)
same_bool false true e = e.1 refl
same_bool false false e = refl

-- a list has its head
contains_front : (y : ℕ) (ys : List ℕ) → Contains (y ∷ ys) y
contains_front y ys = Contains-get_or (y ∷ ys) 0 0 (omega arith)

-- what the tail has the list has
contains_behind : (y x : ℕ) (ys : List ℕ) → Contains ys x → Contains (y ∷ ys) x
contains_behind y x ys c = Contains-append_right (y ∷ []) ys x c

-- a list that does not have x is one longer with it
pub longer : (x : ℕ) (ys : List ℕ) → (Contains ys x → ⊥) → length (with_one x ys) ≡ length ys + 1
longer x [] none = refl
longer x (y ∷ ys) none = by_same (x == y) refl (λ c. longer x ys c)
  where
    by_less : (b : Bool) → ((Contains ys x → ⊥) → length (with_one x ys) ≡ length ys + 1)
        → length (if b then x ∷ (y ∷ ys) else y ∷ with_one x ys) ≡ suc (length ys) + 1
    by_less true rest = omega arith
    by_less false rest = omega (arith, rest (λ c. none (contains_behind y x ys c)))

    by_same : (b : Bool) → (x == y) ≡ b → ((Contains ys x → ⊥) → length (with_one x ys) ≡ length ys + 1)
        → length (if b then y ∷ ys else if nat_lt x y then x ∷ (y ∷ ys) else y ∷ with_one x ys) ≡ suc (length ys) + 1
    by_same true e rest = absurd (none (subst (Contains (y ∷ ys)) (sym (eqb-true x y e)) (contains_front y ys)))
    by_same false e rest = by_less (nat_lt x y) rest

-- with x a list is no shorter
one_length : (x : ℕ) (ys : List ℕ) → length ys ≤ length (with_one x ys)
one_length x [] = omega arith
one_length x (y ∷ ys) = by_same (x == y) (one_length x ys)
  where
    by_less : (b : Bool) → length ys ≤ length (with_one x ys) → suc (length ys) ≤ length (if b then x ∷ (y ∷ ys) else y ∷ with_one x ys)
    by_less true rest = omega arith
    by_less false rest = omega arith

    by_same : (b : Bool) → length ys ≤ length (with_one x ys)
        → suc (length ys) ≤ length (if b then y ∷ ys else if nat_lt x y then x ∷ (y ∷ ys) else y ∷ with_one x ys)
    by_same true rest = omega arith
    by_same false rest = by_less (nat_lt x y) rest

-- two lists put together have no fewer than the second
pub all_length : (xs ys : List ℕ) → length ys ≤ length (with_all xs ys)
all_length [] ys = omega arith
all_length (x ∷ xs) ys = omega (arith, one_length x ys, all_length xs (with_one x ys))

-- a variable for which there is room is put in
pub inserted : {A B : Type 0} (r : Result A B) (x : ℕ) (old new : List ℕ) → OnOk r (new ≡ with_one x old)
    → IsErr r ↔ ((length old ≡ TX_VARIABLES) × (Contains old x → ⊥)) → length (with_one x old) ≤ TX_VARIABLES → new ≡ with_one x old
inserted (Ok a) x old new ok full room = ok
inserted (Err e) x old new ok full room = let f = full.0 refl in absurd (omega (arith, longer x old f.1))

-- one variable more is in
pub put_more : (items writes reads all next : List ℕ) (i : ℕ) → i < length items
    → (length (with_one (get_or items i 0) all) ≤ TX_VARIABLES → next ≡ with_one (get_or items i 0) all)
    → length (with_all writes reads) ≤ TX_VARIABLES → with_all (drop i items) all ≡ with_all writes reads
    → with_all (drop (i + 1) items) next ≡ with_all writes reads
put_more items writes reads all next i n put room so_far =
    let split : drop i items ≡ get_or items i 0 ∷ drop (i + 1) items = rw add-one (drop-cons items i 0 n) in
    let was : with_all (drop (i + 1) items) (with_one (get_or items i 0) all)
    ≡ with_all writes reads = sym (ap (λ zs. with_all zs all) split) ∙ so_far in
    let less : length (with_one (get_or items i 0) all) ≤ TX_VARIABLES =
    omega (arith, all_length (drop (i + 1) items) (with_one (get_or items i 0) all), ap length was) in
    ap (with_all (drop (i + 1) items)) (put less) ∙ was
