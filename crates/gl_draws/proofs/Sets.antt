-- Lists that a function is mapped over, and sets of variables put together.
use Rattle.std.proofs.Common.{◌≡◌, ℕ, zero, suc, ◌<◌, ◌==◌, List, [], ◌∷◌, length, map, get_or, refl, ap, ◌∙◌, arith, true, false, Bool}
use Rattle.std.specs.Prelude.{if◌then◌else◌, nat_lt, Contains}
use Rattle.std.proofs.lemmas.Bool.{eqb-true}
use Rattle.gl_model.specs.Rising.{with_one, with_all}
use Rattle.gl_model.specs.Trace.{is_in}

-- what stands at k in the mapped list is the image of something in the list
contains_at : {A B : Type 0} (f : A → B) (xs : List A) (z : B) (k : ℕ) → k < length (map f xs) → get_or (map f xs) k z ≡ z → (a : A)
    × Contains xs a × (f a ≡ z)
contains_at f [] z k n e = absurd (omega arith)
contains_at f (x ∷ xs) z zero n e = (x, (zero, omega arith, refl), e)
contains_at f (x ∷ xs) z (suc k) n e = let r = contains_at f xs z k (omega arith) e in let m = r.1.1
    in (r.0, (suc r.1.0, omega arith, r.1.2), r.2)

-- what the mapped list has is the image of something in the list
pub contains_map : {A B : Type 0} (f : A → B) (xs : List A) (z : B) → Contains (map f xs) z → (a : A) × Contains xs a × (f a ≡ z)
contains_map f xs z c = contains_at f xs z c.0 c.1 c.2

-- the image of what stands at k is in the mapped list
map_at : {A B : Type 0} (f : A → B) (xs : List A) (a : A) (k : ℕ) → k < length xs → get_or xs k a ≡ a → Contains (map f xs) (f a)
map_at f [] a k n e = absurd (omega arith)
map_at f (x ∷ xs) a zero n e = (zero, omega arith, ap f e)
map_at f (x ∷ xs) a (suc k) n e = let c = map_at f xs a k (omega arith) e in let m = c.1 in (suc c.0, omega arith, c.2)

-- the image of a member is in the mapped list
pub map_contains : {A B : Type 0} (f : A → B) (xs : List A) (a : A) → Contains xs a → Contains (map f xs) (f a)
map_contains f xs a c = map_at f xs a c.0 c.1 c.2

-- mapping forth and back gives the list
pub map_back : {A : Type 0} (f : A → ℕ) (g : ℕ → A) → ((x : ℕ) → f (g x) ≡ x) → (xs : List ℕ) → map f (map g xs) ≡ xs
map_back f g back [] = refl
map_back f g back (x ∷ xs) = ap (λ y. y ∷ map f (map g xs)) (back x) ∙ ap (λ ys. x ∷ ys) (map_back f g back xs)

-- to ask one question twice is to ask it once
twice : (c r : Bool) → (if c then true else r) ≡ (if c then true else if c then true else r)
twice true r = refl
twice false r = refl

-- of two questions after one another either may be asked first
swapped : (a b r : Bool) → (if a then true else if b then true else r) ≡ (if b then true else if a then true else r)
swapped true true r = refl
swapped true false r = refl
swapped false true r = refl
swapped false false r = refl

-- in a set with x more are x and what was in it
is_in-one : (z x : ℕ) (ys : List ℕ) → is_in z (with_one x ys) ≡ (if z == x then true else is_in z ys)
is_in-one z x [] = refl
is_in-one z x (y ∷ ys) = here (x == y) refl (nat_lt x y) (is_in-one z x ys)
  where
    here : (b : Bool) → (x == y) ≡ b → (c : Bool) → is_in z (with_one x ys) ≡ (if z == x then true else is_in z ys) →
        is_in z (if b then y ∷ ys else if c then x ∷ (y ∷ ys) else y ∷ with_one x ys)
        ≡ (if z == x then true else if z == y then true else is_in z ys)
    here true e c rec = let same : x ≡ y = eqb-true x y e in rw same (twice (z == y) (is_in z ys))
    here false e true rec = refl
    here false e false rec = ap (λ r. if z == y then true else r) rec ∙ swapped (z == y) (z == x) (is_in z ys)

-- two questions after one another are one question with either
joined : (a b r : Bool) → (if b then true else if a then true else r) ≡ (if (if a then true else b) then true else r)
joined true true r = refl
joined true false r = refl
joined false true r = refl
joined false false r = refl

-- in two sets put together is what is in either
is_in-all : (z : ℕ) (xs ys : List ℕ) → is_in z (with_all xs ys) ≡ (if is_in z xs then true else is_in z ys)
is_in-all z [] ys = refl
is_in-all z (x ∷ xs) ys = is_in-all z xs (with_one x ys) ∙ ap (λ r. if is_in z xs then true else r) (is_in-one z x ys)
    ∙ joined (z == x) (is_in z xs) (is_in z ys)

-- either of two is the same in either order
exchanged : (a b : Bool) → (if a then true else b) ≡ (if b then true else a)
exchanged true true = refl
exchanged true false = refl
exchanged false true = refl
exchanged false false = refl

-- a variable is among two sets put together where it is in one of them
pub is_in-both : (reads writes : List ℕ) (y : ℕ) → is_in y (with_all writes reads) ≡ (if is_in y reads then true else is_in y writes)
is_in-both reads writes y = is_in-all y writes reads ∙ exchanged (is_in y writes) (is_in y reads)
