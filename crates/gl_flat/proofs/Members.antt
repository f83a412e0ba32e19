-- Members of lists that are put together, and the number of a variable.
use Rattle.std.proofs.Common.{◌≡◌, ℕ, zero, suc, ◌<◌, List, [], ◌∷◌, ◌++◌, map, refl, ap, subst, sym, ◌∙◌, inl, inr, arith, Some, true, false, eq-eqb}
use Rattle.std.specs.Prelude.{◌⊎◌, ◌==◌, Bool, Contains, slice_get}
use Rattle.std.proofs.lemmas.Bool.{eqb-true}
use Rattle.std.specs.List.{AllByRecursion, find, flat_map}
use Rattle.gl_model.specs.declared.tx.Number.{Number}
use Rattle.gl_model.specs.Rising.{Rises}

module _ {A : Type 0} where
  abbrev pub In : List A → A → Type 0
  In [] x = ⊥
  In (y ∷ ys) x = (y ≡ x) ⊎ In ys x

  -- what is one of a list's elements, as told element by element, stands in the list at some place
  pub in_contains : (xs : List A) (x : A) → In xs x → Contains xs x
  in_contains [] x i = absurd i
  in_contains (y ∷ ys) x (inl e) = (zero, omega arith, e)
  in_contains (y ∷ ys) x (inr i) = let r = in_contains ys x i in (suc r.0, (let l = r.1 in omega arith), r.2)

  -- what stands in a list at some place is one of its elements, as told element by element
  pub contains_in : (xs : List A) (x : A) → Contains xs x → In xs x
  contains_in [] x i = absurd (let l = i.1 in omega arith)
  contains_in (y ∷ ys) x (zero, l, e) = inl e
  contains_in (y ∷ ys) x (suc k, l, e) = inr (contains_in ys x (k, omega arith, e))

  -- an element of two lists that are put together is one of the first or of the second
  pub in_append : (xs ys : List A) (x : A) → In (xs ++ ys) x → In xs x ⊎ In ys x
  in_append [] ys x i = inr i
  in_append (z ∷ zs) ys x (inl e) = inl (inl e)
  in_append (z ∷ zs) ys x (inr i) = elim (in_append zs ys x i) [ inl j ↦ inl (inr j) | inr j ↦ inr j ]

  -- an element of the first list is one of the two lists put together
  pub append_front : (xs ys : List A) (x : A) → In xs x → In (xs ++ ys) x
  append_front [] ys x i = absurd i
  append_front (z ∷ zs) ys x (inl e) = inl e
  append_front (z ∷ zs) ys x (inr i) = inr (append_front zs ys x i)

  -- an element of the second list is one of the two lists put together
  pub append_back : (xs ys : List A) (x : A) → In ys x → In (xs ++ ys) x
  append_back [] ys x i = i
  append_back (z ∷ zs) ys x i = inr (append_back zs ys x i)

module _ {A B : Type 0} (f : A → List B) where
  -- an element of all lists f a put together is in f a for some a that stands in xs
  pub in_flat : (xs : List A) (b : B) → In (flat_map f xs) b → (k : ℕ) × ((a : A) × (slice_get xs k ≡ Some a) × In (f a) b)
  in_flat [] b i = absurd i
  in_flat (x ∷ xs) b i = elim (in_append (f x) (flat_map f xs) b i) [
    | inl j ↦ (zero, (x, refl, j))
    | inr j ↦
        (let r = in_flat xs b j in (suc r.0, (r.1.0, r.1.1, r.1.2)))
  ]

  -- an element of f a, for an a that stands in xs, is one of all these lists put together
  pub flat_in : (xs : List A) (k : ℕ) (a : A) (b : B) → slice_get xs k ≡ Some a → In (f a) b → In (flat_map f xs) b
  flat_in [] k a b at i = absurd (cc)
  flat_in (x ∷ xs) zero a b at i = let same : x ≡ a = cc in append_front (f x) (flat_map f xs) b (subst (λ z. In (f z) b) (sym same) i)
  flat_in (x ∷ xs) (suc k) a b at i = append_back (f x) (flat_map f xs) b (flat_in xs k a b at i)

-- what is found for a variable is one of the numbers, and is on that variable
pub found_is : (ns : List Number) (x : ℕ) (n : Number) → find (λ m. m.var == x) ns ≡ Some n → In ns n × (n.var ≡ x)
found_is [] x n e = absurd (cc)
found_is (m ∷ ms) x n e = here (found_is ms x n) (m.var == x) refl e
  where
    here : (find (λ z. z.var == x) ms ≡ Some n → In ms n × (n.var ≡ x)) → (b : Bool) → (m.var == x) ≡ b →
        find (λ z. z.var == x) (m ∷ ms) ≡ Some n → In (m ∷ ms) n × (n.var ≡ x)
    here rest true is e =
        let first : find (λ (z : Number). z.var == x) (m ∷ ms) ≡ Some m = rw is refl in
        let both : Some m ≡ Some n = sym first ∙ e in
        let same : m ≡ n = cc in
        (inl same, ap (λ (z : Number). z.var) (sym same) ∙ eqb-true m.var x is)
    here rest false is e =
        let later : find (λ (z : Number). z.var == x) (m ∷ ms) ≡ find (λ (z : Number). z.var == x) ms = rw is refl in
        let r = rest (sym later ∙ e) in
        (inr r.0, r.1)

-- where all variables are above x, that of each number is
above : (x : ℕ) (ms : List Number) (n : Number) → AllByRecursion (λ y. x < y) (map (λ m. m.var) ms) → In ms n → x < n.var
above x [] n all i = absurd i
above x (m ∷ ms) n all (inl e) = subst (λ (z : Number). x < z.var) e all.0
above x (m ∷ ms) n all (inr i) = above x ms n all.1 i

-- in numbers that rise by variable, what is found for a variable is its number
pub found_one : (ns : List Number) (n : Number) → Rises (map (λ m. m.var) ns) → In ns n → find (λ m. m.var == n.var) ns ≡ Some n
found_one [] n rises i = absurd i
found_one (m ∷ ms) n rises (inl e) = let is : (m.var == n.var) ≡ true = eq-eqb m.var n.var (ap (λ (z : Number). z.var) e) in
    rw is (ap Some e)
found_one (m ∷ ms) n rises (inr i) = go (m.var == n.var) refl (found_one ms n rises.1 i)
  where
    go : (b : Bool) → (m.var == n.var) ≡ b → find (λ z. z.var == n.var) ms ≡ Some n → find (λ z. z.var == n.var) (m ∷ ms) ≡ Some n
    go true is rest = absurd (let lt = above m.var ms n rises.0 i in let same = eqb-true m.var n.var is in omega arith)
    go false is rest = rw is rest
