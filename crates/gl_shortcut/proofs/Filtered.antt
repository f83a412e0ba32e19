-- A walk over some of the events never has more in its set than a walk over all of them.
use Rattle.std.proofs.Common.{◌≡◌, ℕ, ◌+◌, ◌<◌, List, [], ◌∷◌, ◌++◌, length, take, get_or, refl, sym, ◌∙◌, ap, subst, inl, inr, true, false, Bool}
use Rattle.std.specs.Prelude.{◌↔◌, filter, Option, IsTrue}
use Rattle.std.proofs.lemmas.List.{take_more, append-nil}
use Rattle.std.proofs.lemmas.List.Elements.{filter-append}
use Rattle.gl_model.specs.declared.event.Stamp.{Stamp}
use Rattle.gl_model.specs.declared.event.Element.{Element}
use Rattle.gl_model.specs.declared.event.Element.TheVariants.{Thread}
use Rattle.gl_model.specs.Locksets.{Elements, After, AfterAll, IsOrderedOrExcepted}
use Rattle.gl_laws.proofs.Closure.{AfterAll-push}
use Rattle.gl_laws.proofs.Walks.{After-same}
use Rattle.gl_draws.proofs.CommitLaw.{taken_map}
use Rattle.gl_draws.proofs.MovedInfos.{passes_greater}

-- a step keeps one set within another
after_map : (S T : Elements) (s : Stamp) → ((y : Element) → S y → T y) → (y : Element) → After S s y → After T s y
after_map S T s f y (inl c) = inl (taken_map S T s f y c)
after_map S T s f y (inr c) = inr (c.0, taken_map S T s f (Thread s.thread) c.1)

-- a walk over some of the events has no more in its set than the walk over all of them
pub some_within_all : (p : Stamp → Bool) (xs : List Stamp) (S T : Elements) → ((y : Element) → S y → T y) → (y : Element)
    → AfterAll S (filter p xs) y → AfterAll T xs y
some_within_all p [] S T f y c = f y c
some_within_all p (x ∷ xs) S T f y c = by_case (p x) refl (some_within_all p xs (After S x) (After T x) (after_map S T x f) y)
    (some_within_all p xs S (After T x) (λ z k. inl (inl (f z k))) y)
  where
    by_case : (b : Bool) → p x ≡ b → (AfterAll (After S x) (filter p xs) y → AfterAll T (x ∷ xs) y)
        → (AfterAll S (filter p xs) y → AfterAll T (x ∷ xs) y) → AfterAll T (x ∷ xs) y
    by_case true e taken passed = taken (rw e at c)
    by_case false e taken passed = passed (rw e at c)

-- a list of one event that passes the test is left whole
one_kept : (p : Stamp → Bool) (s : Stamp) → p s ≡ true → filter p (s ∷ []) ≡ s ∷ []
one_kept p s e = rw e refl

-- a list of one event that fails the test is left empty
one_left_out : (p : Stamp → Bool) (s : Stamp) → p s ≡ false → filter p (s ∷ []) ≡ []
one_left_out p s e = rw e refl

module _ (p : Stamp → Bool) (S T : Elements) (xs : List Stamp) (i : ℕ) (s : Stamp) (n : i < length xs) (is : s ≡ get_or xs i s)
    (before : (y : Element) → T y ↔ AfterAll S (filter p (take i xs)) y) where
  -- the first i + 1 events are the first i and this one
  more : take (i + 1) xs ≡ take i xs ++ s ∷ []
  more = take_more xs i s n ∙ ap (λ x. take i xs ++ x ∷ []) (sym is)

  -- one event more, that is walked
  pub walked_more : (U : Elements) → p s ≡ true → ((y : Element) → U y ↔ After T s y) → (y : Element)
      → U y ↔ AfterAll S (filter p (take (i + 1) xs)) y
  walked_more U kept step y =
      let e : filter p (take (i + 1) xs) ≡ filter p (take i xs) ++ s ∷ [] = ap (filter p) more ∙ filter-append p (take i xs) (s ∷ [])
      ∙ ap (λ ys. filter p (take i xs) ++ ys) (one_kept p s kept) in
      let same = After-same T (AfterAll S (filter p (take i xs))) s before y in
      subst (λ (V : Elements). U y ↔ V y) (sym (ap (AfterAll S) e ∙ AfterAll-push S (filter p (take i xs)) s))
      (λ u. same.0 ((step y).0 u), λ a. (step y).1 (same.1 a))

  -- or that is passed over
  pub passed_more : p s ≡ false → (y : Element) → T y ↔ AfterAll S (filter p (take (i + 1) xs)) y
  passed_more out y =
      let e : filter p (take (i + 1) xs) ≡ filter p (take i xs) = ap (filter p) more ∙ filter-append p (take i xs) (s ∷ [])
      ∙ ap (λ ys. filter p (take i xs) ++ ys) (one_left_out p s out) ∙ append-nil (filter p (take i xs)) in
      subst (λ (V : Elements). T y ↔ V y) (sym (ap (AfterAll S) e)) (before y)

  -- the one or the other
  pub either_more : (U : Elements) → (p s ≡ true → (y : Element) → U y ↔ After T s y) → (p s ≡ false → (y : Element) → U y ↔ T y)
      → (y : Element) → U y ↔ AfterAll S (filter p (take (i + 1) xs)) y
  either_more U step same y = by_case (p s) refl
    where
      by_case : (b : Bool) → p s ≡ b → U y ↔ AfterAll S (filter p (take (i + 1) xs)) y
      by_case true e = walked_more U e (step e) y
      by_case false e = let k = passed_more e y in let l = same e y in (λ u. k.0 (l.0 u), λ a. l.1 (k.1 a))

-- the test over the same elements
pub test_same : (S T : Elements) (u : ℕ) (v : Option (List ℕ)) (b : Bool) → ((y : Element) → S y ↔ T y)
    → IsTrue b ↔ IsOrderedOrExcepted S u v → IsTrue b ↔ IsOrderedOrExcepted T u v
test_same S T u v b same test = (
  λ t. passes_greater S T u v (λ y. (same y).0) (test.0 t),
  λ o. test.1
      (passes_greater T S u v (λ y. (same y).1) o),
)
