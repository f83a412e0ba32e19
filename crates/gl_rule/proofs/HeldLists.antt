-- Lists of held objects, and of anything.
use Rattle.std.proofs.Common.{◌≡◌, ◌≢◌, ℕ, ◌==◌, List, [], ◌∷◌, map, true, false, eq-eqb, ne_eqb, zero, suc, refl, sym, ap, ◌∙◌, subst, arith}
use Rattle.std.specs.Prelude.{Contains}
use Rattle.std.specs.List.{All}
use Rattle.std.proofs.lemmas.List.Elements.{All-head, All-tail, All-nil, All-cons}
use native.Mathlib.Decide.{ℕ_discrete}
use Rattle.gl_rule.specs.View.{Held, View, Shelf, HasObject, without}

module _ {X : Type 0} where
  -- what holds of each follows of each
  pub all_map : (P Q : X → Type 0) (xs : List X) → ((x : X) → P x → Q x) → All P xs → All Q xs
  all_map P Q xs f all k d near = f _ (all k d near)

  -- two facts of each give a third
  pub both_map : (P Q R : X → Type 0) (xs : List X) → ((x : X) → P x → Q x → R x) → All P xs → All Q xs → All R xs
  both_map P Q R xs f a b k d near = f _ (a k d near) (b k d near)

  -- what holds of each gives a fact of each image
  pub all_mapped : (f : X → X) (P Q : X → Type 0) (xs : List X) → ((x : X) → P x → Q (f x)) → All P xs → All Q (map f xs)
  all_mapped f P Q [] g all = All-nil Q
  all_mapped f P Q (x ∷ xs) g all = All-cons Q (f x) (map f xs) (g x (All-head P x xs all)) (all_mapped f P Q xs g (All-tail P x xs all))

  -- what is in a list is in a longer one
  pub in_cons : (x : X) (xs : List X) (y : X) → Contains xs y → Contains (x ∷ xs) y
  in_cons x xs y c = (suc c.0, omega arith, c.2)

  -- the image of what is in a list is in the list of images
  pub in_mapped : (f : X → X) (xs : List X) (y : X) → Contains xs y → Contains (map f xs) (f y)
  in_mapped f [] y c = absurd (let l = c.1 in omega arith)
  in_mapped f (x ∷ xs) y (zero, l, e) = (zero, omega arith, ap f e)
  in_mapped f (x ∷ xs) y (suc k, l, e) = in_cons (f x) (map f xs) (f y) (in_mapped f xs y (k, omega arith, e))

-- where a fact of each held object but x gives another of it, the one of all gives the other of those without x
pub all_without : (P Q : Held → Type 0) (x : ℕ) (held : List Held) → ((h : Held) → h.object ≢ x → P h → Q h) → All P held
    → All Q (without x held)
all_without P Q x [] f all = All-nil Q
all_without P Q x (h ∷ hs) f all = here (ℕ_discrete h.object x) (all_without P Q x hs f (All-tail P h hs all))
  where
    here : Dec (h.object ≡ x) → All Q (without x hs) → All Q (without x (h ∷ hs))
    here (yes e) r = let b : (h.object == x) ≡ true = eq-eqb h.object x e in rw b r
    here (no other) r = let b : (h.object == x) ≡ false = ne_eqb h.object x other
        in rw b (All-cons Q h (without x hs) (f h other (All-head P h hs all)) r)

-- the others are still held
pub in_without : (x : ℕ) (held : List Held) (h : Held) → h.object ≢ x → Contains held h → Contains (without x held) h
in_without x [] h other c = absurd (let l = c.1 in omega arith)
in_without x (g ∷ gs) h other (zero, l, e) = let same : g ≡ h = e in let b : (g.object == x)
    ≡ false = ne_eqb g.object x (λ z. other (sym (ap (λ (u : Held). u.object) same) ∙ z)) in rw b (zero, omega arith, same)
in_without x (g ∷ gs) h other (suc k, l, e) = here (ℕ_discrete g.object x) (in_without x gs h other (k, omega arith, e))
  where
    here : Dec (g.object ≡ x) → Contains (without x gs) h → Contains (without x (g ∷ gs)) h
    here (yes e) r = let b : (g.object == x) ≡ true = eq-eqb g.object x e in rw b r
    here (no ne) r = let b : (g.object == x) ≡ false = ne_eqb g.object x ne in rw b (in_cons g (without x gs) h r)

-- what was held is held after the held object h was changed to g
pub has_after : (k : ℕ) (v : View) (h g : Held) → g.object ≡ h.object → HasObject v k → (f : Held)
    × Contains (g ∷ without h.object v.held) f × (f.object ≡ k)
has_after k v h g same has = elim (ℕ_discrete has.0.object h.object) [
  | yes e ↦ (g, (zero, omega arith, refl), same ∙ sym e ∙ has.2)
  | no ne ↦ (has.0, in_cons g (without h.object v.held) has.0 (in_without h.object v.held has.0 ne has.1), has.2)
]

-- what holds of all shelves of a view that has one holds of that one
pub only_shelf : (P : Shelf → Type 0) (v : View) (s : Shelf) → v.shelves ≡ s ∷ [] → All P v.shelves → P s
only_shelf P v s one all = All-head P s [] (subst (λ l. All P l) one all)

-- a fact of the one shelf is one of all
pub one_shelf : (P : Shelf → Type 0) (s : Shelf) → P s → All P (s ∷ [])
one_shelf P s p = All-cons P s [] p (All-nil P)
