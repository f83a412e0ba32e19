-- Held objects are found by their numbers.
use Rattle.std.proofs.Common.{◌≡◌, ◌≢◌, ℕ, zero, suc, ◌==◌, List, [], ◌∷◌, map, true, false, eq-eqb, ne_eqb, refl, sym, ap, ◌∙◌, subst, arith, Some, None, inl, inr}
use Rattle.std.specs.Prelude.{Contains, Option, ◌⊎◌}
use native.Mathlib.Decide.{ℕ_discrete}
use Rattle.gl_rule.specs.View.{Held, without}
use Rattle.gl_table.specs.Putting.{held_at}
use Rattle.gl_txn.specs.Holding.{found}

-- what stands in two equal options is equal
some_same : {A : Type 0} (a b : A) → Some a ≡ Some b → a ≡ b
some_same a b e = cc

-- the one that stands first is found by its number
pub found_here : (h : Held) (hs : List Held) (k : ℕ) → h.object ≡ k → found k (h ∷ hs) ≡ Some h
found_here h hs k e = let b : (h.object == k) ≡ true = eq-eqb h.object k e in rw b refl

-- looking for an object, a held slot of another object is passed over
pub found_past : (h : Held) (hs : List Held) (k : ℕ) → h.object ≢ k → found k (h ∷ hs) ≡ found k hs
found_past h hs k ne = let b : (h.object == k) ≡ false = ne_eqb h.object k ne in rw b refl

-- what is found is held, and has the number
pub found_held : (k : ℕ) (held : List Held) (h : Held) → found k held ≡ Some h → Contains held h × (h.object ≡ k)
found_held k [] h e = absurd (cc)
found_held k (g ∷ gs) h e = elim (ℕ_discrete g.object k) [
  | yes same ↦ (let is : g ≡ h = some_same g h (sym (found_here g gs k same) ∙ e)
      in ((0, omega arith, is), ap (λ (u : Held). u.object) (sym is) ∙ same))
  | no other ↦ (let r = found_held k gs h (sym (found_past g gs k other) ∙ e) in let c = r.0
      in ((suc c.0, (let l = c.1 in omega arith), c.2), r.1))
]

-- and it is the one that the table's calls speak of
pub found_at : (k : ℕ) (held : List Held) (h : Held) → found k held ≡ Some h → held_at k held ≡ h
found_at k [] h e = absurd (cc)
found_at k (g ∷ gs) h e = elim (ℕ_discrete g.object k) [
  | yes same ↦ (let is : g ≡ h = some_same g h (sym (found_here g gs k same) ∙ e) in let b : (g.object == k)
      ≡ true = eq-eqb g.object k same in rw b is)
  | no other ↦ (let b : (g.object == k) ≡ false = ne_eqb g.object k other in rw b (found_at k gs h (sym (found_past g gs k other) ∙ e)))
]

-- a change of each, which keeps their numbers
abbrev pub changed : (Held → Held) → Option Held → Option Held
changed f None = None
changed f (Some h) = Some (f h)

-- a change that leaves objects is found changed where the slot was
pub found_mapped : (f : Held → Held) → ((h : Held) → (f h).object ≡ h.object) → (k : ℕ) (held : List Held) → found k (map f held)
    ≡ changed f (found k held)
found_mapped f same k [] = refl
found_mapped f same k (h ∷ hs) = elim (ℕ_discrete h.object k) [
  | yes e ↦ found_here (f h) (map f hs) k (same h ∙ e) ∙ ap (changed f) (sym (found_here h hs k e))
  | no ne ↦ found_past (f h) (map f hs) k (λ e. ne (sym (same h) ∙ e)) ∙ found_mapped f same k hs
      ∙ ap (changed f) (sym (found_past h hs k ne))
]

-- taking out an object takes it out where it stands first
pub without_here : (h : Held) (hs : List Held) (j : ℕ) → h.object ≡ j → without j (h ∷ hs) ≡ without j hs
without_here h hs j e = let b : (h.object == j) ≡ true = eq-eqb h.object j e in rw b refl

-- taking out an object leaves a first slot that is of another
pub without_past : (h : Held) (hs : List Held) (j : ℕ) → h.object ≢ j → without j (h ∷ hs) ≡ h ∷ without j hs
without_past h hs j ne = let b : (h.object == j) ≡ false = ne_eqb h.object j ne in rw b refl

-- an object that is taken out is not found
pub found_gone : (j : ℕ) (held : List Held) → found j (without j held) ≡ None
found_gone j [] = refl
found_gone j (h ∷ hs) = elim (ℕ_discrete h.object j) [
  | yes e ↦ ap (found j) (without_here h hs j e) ∙ found_gone j hs
  | no ne ↦ ap (found j) (without_past h hs j ne) ∙ found_past h (without j hs) j ne ∙ found_gone j hs
]

-- another object than the one taken out is found as before
pub found_still : (j k : ℕ) (held : List Held) → k ≢ j → found k (without j held) ≡ found k held
found_still j k [] ne = refl
found_still j k (h ∷ hs) ne = elim (ℕ_discrete h.object j) [
  | yes e ↦ ap (found k) (without_here h hs j e) ∙ found_still j k hs ne ∙ sym (found_past h hs k (λ z. ne (sym z ∙ e)))
  | no past ↦ ap (found k) (without_past h hs j past) ∙ elim (ℕ_discrete h.object k) [
    | yes here ↦ found_here h (without j hs) k here ∙ sym (found_here h hs k here)
    | no there ↦ found_past h (without j hs) k there ∙ found_still j k hs ne ∙ sym (found_past h hs k there)
  ]
]

-- each object is held once
abbrev pub IsOnce : List Held → Type 0
IsOnce held = (h : Held) → Contains held h → found h.object held ≡ Some h

-- what is in a list of held slots is its first or in the rest
in_first : (h : Held) (hs : List Held) (g : Held) → Contains (h ∷ hs) g → (h ≡ g) ⊎ Contains hs g
in_first h hs g (zero, l, e) = inl e
in_first h hs g (suc k, l, e) = inr (k, omega arith, e)

-- a list in which no object stands twice stays so with a slot of an object that is not in it
pub once_more : (h : Held) (hs : List Held) → IsOnce hs → found h.object hs ≡ None → IsOnce (h ∷ hs)
once_more h hs once none g c = elim (in_first h hs g c) [
  | inl e ↦ (let is : h.object ≡ g.object = ap (λ (u : Held). u.object) e in found_here h hs g.object is ∙ ap (λ (u : Held). Some u) e)
  | inr there ↦ found_past h hs g.object (λ e. (let z : Some g ≡ None = sym (once g there) ∙ ap (λ k. found k hs) (sym e) ∙ none in cc))
      ∙ once g there
]

-- what is in a changed list of slots is one of them, changed
in_mapped_from : (f : Held → Held) (held : List Held) (g : Held) → Contains (map f held) g → (h : Held) × Contains held h × (f h ≡ g)
in_mapped_from f [] g c = absurd (let l = c.1 in omega arith)
in_mapped_from f (h ∷ hs) g (zero, l, e) = (h, (0, omega arith, refl), e)
in_mapped_from f (h ∷ hs) g (suc k, l, e) = let r = in_mapped_from f hs g (k, omega arith, e) in let c = r.1
    in (r.0, (suc c.0, (let l = c.1 in omega arith), c.2), r.2)

-- a change that leaves objects leaves each object standing once
pub once_mapped : (f : Held → Held) → ((h : Held) → (f h).object ≡ h.object) → (held : List Held) → IsOnce held → IsOnce (map f held)
once_mapped f same held once g c =
    let r = in_mapped_from f held g c in
    let is : g.object ≡ r.0.object = ap (λ (u : Held). u.object) (sym r.2) ∙ same r.0 in
    ap (λ k. found k (map f held)) is ∙ found_mapped f same r.0.object held ∙ ap (changed f) (once r.0 r.1) ∙ ap (λ (u : Held). Some u) r.2

-- what is in a list without an object was in it and is of another object
in_without_from : (j : ℕ) (held : List Held) (g : Held) → Contains (without j held) g → Contains held g × (g.object ≢ j)
in_without_from j [] g c = absurd (let l = c.1 in omega arith)
in_without_from j (h ∷ hs) g c = elim (ℕ_discrete h.object j) [
  | yes e ↦ (let r = in_without_from j hs g (subst (λ l. Contains l g) (without_here h hs j e) c) in let d = r.0
      in ((suc d.0, (let l = d.1 in omega arith), d.2), r.1))
  | no ne ↦ elim (in_first h (without j hs) g (subst (λ l. Contains l g) (without_past h hs j ne) c)) [
    | inl is ↦ ((0, omega arith, is), λ z. ne (ap (λ (u : Held). u.object) is ∙ z))
    | inr there ↦ (let r = in_without_from j hs g there in let d = r.0 in ((suc d.0, (let l = d.1 in omega arith), d.2), r.1))
  ]
]

-- taking out an object leaves each object standing once
pub once_without : (j : ℕ) (held : List Held) → IsOnce held → IsOnce (without j held)
once_without j held once g c = let r = in_without_from j held g c in found_still j g.object held r.1 ∙ once g r.0

-- nothing is held where nothing is found
pub none_held : (held : List Held) → ((k : ℕ) → found k held ≡ None) → held ≡ []
none_held [] none = refl
none_held (h ∷ hs) none = absurd (let z : Some h ≡ None = sym (found_here h hs h.object refl) ∙ none h.object in cc)
