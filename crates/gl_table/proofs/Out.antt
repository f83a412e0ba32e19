-- The slots that are out with a seat, while objects are taken and put back.
use Rattle.std.proofs.Common.{◌≡◌, ◌≢◌, ℕ, zero, suc, ◌<◌, ◌≤◌, ◌==◌, List, [], ◌∷◌, length, drop, map, true, false, refl, sym, ap, subst, arith, ◌∙◌, IsPermutation, ne_eqb, eq-eqb}
use Rattle.std.specs.Prelude.{Contains}
use Rattle.std.specs.List.{All, AllByRecursion, IsDistinct}
use Rattle.std.proofs.lemmas.List.Elements.{All-weaker, All-cons, All-head, All-contains, All-nil}
use Rattle.std.proofs.lemmas.List.Sorted.{Contains-permutation, IsPermutation-sym}
use Rattle.std.proofs.lemmas.Map.Keys.{IsDistinct-IsPermutation}
use Rattle.std.proofs.lemmas.Map.Made.{Contains-tail}
use Rattle.std.proofs.lemmas.Map.Steps.{length-le_from_distinct_below}
use Rattle.std.proofs.lemmas.Map.Views.{Contains-from_any}
use Rattle.std.proofs.lemmas.Bool.{eqb-true}
use native.Mathlib.Decide.{ℕ_discrete}
use Rattle.gl_rule.specs.declared.slot.Slot.{Slot}
use Rattle.gl_rule.specs.declared.slot.Slot.TheVariants as slot
use Rattle.gl_rule.specs.Objects.{objects}
use Rattle.gl_table.specs.PassInside.{AreOut, IsHeld, empties}
use Rattle.gl_rule.specs.View.{Held, new_held, without}
use Rattle.gl_rule.proofs.HeldLists.{all_mapped, all_without, in_cons, in_mapped, in_without}

-- the object of a held slot is in the order
abbrev pub In : List ℕ → Held → Type 0
In order h = Contains order h.object

-- no number stands twice in the order
abbrev Apart : List ℕ → Type 0
Apart order = IsDistinct (λ a b. a == b) order

-- what is in the order is in it with a number before it
contains_more : (order : List ℕ) (k q : ℕ) → Contains order q → Contains (k ∷ order) q
contains_more order k q c = let near = c.1 in (suc c.0, omega arith, c.2)

-- k is none of these that do not have it
all_other : (k : ℕ) (order : List ℕ) → ((q : ℕ) → Contains order q → k ≢ q) → AllByRecursion (λ q. (k == q) ≡ false) order
all_other k [] other = tt
all_other k (x ∷ order) other = (
  ne_eqb k x (other x (zero, omega arith, refl)),
  all_other k order
      (λ q c. other q (contains_more order x q c)),
)

-- what is in an order none of whose numbers is k is not k
other_of : (k : ℕ) (order : List ℕ) → AllByRecursion (λ q. (k == q) ≡ false) order → (q : ℕ) → Contains order q → k ≢ q
other_of k [] all q c same = absurd (let near = c.1 in omega arith)
other_of k (x ∷ order) all q (zero, near, is) same = let a : x ≡ q = is in let b : (k == x) ≡ true = eq-eqb k x (same ∙ sym a)
    in absurd (let z : true ≡ false = sym b ∙ all.0 in cc)
other_of k (x ∷ order) all q (suc i, near, is) same = other_of k order all.1 q (i, omega arith, is) same

-- an order without doubles stays so with a new number before it
apart_cons : (k : ℕ) (order : List ℕ) → ((q : ℕ) → Contains order q → k ≢ q) → Apart order → Apart (k ∷ order)
unfolding IsDistinct
apart_cons k order other apart = (all_other k order other, apart)

-- in an order without doubles the first number is not in the rest
apart_head : (k : ℕ) (order : List ℕ) → Apart (k ∷ order) → (q : ℕ) → Contains order q → k ≢ q
unfolding IsDistinct
apart_head k order apart = other_of k order apart.0

-- the rest of an order without doubles has none
apart_tail : (k : ℕ) (order : List ℕ) → Apart (k ∷ order) → Apart order
unfolding IsDistinct
apart_tail k order apart = apart.1

-- the empty order has no doubles
apart_none : Apart []
unfolding IsDistinct
apart_none = tt

-- nothing is held
pub none_out : AreOut [] [] []
none_out = record {
  carried = refl;
  listed = All-nil (In []);
  holds = All-nil (IsHeld []);
  near = All-nil (λ k. k < objects);
  distinct = apart_none;
}

module _ (c : List (ℕ × Slot)) (order : List ℕ) (held : List Held) (out : AreOut c order held) where
  -- an object that is not held is none of those whose slots are out
  not_out : (k : ℕ) → (IsHeld held k → ⊥) → (q : ℕ) → Contains order q → k ≢ q
  not_out k free q has same = free (subst (IsHeld held) (sym same) (All-contains (IsHeld held) order q out.holds has))

  -- so there is room for it
  pub out_room : (k : ℕ) → (IsHeld held k → ⊥) → k < objects → length order < objects
  out_room k free near =
      let a : length (k ∷ order) ≤ objects = length-le_from_distinct_below (k ∷ order) objects
      (apart_cons k order (not_out k free) out.distinct) (λ q any. below q (Contains-from_any eqb-true q (k ∷ order) any)) in
      omega arith
    where
      below : (q : ℕ) → Contains (k ∷ order) q → q < objects
      below q (zero, l, is) = let e : k ≡ q = is in subst (λ n. n < objects) e near
      below q (suc i, l, is) = All-contains (λ n. n < objects) order q out.near (i, omega arith, is)

  -- an object is taken
  pub out_takes : (k : ℕ) (y : Slot) → (IsHeld held k → ⊥) → k < objects → AreOut ((k, slot.Empty) ∷ c) (k ∷ order) (new_held k y ∷ held)
  out_takes k y free near = record {
    carried = ap (λ l. (k, slot.Empty) ∷ l) out.carried;
    listed = All-cons (In (k ∷ order)) (new_held k y) held (zero, omega arith, refl)
        (All-weaker (In order) (In (k ∷ order)) (λ h d. contains_more order k h.object d) held out.listed);
    holds = All-cons (IsHeld (new_held k y ∷ held)) k order (new_held k y, (zero, omega arith, refl), refl)
        (All-weaker (IsHeld held) (IsHeld (new_held k y ∷ held)) (λ q d. (d.0, in_cons (new_held k y) held d.0 d.1, d.2)) order out.holds);
    near = All-cons (λ n. n < objects) k order near out.near;
    distinct = apart_cons k order (not_out k free) out.distinct;
  }

  -- what is held changes, each object by itself
  pub out_mapped : (f : Held → Held) → ((h : Held) → (f h).object ≡ h.object) → AreOut c order (map f held)
  out_mapped f same = record {
    carried = out.carried;
    listed = all_mapped f (In order) (In order) held (λ h d. subst (Contains order) (sym (same h)) d) out.listed;
    holds = All-weaker (IsHeld held) (IsHeld (map f held)) (λ q d. (f d.0, in_mapped f held d.0 d.1, same d.0 ∙ d.2)) order out.holds;
    near = out.near;
    distinct = out.distinct;
  }

  -- one held object changes
  pub out_changes : (h g : Held) → Contains held h → g.object ≡ h.object → AreOut c order (g ∷ without h.object held)
  out_changes h g has same = record {
    carried = out.carried;
    listed = All-cons (In order) g (without h.object held)
        (subst (Contains order) (sym same) (All-contains (In order) held h out.listed has))
        (all_without (In order) (In order) h.object held (λ f ne d. d) out.listed);
    holds = All-weaker (IsHeld held) (IsHeld (g ∷ without h.object held)) (λ q d. elim (ℕ_discrete d.0.object h.object) [
      | yes e ↦ (g, (zero, omega arith, refl), same ∙ sym e ∙ d.2)
      | no ne ↦ (d.0, in_cons g (without h.object held) d.0 (in_without h.object held d.0 ne d.1), d.2)
    ]) order out.holds;
    near = out.near;
    distinct = out.distinct;
  }

  -- an object is put back
  pub out_leaves : (k : ℕ) (order' : List ℕ) (c' : List (ℕ × Slot)) → IsPermutation order order' → order' ≡ k ∷ drop 1 order' → c'
      ≡ empties (drop 1 order') → AreOut c' (drop 1 order') (without k held)
  out_leaves k order' c' perm front is =
      let rest = drop 1 order' in
      let apart : Apart (k ∷ rest) = subst Apart front (IsDistinct-IsPermutation (λ a b. a == b) flips order order' perm out.distinct) in
      let back : (q : ℕ) → Contains rest q → Contains order q =
      λ q d. Contains-permutation order' order q (IsPermutation-sym order order' perm)
      (subst (λ l. Contains l q) (sym front) (contains_more rest k q d)) in
      record {
        carried = is;
        listed = all_without (In order) (In rest) k held
            (λ h ne d. Contains-tail k rest h.object (λ e. ne (sym e))
            (subst (λ l. Contains l h.object) front (Contains-permutation order order' h.object perm d))) out.listed;
        holds = all_of rest (IsHeld (without k held)) (λ q d.
            let o = All-contains (IsHeld held) order q out.holds (back q d) in
            (o.0, in_without k held o.0 (λ e. apart_head k rest apart q d (sym e ∙ o.2)) o.1, o.2));
        near = all_of rest (λ n. n < objects) (λ q d. All-contains (λ n. n < objects) order q out.near (back q d));
        distinct = apart_tail k rest apart;
      }
    where
      flips : (x y : ℕ) → (x == y) ≡ (y == x)
      flips x y = elim (ℕ_discrete x y) [
        | yes e ↦ eq-eqb x y e ∙ sym (eq-eqb y x (sym e))
        | no ne ↦ ne_eqb x y ne
            ∙ sym (ne_eqb y x (λ e. ne (sym e)))
      ]

      all_of : (xs : List ℕ) (P : ℕ → Type 0) → ((q : ℕ) → Contains xs q → P q) → All P xs
      all_of [] P f = All-nil P
      all_of (x ∷ xs) P f = All-cons P x xs (f x (zero, omega arith, refl)) (all_of xs P (λ q d. f q (contains_more xs x q d)))

  -- the object is among those whose slots are out
  pub is_out : (h : Held) → Contains held h → Contains order h.object
  is_out h has = All-contains (In order) held h out.listed has

-- where nothing is held no slot is out
pub nothing_out : (c : List (ℕ × Slot)) (order : List ℕ) (held : List Held) → AreOut c order held → held ≡ [] → c ≡ []
nothing_out c [] held out idle = out.carried
nothing_out c (k ∷ order) held out idle =
    absurd (let h = All-head (IsHeld held) k order out.holds in let near = h.1.0 in let none : length held ≡ 0 = ap length idle
    in omega arith)
