-- Lines that were taken, by place, and the first behind a place.
use Rattle.std.proofs.Common.{◌≡◌, ◌∙◌, ℕ, zero, suc, ◌+◌, ◌<◌, ◌≤◌, List, [], ◌∷◌, take, length, map, refl, sym, ap, subst, arith, inl, inr, Some, None, Bool, true, false}
use Rattle.std.specs.Prelude.{◌↔◌, IsTrue, Option, option_map, slice_get}
use Rattle.std.proofs.lemmas.Bool.{cases_lt}
use Rattle.std.proofs.lemmas.List.{take-map}
use Rattle.std.proofs.lemmas.Option.{slice_get-map, slice_get_within}
use Rattle.gl_explain.specs.declared.told.Told.{Told}
use Rattle.gl_explain.specs.declared.told.Kept.{Kept}
use Rattle.gl_explain.specs.Explained.{IsFirstBehind}
use Rattle.gl_explain.specs.Races.{IsPassed}
use Rattle.gl_explain.specs.Told.{step_of, told_of}
use Rattle.gl_model.specs.TraceSteps.{Step, IsLineItem}

-- what an option's image has comes from what the option has
mapped : {A B : Type 0} (f : A → B) (o : Option A) (b : B) → option_map f o ≡ Some b → (a : A) × (o ≡ Some a) × (f a ≡ b)
mapped f None b e = absurd (cc)
mapped f (Some a) b e = (a, refl, let same : Some (f a) ≡ Some b = e in cc)

-- what stands in the image of a list is the image of what stands there
pub map_at : {A B : Type 0} (f : A → B) (xs : List A) (i : ℕ) (b : B) → slice_get (map f xs) i ≡ Some b → (a : A)
    × (slice_get xs i ≡ Some a) × (f a ≡ b)
map_at f xs i b e = mapped f (slice_get xs i) b (sym (slice_get-map f xs i) ∙ e)

-- what stands in a list stands in its image, mapped
pub map_there : {A B : Type 0} (f : A → B) (xs : List A) (i : ℕ) (a : A) → slice_get xs i ≡ Some a → slice_get (map f xs) i ≡ Some (f a)
map_there f xs i a e = slice_get-map f xs i ∙ ap (option_map f) e

-- the told line of a kept one
abbrev pub told : Kept → Told
told k = k.told

module _ (kept : List Kept) (test : Told → Bool) (j : ℕ) where
  -- the lines behind j and before n do not pass the test
  abbrev pub NoneUpTo : ℕ → Type 0
  NoneUpTo n = (h : ℕ) (k : Kept) → j < h → h < n → slice_get kept h ≡ Some k → test k.told ≡ false

  -- where the line at n does not pass the test either, none behind j and before n + 1 does
  pub none_on : (n : ℕ) (k : Kept) → slice_get kept n ≡ Some k → test k.told ≡ false → NoneUpTo n → NoneUpTo (n + 1)
  none_on n k there fails none h q behind near at = elim (cases_lt h n) [
    | inl before ↦ none h q behind before at
    | inr over ↦
        (let here : h ≡ n = omega arith in
        let at' : slice_get kept n ≡ Some q = subst (λ z. slice_get kept z ≡ Some q) here at in
        let same : k ≡ q = cc in
        ap (λ (z : Kept). test z.told) (sym same) ∙ fails)
  ]

  -- where it passes, and stands behind j, it is the first one behind j that does
  pub first_found : (n : ℕ) (k : Kept) → j < n → slice_get kept n ≡ Some k → test k.told ≡ true → NoneUpTo n
      → IsFirstBehind test (told_of kept) j (Some k.told)
  first_found n k behind there passes none = (
    n,
    behind,
    map_there told kept n k there,
    passes,
    λ h q after before at. (let m = map_at told kept h q at in ap test (sym m.2)
        ∙ none h m.0 after before m.1),
  )

  -- where none up to the end of the lines passes the test, there is none behind j that does
  pub none_found : (n : ℕ) → length kept ≤ n → NoneUpTo n → IsFirstBehind test (told_of kept) j None
  none_found n all none = λ h q after at.
      let m = map_at told kept h q at in
      let near = slice_get_within kept h m.0 m.1 in
      ap test (sym m.2) ∙ none h m.0 after (omega arith) m.1

module _ (kept : List Kept) (t known i : ℕ) where
  -- where what tells whether the clock has passed the line at i says no, that line was not passed
  pub passed_no : (k : Kept) → slice_get kept i ≡ Some k → (b : Bool) → IsTrue b ↔ ((k.told.thread ≡ t) × (k.own ≤ known)) → b ≡ false
      → IsPassed kept t known i → ⊥
  passed_no k there b test fails (q, here, is) =
      let same : q ≡ k = cc in
      let yes = test.1 (subst (λ (z : Kept). (z.told.thread ≡ t) × (z.own ≤ known)) same is) in
      cc

  -- a line that was passed is one of those that are kept
  pub passed_near : IsPassed kept t known i → i < length kept
  passed_near (q, here, is) = slice_get_within kept i q here

-- the steps of lines that were kept have items of lines
pub steps_near : (kept : List Kept) → ((i : ℕ) (k : Kept) → slice_get kept i ≡ Some k → IsLineItem k.told.item) → (i : ℕ) (s : Step)
    → slice_get (map step_of (told_of kept)) i ≡ Some s → IsLineItem s.1
steps_near kept all i s at =
    let m = map_at step_of (told_of kept) i s at in
    let n = map_at told kept i m.0 m.1 in
    let is : n.0.told.item ≡ s.1 = ap (λ (t : Told). t.item) n.2 ∙ ap (λ (r : Step). r.1) m.2 in
    subst IsLineItem is (all i n.0 n.1)

-- what stands among the first n of a list stands at the same place in the list
pub get_taken : {A : Type 0} (n : ℕ) (xs : List A) (i : ℕ) (x : A) → slice_get (take n xs) i ≡ Some x → slice_get xs i ≡ Some x
get_taken zero xs i x at = absurd (cc)
get_taken (suc n) [] i x at = absurd (cc)
get_taken (suc n) (y ∷ xs) zero x at = at
get_taken (suc n) (y ∷ xs) (suc i) x at = get_taken n xs i x at

-- the first n kept lines, as they are told, are the first n told
pub told_taken : (n : ℕ) (kept : List Kept) → told_of (take n kept) ≡ take n (told_of kept)
told_taken n kept = sym (take-map told n kept)
