-- Lists by place.
use Rattle.std.proofs.Common.{◌≡◌, ℕ, zero, suc, ◌+◌, ◌<◌, ◌≤◌, List, [], ◌∷◌, ◌++◌, length, map, refl, sym, ◌∙◌, ap, subst, inl, inr, arith, Some, None}
use Rattle.std.specs.Prelude.{◌⊎◌, Option, Contains, slice_get, option_map}
use Rattle.std.specs.List.{AllByRecursion}
use Rattle.std.proofs.lemmas.Bool.{cases_lt}
use Rattle.std.proofs.lemmas.Option.{slice_get-map, slice_get-get_or, slice_get_within, get_or_from_slice_get}
use Rattle.gl_model.specs.declared.event.Stamp.{Stamp}
use Rattle.gl_model.specs.Edges.{EventAt}
use Rattle.gl_model.specs.Rising.{Rises}

-- what stood in a list stands there in a longer one
pub get_kept : {A : Type 0} (xs more : List A) (i : ℕ) (x : A) → slice_get xs i ≡ Some x → slice_get (xs ++ more) i ≡ Some x
get_kept [] more i x e = absurd (cc)
get_kept (y ∷ xs) more zero x e = e
get_kept (y ∷ xs) more (suc i) x e = get_kept xs more i x e

-- what stands at j of a second list stands that far after the first
pub get_more : {A : Type 0} (xs more : List A) (j : ℕ) (x : A) → slice_get more j ≡ Some x → slice_get (xs ++ more) (length xs + j) ≡ Some x
get_more [] more j x e = let here : 0 + j ≡ j = omega arith in rw here e
get_more (y ∷ xs) more j x e = let here : suc (length xs) + j ≡ suc (length xs + j) = omega arith in rw here (get_more xs more j x e)

-- what stands in two lists after one another stands in one of them
pub get_cases : {A : Type 0} (xs more : List A) (i : ℕ) (x : A) → slice_get (xs ++ more) i ≡ Some x → (slice_get xs i ≡ Some x)
    ⊎ ((j : ℕ) × (slice_get more j ≡ Some x))
get_cases [] more i x e = inr (i, e)
get_cases (y ∷ xs) more zero x e = inl e
get_cases (y ∷ xs) more (suc i) x e = get_cases xs more i x e

-- the image in an option comes from what is in it
mapped : {A B : Type 0} (f : A → B) (o : Option A) (b : B) → option_map f o ≡ Some b → (a : A) × (o ≡ Some a) × (f a ≡ b)
mapped f None b e = absurd (cc)
mapped f (Some a) b e = (a, refl, let same : Some (f a) ≡ Some b = e in cc)

-- what stands in a mapped list is the image of what stands there in the list
pub map_cases : {A B : Type 0} (f : A → B) (xs : List A) (i : ℕ) (b : B) → slice_get (map f xs) i ≡ Some b → (a : A)
    × (slice_get xs i ≡ Some a) × (f a ≡ b)
map_cases f xs i b e = mapped f (slice_get xs i) b (sym (slice_get-map f xs i) ∙ e)

-- the image of a member stands where the member does
pub map_there : {A B : Type 0} (f : A → B) (xs : List A) (i : ℕ) (a : A) → slice_get xs i ≡ Some a → slice_get (map f xs) i ≡ Some (f a)
map_there f xs i a e = slice_get-map f xs i ∙ ap (option_map f) e

-- each element of a list stands there at some place
pub place_of : (xs : List ℕ) (y : ℕ) → Contains xs y → (k : ℕ) × (slice_get xs k ≡ Some y)
place_of xs y c = (c.0, slice_get-get_or xs c.0 y c.1 ∙ ap Some c.2)

-- what stands at a place is in the list
pub contains_at : (xs : List ℕ) (k y : ℕ) → slice_get xs k ≡ Some y → Contains xs y
contains_at xs k y e = (k, slice_get_within xs k y e, get_or_from_slice_get xs k y y e)

-- what holds of all holds of what stands at a place
all_at : (P : ℕ → Type 0) (xs : List ℕ) (k y : ℕ) → AllByRecursion P xs → slice_get xs k ≡ Some y → P y
all_at P [] k y all e = absurd (cc)
all_at P (x ∷ xs) zero y all e = let same : x ≡ y = cc in subst P same all.0
all_at P (x ∷ xs) (suc k) y all e = all_at P xs k y all.1 e

-- in a list that rises what stands earlier is less
rises_at : (xs : List ℕ) (i k a b : ℕ) → Rises xs → i < k → slice_get xs i ≡ Some a → slice_get xs k ≡ Some b → a < b
rises_at [] i k a b rising less e f = absurd (cc)
rises_at (x ∷ xs) i zero a b rising less e f = absurd (omega arith)
rises_at (x ∷ xs) zero (suc k) a b rising less e f = let same : x ≡ a = cc
    in subst (λ z. z < b) same (all_at (λ y. x < y) xs k b rising.0 f)
rises_at (x ∷ xs) (suc i) (suc k) a b rising less e f = rises_at xs i k a b rising.1 (omega arith) e f

-- in a list that rises, what is less stands before
pub less_before : (xs : List ℕ) (i k a b : ℕ) → Rises xs → slice_get xs i ≡ Some a → slice_get xs k ≡ Some b → b < a → k < i
less_before xs i k a b rising e f less = elim (cases_lt k i) [
  | inl before ↦ before
  | inr behind ↦ elim (cases_lt i k) [
    | inl after ↦ absurd (let l = rises_at xs i k a b rising after e f in omega arith)
    | inr over ↦ absurd (let same : k ≡ i = omega arith in let g : slice_get xs i ≡ Some b = subst (λ j. slice_get xs j ≡ Some b) same f
        in let z : a ≡ b = cc in omega arith)
  ]
]

-- the last event of a thread, looked for from the front
module _ (h : List Stamp) (t : ℕ) where
  abbrev pub Upto : ℕ → ℕ → Type 0
  Upto n last = (q : ℕ) (s : Stamp) → q < n → EventAt h q s → s.thread ≡ t → q ≤ last

  abbrev pub IsOf : ℕ → Type 0
  IsOf p = (s : Stamp) × EventAt h p s × (s.thread ≡ t)
