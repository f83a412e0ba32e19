-- The numbers of an attempt's parts, whose variables rise, become the last ones, part by part.
use Rattle.std.proofs.Common.{◌≡◌, ◌≢◌, ℕ, zero, suc, ◌+◌, ◌<◌, List, [], ◌∷◌, length, map, set, Option, Some, None, refl, sym, ◌∙◌, ap}
use Rattle.std.proofs.Common.{subst, arith, inl, inr}
use Rattle.std.specs.Prelude.{slice_get, ◌⊎◌, Contains}
use Rattle.std.specs.List.{AllByRecursion}
use Rattle.std.proofs.lemmas.Bool.{cases_eq}
use Rattle.std.proofs.lemmas.Grind.{get_or-set_at}
use Rattle.std.proofs.lemmas.List.{get_or-set_other}
use Rattle.std.proofs.lemmas.Option.{slice_get-get_or, get_or_from_slice_get, slice_get_within}
use Rattle.gl_model.specs.Rising.{AreVariables, Rises}
use Rattle.gl_model.specs.declared.limits.TheConstants.{VARIABLES}
use Rattle.gl_form.specs.Passed.{AreDrawn, IsAbove, IsNotAbove, last_on}
use Rattle.gl_form.proofs.Lasts.{before_next}

-- what a list contains stands at some place
pub at_of : {A : Type 0} → (xs : List A) (x : A) → Contains xs x → (k : ℕ) × (slice_get xs k ≡ Some x)
at_of xs x c = (c.0, slice_get-get_or xs c.0 x c.1 ∙ ap Some c.2)

-- what stands at a place is in the list
pub contains_at : {A : Type 0} → (xs : List A) (k : ℕ) (x : A) → slice_get xs k ≡ Some x → Contains xs x
contains_at xs k x at = (k, slice_get_within xs k x at, get_or_from_slice_get xs k x x at)

-- what holds of the variables of all parts holds of that of the part at a place
pub all_at :
    (P : ℕ → Type 0) {A : Type 0} (var : A → ℕ) (parts : List A) (k : ℕ) (a : A) → AllByRecursion P (map var parts) →
    slice_get parts k ≡ Some a → P (var a)
all_at P var [] k a all at = cc
all_at P var (x ∷ parts) zero a all at = (let same : x ≡ a = cc in subst P (ap var same) all.0)
all_at P var (x ∷ parts) (suc k) a all at = all_at P var parts k a all.1 at

-- a part's variable is one that there is
pub part_in_range :
    {A : Type 0} (var : A → ℕ) (parts : List A) (k : ℕ) (a : A) → AreVariables (map var parts) → slice_get parts k ≡ Some a →
    var a < VARIABLES
part_in_range var parts k a are at = all_at (λ x. x < VARIABLES) var parts k a are.2 at

-- where the variables of parts rise, an earlier part has a lower variable than a later one
pub rising_at :
    {A : Type 0} (var : A → ℕ) (parts : List A) (j k : ℕ) (a b : A) → Rises (map var parts) → slice_get parts j ≡ Some a →
    slice_get parts k ≡ Some b → j < k → var a < var b
rising_at var [] j k a b rises at also less = cc
rising_at var (x ∷ parts) zero zero a b rises at also less = absurd (omega arith)
rising_at var (x ∷ parts) zero (suc k) a b rises at also less = (let same : x ≡ a = cc in
    let all = all_at (λ y. var x < y) var parts k b rises.0 also in rw (sym same) all)
rising_at var (x ∷ parts) (suc j) zero a b rises at also less = absurd (omega arith)
rising_at var (x ∷ parts) (suc j) (suc k) a b rises at also less = rising_at var parts j k a b rises.1 at also (omega arith)

-- some part has the variable, or none has
pub has_part : {A : Type 0} (var : A → ℕ) (parts : List A) (x : ℕ) →
    ((k : ℕ) × ((a : A) × (slice_get parts k ≡ Some a) × (var a ≡ x))) ⊎ ((k : ℕ) (a : A) → slice_get parts k ≡ Some a → var a ≡ x → ⊥)
has_part {A} var [] x = inr (λ k a at is. cc)
has_part {A} var (p ∷ parts) x = by_first (cases_eq (var p) x) (has_part var parts x) where
  Found : List A → Type 0
  Found ps = ((k : ℕ) × ((a : A) × (slice_get ps k ≡ Some a) × (var a ≡ x))) ⊎ ((k : ℕ) (a : A) → slice_get ps k ≡ Some a → var a ≡ x → ⊥)

  none_here :
      (var p ≢ x) → ((k : ℕ) (a : A) → slice_get parts k ≡ Some a → var a ≡ x → ⊥) → (k : ℕ) (a : A) → slice_get (p ∷ parts) k ≡ Some a →
      var a ≡ x → ⊥
  none_here other none zero a at is = (let same : p ≡ a = cc in other (ap var same ∙ is))
  none_here other none (suc k) a at is = none k a at is

  by_first : (var p ≡ x) ⊎ (var p ≢ x) → Found parts → Found (p ∷ parts)
  by_first (inl is) rest = inl (0, (p, refl, is))
  by_first (inr other) (inl found) = inl (suc found.0, (found.1.0, found.1.1, found.1.2))
  by_first (inr other) (inr none) = inr (none_here other none)

module _ {A : Type 0} (var nth : A → ℕ) (parts : List A) (old : List (Option ℕ)) where
  -- before any part was drawn, the last numbers are the old ones
  pub none_drawn : AreDrawn var nth parts 0 old old
  none_drawn = record { above = λ m a at less. absurd (omega arith); drawn = λ m a at less. absurd (omega arith); others = λ x none. refl }

  module _ (n : ℕ) (cur : List (Option ℕ)) (are : AreDrawn var nth parts n old cur) where
    -- where the first n parts were drawn and none stands at n, the first n + 1 were drawn
    pub past_parts : slice_get parts n ≡ None → AreDrawn var nth parts (n + 1) old cur
    past_parts past = record {
      above = λ m a at less. are.above m a at (sooner m a at less);
      drawn = λ m a at less. are.drawn m a at (sooner m a at less);
      others = λ x none. are.others x (λ m a at less is. none m a at (omega arith) is);
    } where
      sooner : (m : ℕ) (a : A) → slice_get parts m ≡ Some a → m < n + 1 → m < n
      sooner m a at less = elim (before_next n m less) [
        | inl lt ↦ lt
        | inr same ↦ (let there : slice_get parts n ≡ Some a = rw (sym same) at in absurd cc)
      ]

    module _ (rises : Rises (map var parts)) (a : A) (at : slice_get parts n ≡ Some a) where
      -- the last number on the next part's variable is the old one
      untouched : last_on cur (var a) ≡ last_on old (var a)
      untouched = are.others (var a) (λ m b there less is. let lower = rising_at var parts m n b a rises there at less in omega arith)

      -- where the number of the part at n is not above the last one of its variable now, it is not above the old one
      pub part_not_above : (IsAbove (last_on cur (var a)) (nth a) → ⊥) → IsNotAbove var nth parts old
      part_not_above wrong = (n, (a, at, (let P : Option ℕ → Type 0 = λ o. IsAbove o (nth a) → ⊥ in subst P untouched wrong)))

      -- where the number of the part at n is above the last one of its variable, and is then put there, the first n + 1 parts were drawn
      pub part_drawn :
          (new : List (Option ℕ)) → var a < length cur → IsAbove (last_on cur (var a)) (nth a) → new ≡ set cur (var a) (Some (nth a)) →
          AreDrawn var nth parts (n + 1) old new
      part_drawn new within is_above is = record {
        above = λ m b there less. elim (before_next n m less) [
          | inl lt ↦ are.above m b there lt
          | inr same ↦ (let one : b ≡ a = same_part m b there same in let P : A → Type 0 = λ p. IsAbove (last_on old (var p)) (nth p) in
              subst P (sym one) old_above)
        ];
        drawn = λ m b there less. elim (before_next n m less) [
          | inl lt ↦ (let lower = rising_at var parts m n b a rises there at lt in
              ap (λ l. last_on l (var b)) is ∙ get_or-set_other cur (var a) (var b) (Some (nth a)) None (λ same. omega arith)
              ∙ are.drawn m b there lt)
          | inr same ↦ (let one : b ≡ a = same_part m b there same in let P : A → Type 0 = λ p. last_on new (var p) ≡ Some (nth p) in
              subst P (sym one) mine)
        ];
        others = λ x none. ap (λ l. last_on l x) is ∙ get_or-set_other cur (var a) x (Some (nth a)) None
            (λ same. none n a at (omega arith) (sym same)) ∙ are.others x (λ m b there less same. none m b there (omega arith) same);
      } where
        same_part : (m : ℕ) (b : A) → slice_get parts m ≡ Some b → m ≡ n → b ≡ a
        same_part m b there same = (let here : slice_get parts n ≡ Some b = rw (sym same) there in cc)

        old_above : IsAbove (last_on old (var a)) (nth a)
        old_above = (let P : Option ℕ → Type 0 = λ o. IsAbove o (nth a) in subst P untouched is_above)

        mine : last_on new (var a) ≡ Some (nth a)
        mine = ap (λ l. last_on l (var a)) is ∙ get_or-set_at cur (var a) (var a) (Some (nth a)) None refl within
