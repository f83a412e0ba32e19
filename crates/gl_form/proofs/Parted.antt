-- The parts of an attempt, looked up by variable; their variables, gathered one by one; and two lists that agree at each place.
use Rattle.std.proofs.Common.{◌≡◌, ◌≢◌, ℕ, ℤ, zero, suc, ◌+◌, ◌<◌, ◌≤◌, ◌==◌, nat_lt, Bool, true, false, List, [], ◌∷◌, ◌++◌, length, map}
use Rattle.std.proofs.Common.{take, Some, None, refl, sym, ◌∙◌, ap, subst, arith, inl, inr, add-one, eq-eqb}
use Rattle.std.specs.Prelude.{slice_get, ◌⊎◌, Contains, IsErr, MatchBool, OnOk, Result, Ok, Err, ◌↔◌}
use Rattle.std.specs.List.{AllByRecursion, find}
use Rattle.std.specs.Option.{option_map}
use Rattle.std.proofs.lemmas.Bool.Decides.{nat_tests}
use Rattle.std.proofs.lemmas.Bool.{cases_eq, cases_lt, cases_order}
use Rattle.std.proofs.lemmas.Option.{slice_get-map, slice_get_within}
use Rattle.std.proofs.lemmas.List.{length-map}
use Rattle.gl_model.specs.Form.{NumbersName}
use Rattle.gl_model.specs.Kept.{IsTxKept}
use Rattle.gl_model.specs.Rising.{AreVariables, Rises, with_one}
use Rattle.gl_model.specs.declared.limits.TheConstants.{TX_VARIABLES}
use Rattle.gl_model.specs.declared.tx.Look.{Look}
use Rattle.gl_model.specs.declared.tx.Number.{Number}
use Rattle.gl_model.specs.declared.tx.Tx.{Tx}
use Rattle.gl_form.specs.Passed.{OwnStandAfter}
use Rattle.gl_form.proofs.Lasts.{before_next}
use Rattle.gl_form.proofs.Parts.{at_of, contains_at, rising_at}

-- ## Looked up

-- what is found stands at some place, and is on the variable
found_at :
    (looks : List Look) (x : ℕ) (l : Look) → find (λ p. p.var == x) looks ≡ Some l → ((k : ℕ) × (slice_get looks k ≡ Some l)) × (l.var ≡ x)
found_at [] x l is = absurd cc
found_at (p ∷ looks) x l is = by_first (cases_eq p.var x) (λ more. found_at looks x l more) where
  by_first :
      (p.var ≡ x) ⊎ (p.var ≢ x) → (find (λ p. p.var == x) looks ≡ Some l → ((k : ℕ) × (slice_get looks k ≡ Some l)) × (l.var ≡ x)) →
      ((k : ℕ) × (slice_get (p ∷ looks) k ≡ Some l)) × (l.var ≡ x)
  by_first (inl same) rest =
      let here : (p.var == x) ≡ true = eq-eqb p.var x same in
      let first : Some p ≡ Some l = rw here at is in
      let one' : p ≡ l = cc in
      ((0, ap Some one'), ap (λ (q : Look). q.var) (sym one') ∙ same)
  by_first (inr other) rest =
      let there : (p.var == x) ≡ false = grind (arith, nat_tests) in
      let found : find (λ p. p.var == x) looks ≡ Some l = rw there at is in
      let more = rest found in
      ((suc more.0.0, more.0.1), more.1)

-- where no look at a variable is found, no look of the list is at it
none_found :
    (looks : List Look) (x : ℕ) → find (λ p. p.var == x) looks ≡ None → (k : ℕ) (l : Look) → slice_get looks k ≡ Some l → l.var ≡ x → ⊥
none_found [] x none k l at is = cc
none_found (p ∷ looks) x none k l at is = by_first (cases_eq p.var x) (λ more. none_found looks x more) k at where
  by_first :
      (p.var ≡ x) ⊎ (p.var ≢ x) → (find (λ p. p.var == x) looks ≡ None → (k : ℕ) (l : Look) → slice_get looks k ≡ Some l → l.var ≡ x → ⊥) →
      (k : ℕ) → slice_get (p ∷ looks) k ≡ Some l → ⊥
  by_first (inl same) rest j there = (let here : (p.var == x) ≡ true = eq-eqb p.var x same in
      let wrong : Some p ≡ None = rw here at none in cc)
  by_first (inr other) rest zero there = (let one' : p ≡ l = cc in other (ap (λ (q : Look). q.var) one' ∙ is))
  by_first (inr other) rest (suc j) there = (let here : (p.var == x) ≡ false = grind (arith, nat_tests) in
      let more : find (λ p. p.var == x) looks ≡ None = rw here at none in rest more j l there is)

-- a look, by variable, value and number
abbrev look_of : ℕ → ℤ → ℕ → Look
look_of x v k = record { var = x; value = v; nth = k }

-- where the variables of looks rise, two looks at one variable are the same look
one_look :
    (looks : List Look) → Rises (map (λ l. l.var) looks) → (j k : ℕ) (l m : Look) → slice_get looks j ≡ Some l →
    slice_get looks k ≡ Some m → l.var ≡ m.var → l ≡ m
one_look looks rises j k l m at also same = by_order (cases_order j k) where
  by_order : (j ≡ k) ⊎ ((j < k) ⊎ (k < j)) → l ≡ m
  by_order (inl is) = (let there : slice_get looks j ≡ Some m = rw is also in cc)
  by_order (inr (inl lt)) = (let lower = rising_at (λ (a : Look). a.var) looks j k l m rises at also lt in absurd (omega arith))
  by_order (inr (inr gt)) = (let lower = rising_at (λ (a : Look). a.var) looks k j m l rises also at gt in absurd (omega arith))

module _ (looks : List Look) (x : ℕ) where
  -- the look that is found is each look at the variable
  pub found_is :
      Rises (map (λ l. l.var) looks) → (l : Look) → find (λ p. p.var == x) looks ≡ Some l → (value : ℤ) (k : ℕ) →
      Contains looks (look_of x value k) → (l.value ≡ value) × (l.nth ≡ k)
  found_is rises l is value k c =
      let found = found_at looks x l is in
      let place = at_of looks (look_of x value k) c in
      let same : l ≡ look_of x value k = one_look looks rises found.0.0 place.0 l (look_of x value k) found.0.1 place.1 found.1 in
      (ap (λ (q : Look). q.value) same, ap (λ (q : Look). q.nth) same)

  -- the look that is found is in the list: a look at x, with its value and number
  pub found_contains : (l : Look) → find (λ p. p.var == x) looks ≡ Some l → Contains looks (look_of x l.value l.nth)
  found_contains l is =
      let found = found_at looks x l is in
      let same : l ≡ look_of x l.value l.nth = ap (λ y. look_of y l.value l.nth) found.1 in
      contains_at looks found.0.0 (look_of x l.value l.nth) (found.0.1 ∙ ap Some same)

  -- where nothing is found, no look in the list is at x
  pub none_contains : find (λ p. p.var == x) looks ≡ None → (value : ℤ) (k : ℕ) → Contains looks (look_of x value k) → ⊥
  none_contains none value k c = (let place = at_of looks (look_of x value k) c in
      none_found looks x none place.0 (look_of x value k) place.1 refl)

  -- where a look is found, and looks rise, a number on x stands after the looks at x exactly where it is above that look's
  pub after_found :
      Rises (map (λ l. l.var) looks) → (l : Look) → find (λ p. p.var == x) looks ≡ Some l → (m : ℕ) →
      MatchBool (nat_lt l.nth m) (OwnStandAfter looks x m) (OwnStandAfter looks x m → ⊥)
  after_found rises l is m = elim (cases_lt l.nth m) [
    | inl lt ↦ (let test : nat_lt l.nth m ≡ true = grind (arith, nat_tests) in
        rw test (λ k value c. let same = (found_is rises l is value k c).1 in omega arith))
    | inr ge ↦ (let test : nat_lt l.nth m ≡ false = grind (arith, nat_tests) in
        rw test (λ stands. let less = stands l.nth l.value (found_contains l is) in omega arith))
  ]

  -- where nothing is found, each number on x stands after all looks at x, since there is none
  pub after_none : find (λ p. p.var == x) looks ≡ None → (m : ℕ) → OwnStandAfter looks x m
  after_none none m k value c = absurd (none_contains none value k c)

  abbrev Reads : ℤ → Type 0
  Reads read = (nth : ℕ) × Contains looks (look_of x read nth)

  -- where a look is found, and looks rise, a value was read of x exactly where it is that look's
  pub read_found :
      Rises (map (λ l. l.var) looks) → (l : Look) → find (λ p. p.var == x) looks ≡ Some l → (read : ℤ) (b : Bool) →
      MatchBool b (l.value ≡ read) (l.value ≢ read) →
      MatchBool b (Reads read) (Reads read → ⊥)
  read_found rises l is read true same = (
    l.nth,
    (let P : ℤ → Type 0 = λ v. Contains looks (look_of x v l.nth) in
        subst P same (found_contains l is)),
  )
  read_found rises l is read false other = λ reads. other (found_is rises l is read reads.0 reads.1).0

  -- where nothing is found, no look read a value of x
  pub read_none : find (λ p. p.var == x) looks ≡ None → (read : ℤ) → Reads read → ⊥
  read_none none read reads = none_contains none read reads.0 reads.1

-- ## Own numbers stand after looks

module _ (tx : Tx) where
  abbrev AllAfter : Type 0
  AllAfter = (x m : ℕ) → Contains tx.numbers (record { var = x; nth = m }) → OwnStandAfter tx.looks x m

  -- where the number at i does not stand after each look at its variable, not all numbers of the attempt do so
  pub none_after : (i : ℕ) (n : Number) → slice_get tx.numbers i ≡ Some n → (OwnStandAfter tx.looks n.var n.nth → ⊥) → AllAfter → ⊥
  none_after i n at wrong all = wrong (all n.var n.nth (contains_at tx.numbers i n at))

  abbrev pub AfterBelow : ℕ → Type 0
  AfterBelow i = (k : ℕ) (n : Number) → k < i → slice_get tx.numbers k ≡ Some n → OwnStandAfter tx.looks n.var n.nth

  -- where the number at place i stands after its looks, those at places below i + 1 do if those at places below i do
  pub after_more :
      (i : ℕ) (a : Number) → AfterBelow i → slice_get tx.numbers i ≡ Some a → OwnStandAfter tx.looks a.var a.nth → AfterBelow (i + 1)
  after_more i a below at stands k n less there = elim (before_next i k less) [
    | inl lt ↦ below k n lt there
    | inr same ↦ (let here : slice_get tx.numbers i ≡ Some n = rw (sym same) there in let one' : n ≡ a = cc in
        let P : Number → Type 0 = λ q. OwnStandAfter tx.looks q.var q.nth in subst P (sym one') stands)
  ]

  -- where no number stands at place i, those at places below i + 1 stand after their looks if those at places below i do
  pub after_past : (i : ℕ) → AfterBelow i → slice_get tx.numbers i ≡ None → AfterBelow (i + 1)
  after_past i below past k n less there = elim (before_next i k less) [
    | inl lt ↦ below k n lt there
    | inr same ↦ (let here : slice_get tx.numbers i ≡ Some n = rw (sym same) there in absurd cc)
  ]

  -- where there are at most TX_VARIABLES numbers, all stand after their looks if those at places below TX_VARIABLES do
  pub all_after : length tx.numbers ≤ TX_VARIABLES → AfterBelow TX_VARIABLES → AllAfter
  all_after few below x m c = (let place = at_of tx.numbers (record { var = x; nth = m }) c in
      let within = slice_get_within tx.numbers place.0 _ place.1 in below place.0 (record { var = x; nth = m }) (omega arith) place.1)

  -- an attempt that keeps to what there is has at most TX_VARIABLES numbers
  pub numbers_few : IsTxKept tx → length tx.numbers ≤ TX_VARIABLES
  numbers_few kept = (let few = kept.2.0 in let same = length-map tx.numbers (λ (l : Number). l.var) in omega arith)

  -- where own numbers are on the variables xs, they name xs exactly where each stands after the looks at its variable
  pub named :
      (xs : List ℕ) → map (λ n. n.var) tx.numbers ≡ xs → (b : Bool) → MatchBool b AllAfter (AllAfter → ⊥) →
      MatchBool b (NumbersName tx xs) (NumbersName tx xs → ⊥)
  named xs on true all = record { variables = on; after_looks = λ x k m value look own. all x m own k value look }
  named xs on false wrong = λ names. wrong (λ x m own k value look. names.after_looks x k m value look own)

-- ## Gathered

-- a variable that is above all others is put in at the end
with_one_last : (x : ℕ) (xs : List ℕ) → AllByRecursion (λ y. y < x) xs → with_one x xs ≡ xs ++ x ∷ []
with_one_last x [] all = refl
with_one_last x (y ∷ ys) all =
    let less : y < x = all.0 in
    let other : (x == y) ≡ false = grind (arith, nat_tests) in
    let above : nat_lt x y ≡ false = grind (arith, nat_tests) in
    rw (other, above) (ap (λ zs. y ∷ zs) (with_one_last x ys all.1))

-- in a list that rises, the one at place i is above all before it
taken_below : (xs : List ℕ) (i x : ℕ) → Rises xs → slice_get xs i ≡ Some x → AllByRecursion (λ y. y < x) (take i xs)
taken_below [] i x rises at = absurd cc
taken_below (y ∷ ys) zero x rises at = tt
taken_below (y ∷ ys) (suc i) x rises at = (all_above y ys i x rises.0 at, taken_below ys i x rises.1 at) where
  all_above : (y : ℕ) (ys : List ℕ) (i x : ℕ) → AllByRecursion (λ z. y < z) ys → slice_get ys i ≡ Some x → y < x
  all_above y [] i x all at = absurd cc
  all_above y (z ∷ zs) zero x all at = (let same : z ≡ x = cc in rw (sym same) all.0)
  all_above y (z ∷ zs) (suc i) x all at = all_above y zs i x all.1 at

-- the first i + 1 are the first i, and then the one at i
take_next : (xs : List ℕ) (i x : ℕ) → slice_get xs i ≡ Some x → take (suc i) xs ≡ take i xs ++ x ∷ []
take_next [] i x at = absurd cc
take_next (y ∷ ys) zero x at = (let same : y ≡ x = cc in rw same refl)
take_next (y ∷ ys) (suc i) x at = ap (λ zs. y ∷ zs) (take_next ys i x at)

-- where nothing stands at i, the first i + 1 are the first i
take_past : (xs : List ℕ) (i : ℕ) → slice_get xs i ≡ None → take (suc i) xs ≡ take i xs
take_past [] zero at = refl
take_past [] (suc i) at = refl
take_past (y ∷ ys) zero at = absurd cc
take_past (y ∷ ys) (suc i) at = ap (λ zs. y ∷ zs) (take_past ys i at)

-- the first i are no more than i
take_few : (xs : List ℕ) (i : ℕ) → length (take i xs) ≤ i
take_few [] zero = omega arith
take_few [] (suc i) = omega arith
take_few (x ∷ xs) zero = omega arith
take_few (x ∷ xs) (suc i) = (let more = take_few xs i in omega arith)

module _ {A : Type 0} (var : A → ℕ) (parts : List A) (are : AreVariables (map var parts)) (i : ℕ) (less : i < TX_VARIABLES)
    (vars : List ℕ) (so_far : vars ≡ take i (map var parts)) where
  -- where a part stands at i, putting in its variable, for which there is room, gives the variables of the first i + 1 parts
  pub gathered :
      {V E : Type 0} (a : A) → slice_get parts i ≡ Some a → (result : Result V E) (new : List ℕ) →
      OnOk result (new ≡ with_one (var a) vars) →
      IsErr result ↔ ((length vars ≡ TX_VARIABLES) × (Contains vars (var a) → ⊥)) → new ≡ take (i + 1) (map var parts)
  gathered a at (Ok u) new put full =
      let there : slice_get (map var parts) i ≡ Some (var a) = slice_get-map var parts i ∙ ap (option_map var) at in
      let below = taken_below (map var parts) i (var a) are.1 there in
      put ∙ ap (with_one (var a)) so_far ∙ with_one_last (var a) (take i (map var parts)) below
      ∙ sym (take_next (map var parts) i (var a) there)
      ∙ ap (λ n. take n (map var parts)) (sym (add-one i))
  gathered a at (Err e) new put full = (
      let wide : length vars ≡ TX_VARIABLES = (full.0 refl).0 in
      let few = take_few (map var parts) i in
      let same = ap length so_far in
      absurd (omega arith))

  -- where no part stands at i, the variables gathered so far are already those of the first i + 1 parts
  pub gathered_past : slice_get parts i ≡ None → vars ≡ take (i + 1) (map var parts)
  gathered_past at =
      let past : slice_get (map var parts) i ≡ None = slice_get-map var parts i ∙ ap (option_map var) at in
      so_far ∙ sym (take_past (map var parts) i past) ∙ ap (λ n. take n (map var parts)) (sym (add-one i))

-- ## Lists that agree

-- two short lists that have the same at each place are the same
pub same_lists : (n : ℕ) (xs ys : List ℕ) → length xs ≤ n → length ys ≤ n → ((k : ℕ) → k < n → slice_get xs k ≡ slice_get ys k) → xs ≡ ys
same_lists n [] [] few also same = refl
same_lists n (x ∷ xs) [] few also same = (let wrong : Some x ≡ None = same 0 (omega arith) in absurd cc)
same_lists n [] (y ∷ ys) few also same = (let wrong : None ≡ Some y = same 0 (omega arith) in absurd cc)
same_lists zero (x ∷ xs) (y ∷ ys) few also same = absurd (omega arith)
same_lists (suc n) (x ∷ xs) (y ∷ ys) few also same =
    let first : Some x ≡ Some y = same 0 (omega arith) in
    let heads : x ≡ y = cc in
    let tails = same_lists n xs ys (omega arith) (omega arith) (λ k less. same (suc k) (omega arith)) in
    rw (heads, tails) refl
