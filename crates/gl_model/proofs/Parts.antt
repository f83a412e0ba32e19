-- Parts that rise by their variable, kept at the head of an array.
use Rattle.std.proofs.Common.{◌≡◌, ◌≢◌, ℕ, zero, suc, ◌+◌, ◌-◌, ◌<◌, ◌≤◌, List, [], ◌∷◌, ◌++◌, length, take, drop, get_or, map, refl, ap, sym, ◌∙◌, inl, inr, true, false, Some, None, arith}
use Rattle.std.specs.Prelude.{Bool, slice_range, Contains}
use Rattle.std.specs.List.{find}
use Rattle.std.proofs.Math.ListN.{set}
use Rattle.std.proofs.Math.Nat.{eq-or-lt_of_le}
use Rattle.std.proofs.Math.Seq.{take-set-lt, drop-cons}
use Rattle.std.proofs.lemmas.List.Folds.{find-append}
use Rattle.std.proofs.lemmas.Bool.{cases_lt}
use Rattle.std.proofs.lemmas.Bool.Decides.{nat_tests}
use Rattle.std.proofs.lemmas.List.{take_more, take_all, take-append-drop, length-take-le, length-map, get_or-map, get_or-take, get_or_default, take-take, drop-take}
use Rattle.gl_model.specs.declared.limits.TheConstants.{VARIABLES, TX_VARIABLES}
use Rattle.gl_model.specs.Kept.{AreVariables}
use Rattle.gl_model.specs.Rising.{Rises, with_one, with_part}
use Rattle.gl_model.proofs.RisingLists.{with_one-above, with_one-below, with_one-same, All-with_one, Rises-with_one, not_there}

-- the place of a variable among the parts
pub record Placed {A : Type 0} (key : A → ℕ) (x : ℕ) (xs : List A) (i : ℕ) : Type 0 where
  pub within : i ≤ length xs
  pub below : (k : ℕ) (d : A) → k < i → key (get_or xs k d) < x
  pub here : (d : A) → i < length xs → x ≤ key (get_or xs i d)

module _ {A : Type 0} (key : A → ℕ) (p : A) where
  -- a part whose variable is below that of the first is put before it
  with_part-above : (q : A) (qs : List A) → key p < key q → with_part key p (q ∷ qs) ≡ p ∷ (q ∷ qs)
  with_part-above q qs l = grind (arith, nat_tests)

  -- a part whose variable is above that of the first is put into the rest
  with_part-below : (q : A) (qs : List A) → key q < key p → with_part key p (q ∷ qs) ≡ q ∷ with_part key p qs
  with_part-below q qs l = grind (arith, nat_tests)

  -- a part with the variable of the first takes its place
  with_part-same : (q : A) (qs : List A) → key q ≡ key p → with_part key p (q ∷ qs) ≡ p ∷ qs
  with_part-same q qs e = grind (arith, nat_tests)

  -- its variables are the old ones and that of the part
  keys-with_part : (qs : List A) → map key (with_part key p qs) ≡ with_one (key p) (map key qs)
  keys-with_part [] = refl
  keys-with_part (q ∷ qs) = elim (cases_lt (key p) (key q)) [
    | inl l ↦ rw (with_part-above q qs l, with_one-above (key p) (key q) (map key qs) l)
    | inr ge ↦ elim (eq-or-lt_of_le ge) [
      | inl same ↦ rw (with_part-same q qs same, with_one-same (key p) (key q) (map key qs) same) (ap (λ k. k ∷ map key qs) (sym same))
      | inr l ↦ rw (with_part-below q qs l, with_one-below (key p) (key q) (map key qs) l) (ap (λ ks. key q ∷ ks) (keys-with_part qs))
    ]
  ]

  -- by the place of the part
  with_part-at : (xs : List A) (i : ℕ) → i ≤ length xs → ((k : ℕ) (d : A) → k < i → key (get_or xs k d) < key p)
      → ((d : A) → i < length xs → key p < key (get_or xs i d)) → take i xs ++ p ∷ drop i xs ≡ with_part key p xs
  with_part-at [] i le below above = let none : i ≡ zero = omega arith in rw none
  with_part-at (x ∷ xs) zero le below above = sym (with_part-above x xs (above p (omega arith)))
  with_part-at (x ∷ xs) (suc i) le below above =
      rw (with_part-below x xs (below zero p (omega arith)))
      (ap (λ zs. x ∷ zs) (with_part-at xs i (omega arith) (λ k d l. below (suc k) d (omega arith)) (λ d l. above d (omega arith))))

  -- where the list has a part of the variable at i and lower ones before it, putting the part in is setting it at i
  with_part-there : (xs : List A) (i : ℕ) → i < length xs → ((k : ℕ) (d : A) → k < i → key (get_or xs k d) < key p) → key (get_or xs i p)
      ≡ key p → set xs i p ≡ with_part key p xs
  with_part-there [] i n below here = absurd (omega arith)
  with_part-there (x ∷ xs) zero n below here = sym (with_part-same x xs here)
  with_part-there (x ∷ xs) (suc i) n below here =
      rw (with_part-below x xs (below zero p (omega arith)))
      (ap (λ zs. x ∷ zs) (with_part-there xs i (omega arith) (λ k d l. below (suc k) d (omega arith)) here))

  -- the parts stand at the head of an array
  module _ (parts : List A) (len i : ℕ) (long : len ≤ length parts) (placed : Placed key (key p) (take len parts) i) where
    -- the head of the array has len parts
    head : length (take len parts) ≡ len
    head = length-take-le len parts long

    -- where the part at i has the key of p, setting it to p gives the parts with p
    pub set_there : (d : A) → i < len → key (get_or parts i d) ≡ key p → take len (set parts i p) ≡ with_part key p (take len parts)
    set_there d l e =
        let n : i < length parts = omega arith in
        let same : key (get_or (take len parts) i p) ≡ key p = ap key (get_or-take len parts i p l ∙ get_or_default parts i p d n) ∙ e in
        take-set-lt len parts i p l ∙ with_part-there (take len parts) i (omega (arith, head)) placed.below same

    -- a part at i that has another key than p has it whatever is given for a part that is not there
    pub otherwise : (at d : A) → i < len → key (get_or parts i at) ≢ key p → key (get_or parts i d) ≢ key p
    otherwise at d l other same = other (ap key (get_or_default parts i at d (omega arith)) ∙ same)

    -- if the part at i has another variable, that is above the part's
    above_here : ((d : A) → i < len → key (get_or parts i d) ≢ key p) → (d : A) → i < length (take len parts)
        → key p < key (get_or (take len parts) i d)
    above_here other d l =
        let l' : i < len = omega (arith, head) in
        let e : key (get_or (take len parts) i d) ≡ key (get_or parts i d) = ap key (get_or-take len parts i d l') in
        let ne : key (get_or parts i d) ≢ key p = other d l' in
        let le : key p ≤ key (get_or (take len parts) i d) = placed.here d l in
        omega arith

    -- where the part at i, if there is one, has another key than p, putting p in before it gives the parts with p
    pub put_there : ((d : A) → i < len → key (get_or parts i d) ≢ key p) → take i parts ++ p ∷ slice_range parts i len
        ≡ with_part key p (take len parts)
    put_there other =
        let within = placed.within in
        let le : i ≤ len = omega (arith, head) in
        let split : i + (len - i) ≡ len = omega arith in
        let first : take i (take len parts) ≡ take i parts = take-take i len parts le in
        let rest : drop i (take len parts) ≡ slice_range parts i len = rw split at (drop-take i (len - i) parts) in
        ap (λ ys. ys ++ p ∷ slice_range parts i len) (sym first) ∙ ap (λ ys. take i (take len parts) ++ p ∷ ys) (sym rest)
        ∙ (with_part-at (take len parts) i placed.within placed.below (above_here other))

    -- where the part at i, if there is one, has another key than p, and the keys rise, no part has the key of p
    pub not_among : Rises (map key (take len parts)) → ((d : A) → i < len → key (get_or parts i d) ≢ key p)
        → Contains (map key (take len parts)) (key p) → ⊥
    not_among rises other c = not_there (map key (take len parts)) (key p) i rises
        (λ k l. let within = placed.within in let n : k < length (take len parts) = omega arith
        in rw (get_or-map key (take len parts) k p 0 n) (placed.below k p l))
        (λ l. let n : i < length (take len parts) = omega (arith, length-map (take len parts) key)
        in rw (get_or-map key (take len parts) i p 0 n) (above_here other p n))
        c.0 c.1 (get_or_default (map key (take len parts)) c.0 0 (key p) c.1 ∙ c.2)

  -- the variables of the parts keep to their rules
  pub still_variables : (xs ys : List A) → ys ≡ with_part key p xs → length ys ≤ TX_VARIABLES → key p < VARIABLES
      → AreVariables (map key xs) → AreVariables (map key ys)
  still_variables xs ys is n within old =
      let keys : map key ys ≡ with_one (key p) (map key xs) = ap (map key) is ∙ keys-with_part xs in
      let long : length (map key ys) ≤ TX_VARIABLES = omega (arith, length-map ys key) in (
        long,
        rw keys (Rises-with_one (key p) (map key xs) old.1),
        rw keys
            (All-with_one (λ x. x < VARIABLES) (key p) (map key xs) within old.2),
      )

-- where none of the first i passes the test, nor does what stands at i, none of the first i + 1 does
pub find_more : {A : Type 0} (test : A → Bool) (xs : List A) (i : ℕ) (d : A) → i < length xs → find test (take i xs) ≡ None
    → test (get_or xs i d) ≡ false → find test (take (i + 1) xs) ≡ None
find_more test xs i d n none fails = rw (take_more xs i d n, find-append test (take i xs) (get_or xs i d ∷ []), none, fails)

-- the first that passes a test is found at i, where none before it does
pub find_here : {A : Type 0} (test : A → Bool) (xs : List A) (i : ℕ) (d : A) → i < length xs → find test (take i xs) ≡ None
    → test (get_or xs i d) ≡ true → Some (get_or xs i d) ≡ find test xs
find_here test xs i d n none passes =
    let split : xs ≡ take i xs ++ (get_or xs i d ∷ drop (suc i) xs) = sym (take-append-drop i xs)
    ∙ ap (λ ys. take i xs ++ ys) (drop-cons xs i d n) in
    let first : find test (get_or xs i d ∷ drop (suc i) xs) ≡ Some (get_or xs i d) = rw passes in
    sym (ap (find test) split ∙ find-append test (take i xs) (get_or xs i d ∷ drop (suc i) xs) ∙ rw (none, first))

-- nothing is found where none passes
pub find_none : {A : Type 0} (test : A → Bool) (xs : List A) (i : ℕ) → length xs ≤ i → find test (take i xs) ≡ None → None ≡ find test xs
find_none test xs i n none = sym (ap (find test) (sym (take_all i xs n)) ∙ none)
