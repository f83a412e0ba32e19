-- The numbers of an attempt, first those of its looks and then its own, become the last ones.
use Rattle.std.proofs.Common.{◌≡◌, ℕ, ℤ, ◌<◌, ◌≤◌, Bool, true, false, List, Option, Some, None, refl, sym, ◌∙◌, ap, subst, arith, inl, inr}
use Rattle.std.specs.Prelude.{slice_get, ◌⊎◌, Contains, MatchBool}
use Rattle.std.proofs.lemmas.Option.{slice_get_within}
use Rattle.std.proofs.lemmas.List.{length-map}
use Rattle.gl_model.specs.Kept.{IsTxKept}
use Rattle.gl_model.specs.declared.limits.TheConstants.{TX_VARIABLES}
use Rattle.gl_model.specs.declared.tx.Look.{Look}
use Rattle.gl_model.specs.declared.tx.Number.{Number}
use Rattle.gl_model.specs.declared.tx.Tx.{Tx}
use Rattle.gl_form.specs.Passed.{AreDrawn, IsAbove, IsNotAbove, IsTxLast, TxDraws, TxGoesOn, last_on}
use Rattle.gl_form.proofs.Parts.{at_of, contains_at, has_part}

-- a look, by variable, value and number
abbrev pub look_of : ℕ → ℤ → ℕ → Look
look_of x v k = record { var = x; value = v; nth = k }

-- a number of its own, by variable
abbrev pub number_of : ℕ → ℕ → Number
number_of x k = record { var = x; nth = k }

-- what is above the last number is so with more added
above_more : (last : Option ℕ) (k m : ℕ) → IsAbove last k → k < m → IsAbove last m
above_more None k m is less = tt
above_more (Some n) k m is less = (let lt : n < k = is in omega arith)

-- an option has one content
some_same : (k m : ℕ) (o : Option ℕ) → o ≡ Some k → o ≡ Some m → k ≡ m
some_same k m o is also = cc

module _ (tx : Tx) (kept : IsTxKept tx) where
  -- each look of a transaction that keeps to its bounds stands at a place below the number of variables that one may have
  look_below : (m : ℕ) (a : Look) → slice_get tx.looks m ≡ Some a → m < TX_VARIABLES
  look_below m a at = (let within = slice_get_within tx.looks m a at in let few = kept.0.0 in
      let same = length-map tx.looks (λ (l : Look). l.var) in omega arith)

  -- each number of a transaction that keeps to its bounds stands at a place below the number of variables that one may have
  number_below : (m : ℕ) (a : Number) → slice_get tx.numbers m ≡ Some a → m < TX_VARIABLES
  number_below m a at = (let within = slice_get_within tx.numbers m a at in let few = kept.2.0 in
      let same = length-map tx.numbers (λ (l : Number). l.var) in omega arith)

  module _ (old mid : List (Option ℕ)) (looks : AreDrawn (λ (a : Look). a.var) (λ (a : Look). a.nth) tx.looks TX_VARIABLES old mid)
      (x : ℕ) where
    -- the number of a look at x is above the last one before, and is the last one after the looks
    look_is : (k : ℕ) → ((value : ℤ) × Contains tx.looks (look_of x value k)) → IsAbove (last_on old x) k × (last_on mid x ≡ Some k)
    look_is k (value, c) =
        let place = at_of tx.looks (look_of x value k) c in
        let less = look_below place.0 (look_of x value k) place.1 in
        (looks.above place.0 (look_of x value k) place.1 less, looks.drawn place.0 (look_of x value k) place.1 less)

    abbrev Looked : Type 0
    Looked = ((k : ℕ) × ((value : ℤ) × Contains tx.looks (look_of x value k)))

    -- there is one, or the last number is the old one still
    looked : Looked ⊎ (((k : ℕ) → ((value : ℤ) × Contains tx.looks (look_of x value k)) → ⊥) × (last_on mid x ≡ last_on old x))
    looked = elim (has_part (λ (a : Look). a.var) tx.looks x) [
      | inl found ↦ inl (of_found found.0 found.1.0 found.1.1 found.1.2)
      | inr none ↦ inr (none_found none, looks.others x (λ m a at less is. none m a at is))
    ] where
      of_found : (m : ℕ) (a : Look) → slice_get tx.looks m ≡ Some a → a.var ≡ x → Looked
      of_found m a at is =
          let same : a ≡ look_of x a.value a.nth = ap (λ y. look_of y a.value a.nth) is in
          (a.nth, (a.value, contains_at tx.looks m (look_of x a.value a.nth) (at ∙ ap Some same)))

      none_found :
          ((m : ℕ) (a : Look) → slice_get tx.looks m ≡ Some a → a.var ≡ x → ⊥) → (k : ℕ) →
          ((value : ℤ) × Contains tx.looks (look_of x value k)) → ⊥
      none_found none k (value, c) = (let place = at_of tx.looks (look_of x value k) c in none place.0 (look_of x value k) place.1 refl)

    module _ (new : List (Option ℕ)) (numbers : AreDrawn (λ (a : Number). a.var) (λ (a : Number). a.nth) tx.numbers TX_VARIABLES mid new)
      where
        number_is : (k : ℕ) → Contains tx.numbers (number_of x k) → IsAbove (last_on mid x) k × (last_on new x ≡ Some k)
        number_is k c =
            let place = at_of tx.numbers (number_of x k) c in
            let less = number_below place.0 (number_of x k) place.1 in
            (numbers.above place.0 (number_of x k) place.1 less, numbers.drawn place.0 (number_of x k) place.1 less)

        abbrev Numbered : Type 0
        Numbered = ((k : ℕ) × Contains tx.numbers (number_of x k))

        numbered : Numbered ⊎ (((k : ℕ) → Contains tx.numbers (number_of x k) → ⊥) × (last_on new x ≡ last_on mid x))
        numbered = elim (has_part (λ (a : Number). a.var) tx.numbers x) [
          | inl found ↦ inl (of_found found.0 found.1.0 found.1.1 found.1.2)
          | inr none ↦ inr (none_found none, numbers.others x (λ m a at less is. none m a at is))
        ] where
          of_found : (m : ℕ) (a : Number) → slice_get tx.numbers m ≡ Some a → a.var ≡ x → Numbered
          of_found m a at is =
              let same : a ≡ number_of x a.nth = ap (λ y. number_of y a.nth) is in
              (a.nth, contains_at tx.numbers m (number_of x a.nth) (at ∙ ap Some same))

          none_found :
              ((m : ℕ) (a : Number) → slice_get tx.numbers m ≡ Some a → a.var ≡ x → ⊥) → (k : ℕ) → Contains tx.numbers (number_of x k) → ⊥
          none_found none k c = (let place = at_of tx.numbers (number_of x k) c in none place.0 (number_of x k) place.1 refl)

        number_above : (k : ℕ) → Contains tx.numbers (number_of x k) → IsAbove (last_on old x) k
        number_above k c = elim looked [
          | inl found ↦ (
              let look = look_is found.0 found.1 in
              let above : IsAbove (Some found.0) k = subst (λ o. IsAbove o k) look.1 (number_is k c).0 in
              above_more (last_on old x) found.0 k look.0 above)
          | inr none ↦ subst (λ o. IsAbove o k) none.1 (number_is k c).0
        ]

        all_above : (k : ℕ) → TxDraws x tx k → IsAbove (last_on old x) k
        all_above k (inl look) = (look_is k look).0
        all_above k (inr c) = number_above k c

        -- a number of its own is the greatest
        number_last : Numbered → IsTxLast x tx (last_on old x) (last_on new x)
        number_last (k, c) = inl (k, inr c, most, (number_is k c).1) where
          most : (m : ℕ) → TxDraws x tx m → m ≤ k
          most m (inl look) = (let is : IsAbove (Some m) k = subst (λ o. IsAbove o k) (look_is m look).1 (number_is k c).0 in
              let less : m < k = is in omega arith)
          most m (inr d) = (let same : k ≡ m = some_same k m (last_on new x) (number_is k c).1 (number_is m d).1 in omega arith)

        look_last :
            ((k : ℕ) → Contains tx.numbers (number_of x k) → ⊥) → last_on new x ≡ last_on mid x → Looked →
            IsTxLast x tx (last_on old x) (last_on new x)
        look_last none same (k, look) = inl (k, inl look, most, same ∙ (look_is k look).1) where
          most : (m : ℕ) → TxDraws x tx m → m ≤ k
          most m (inl other) = (let same' : k ≡ m = some_same k m (last_on mid x) (look_is k look).1 (look_is m other).1 in omega arith)
          most m (inr d) = absurd (none m d)

        no_draw :
            ((k : ℕ) → ((value : ℤ) × Contains tx.looks (look_of x value k)) → ⊥) → ((k : ℕ) → Contains tx.numbers (number_of x k) → ⊥) →
            (k : ℕ) → TxDraws x tx k → ⊥
        no_draw no_look no_number k (inl look) = no_look k look
        no_draw no_look no_number k (inr c) = no_number k c

        tx_last : IsTxLast x tx (last_on old x) (last_on new x)
        tx_last = elim numbered [
          | inl found ↦ number_last found
          | inr none ↦ elim looked [
            | inl found ↦ look_last none.0 none.1 found
            | inr unlooked ↦ inr (no_draw unlooked.0 none.0, none.1 ∙ unlooked.1)
          ]
        ]

        pub all_drawn : ((k : ℕ) → TxDraws x tx k → IsAbove (last_on old x) k) × IsTxLast x tx (last_on old x) (last_on new x)
        all_drawn = (all_above, tx_last)

  abbrev Fails : List (Option ℕ) → Type 0
  Fails old = (x : ℕ) × ((k : ℕ) × TxDraws x tx k × (IsAbove (last_on old x) k → ⊥))

  -- where a look's number is not above the last one of its variable, the attempt's numbers do not rise
  pub look_fails : (old : List (Option ℕ)) → IsNotAbove (λ (a : Look). a.var) (λ (a : Look). a.nth) tx.looks old → Fails old
  look_fails old (m, (a, at, wrong)) = (a.var, (a.nth, inl (a.value, contains_at tx.looks m a at), wrong))

  -- where own numbers stand after the looks', and one is not above the last one then, the attempt's numbers do not rise
  pub number_fails :
      (old mid : List (Option ℕ)) → AreDrawn (λ (a : Look). a.var) (λ (a : Look). a.nth) tx.looks TX_VARIABLES old mid →
      ((x k m : ℕ) (value : ℤ) → Contains tx.looks (look_of x value k) → Contains tx.numbers (number_of x m) → k < m) →
      IsNotAbove (λ (a : Number). a.var) (λ (a : Number). a.nth) tx.numbers mid → Fails old
  number_fails old mid looks after (m, (a, at, wrong)) = elim (looked old mid looks a.var) [
    | inl found ↦ (
        let own = contains_at tx.numbers m a at in
        let less : found.0 < a.nth = after a.var found.0 a.nth found.1.0 found.1.1 own in
        let last = (look_is old mid looks a.var found.0 found.1).1 in
        let is : IsAbove (last_on mid a.var) a.nth = subst (λ o. IsAbove o a.nth) (sym last) less in
        absurd (wrong is))
    | inr none ↦ (a.var, (a.nth, inr (contains_at tx.numbers m a at), (λ is. wrong (subst (λ o. IsAbove o a.nth) (sym none.1) is))))
  ]

  -- where the numbers of an attempt's looks have become the last ones, all its numbers rise exactly where its own rise behind those
  pub attempt_goes_on :
      (old mid : List (Option ℕ)) → AreDrawn (λ (a : Look). a.var) (λ (a : Look). a.nth) tx.looks TX_VARIABLES old mid →
      (new : List (Option ℕ)) (answer : Bool) →
      MatchBool answer (AreDrawn (λ (a : Number). a.var) (λ (a : Number). a.nth) tx.numbers TX_VARIABLES mid new)
      (IsNotAbove (λ (a : Number). a.var) (λ (a : Number). a.nth) tx.numbers mid) →
      TxGoesOn tx answer old new
  attempt_goes_on old mid looks new true numbers = λ after x. all_drawn old mid looks x new numbers
  attempt_goes_on old mid looks new false fails = λ after. number_fails old mid looks after fails
