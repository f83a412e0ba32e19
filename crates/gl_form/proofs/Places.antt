-- The first failing place of a record, thread by thread.
use Rattle.std.proofs.Common.{◌≡◌, ◌≢◌, ℕ, ◌+◌, ◌<◌, ◌≤◌, ◌==◌, Bool, true, false, List, [], ◌∷◌, length, Option, Some, None, refl, subst}
use Rattle.std.proofs.Common.{arith, inl, inr}
use Rattle.std.specs.Prelude.{unwrap_or}
use Rattle.std.specs.List.{AllByRecursion}
use Rattle.std.proofs.lemmas.Bool.{cases_lt, eqb-true}
use Rattle.gl_model.specs.declared.limits.TheConstants.{THREADS}
use Rattle.gl_model.specs.Entries.{Entry}
use Rattle.gl_model.specs.Kept.{IsEntryKept, IsListKept}
use Rattle.gl_model.specs.Lists.{list_of, lists_of}
use Rattle.gl_model.specs.Records.{Place}
use Rattle.gl_places.specs.Places.{Before, IsFirstBy}
use Rattle.gl_form.specs.Rules.{FormFails, FormFailsAt}
use Rattle.gl_form.proofs.Walks.{keeps_past}

-- a list of the record has an entry, and its entries keep to what there is; and its thread is one that there is
pub list_kept :
    (ls : List (ℕ × List Entry)) (t : ℕ) (es : List Entry) → AllByRecursion IsListKept ls → list_of ls t ≡ Some es →
    (t < THREADS) × (0 < length es) × AllByRecursion IsEntryKept es
list_kept [] t es kept is = absurd cc
list_kept (l ∷ ls) t es kept is = by_test (l.0 == t) refl (list_kept ls t es kept.1) where
  by_test :
      (b : Bool) → (l.0 == t) ≡ b → (list_of ls t ≡ Some es → (t < THREADS) × (0 < length es) × AllByRecursion IsEntryKept es) →
      (t < THREADS) × (0 < length es) × AllByRecursion IsEntryKept es
  by_test true test rest =
      let here : Some l.1 ≡ Some es = rw test at is in
      let same : l.1 ≡ es = cc in
      let thread = eqb-true l.0 t test in
      let first = kept.0 in
      let P : List Entry → Type 0 = λ fs. (0 < length fs) × AllByRecursion IsEntryKept fs in
      let both : (0 < length es) × AllByRecursion IsEntryKept es = subst P same (first.1, first.2) in
      ((let less = first.0 in omega arith), both.0, both.1)
  by_test false test rest = (let there : list_of ls t ≡ Some es = rw test at is in rest there)

-- a thread that there is not has no list
no_list : (ls : List (ℕ × List Entry)) (t : ℕ) → AllByRecursion IsListKept ls → THREADS ≤ t → lists_of ls t ≡ []
no_list ls t kept past = by_list (list_of ls t) refl where
  by_list : (o : Option (List Entry)) → list_of ls t ≡ o → unwrap_or o [] ≡ []
  by_list None is = refl
  by_list (Some es) is = (let less = (list_kept ls t es kept is).0 in absurd (omega arith))

-- the empty list of a thread other than 0 fails nowhere
pub empty_keeps : (t : ℕ) (es : List Entry) → es ≡ [] → t ≢ 0 → (i : ℕ) → FormFails t es i → ⊥
empty_keeps t es none other i fails =
    fails (keeps_past t es i (rw none (omega arith)) (λ first. absurd (other first)) (λ some. absurd (some none)))

module _ (ls : List (ℕ × List Entry)) where
  abbrev pub NoneBelow : ℕ → Type 0
  NoneBelow n = (t : ℕ) → t < n → (i : ℕ) → FormFails t (lists_of ls t) i → ⊥

  -- where no list of a thread below n fails the form, nor that of thread n, none of a thread below n + 1 does
  pub none_more : (n : ℕ) → NoneBelow n → ((i : ℕ) → FormFails n (lists_of ls n) i → ⊥) → NoneBelow (n + 1)
  none_more n none here t less i fails = elim (cases_lt t n) [
    | inl lt ↦ none t lt i fails
    | inr ge ↦ (let same : t ≡ n = omega arith in let P : ℕ → Type 0 = λ u. FormFails u (lists_of ls u) i in here i (subst P same fails))
  ]

  -- a record whose lists keep to what there is fails the form nowhere, if no list of a thread below THREADS does
  pub fails_nowhere : AllByRecursion IsListKept ls → NoneBelow THREADS → (c : Place) → FormFailsAt (lists_of ls) c → ⊥
  fails_nowhere kept none c fails = elim (cases_lt c.thread THREADS) [
    | inl lt ↦ none c.thread lt c.index fails
    | inr ge ↦ empty_keeps c.thread (lists_of ls c.thread) (no_list ls c.thread kept ge) (λ is. omega arith) c.index fails
  ]

  abbrev at_place : ℕ → ℕ → Place
  at_place t i = record { thread = t; index = i }

  -- where no list of a thread below n fails the form, and the list of thread n fails it first at i, that is the first place that fails
  pub first_place :
      (n i : ℕ) → NoneBelow n → FormFails n (lists_of ls n) i → ((j : ℕ) → j < i → FormFails n (lists_of ls n) j → ⊥) →
      IsFirstBy Before (FormFailsAt (lists_of ls)) (at_place n i)
  first_place n i none fails earlier = (fails, before) where
    -- no place before place i of thread n fails the form
    before : (d : Place) → FormFailsAt (lists_of ls) d → Before d (at_place n i) → ⊥
    before d also (inl less) = none d.thread less d.index also
    before d also (inr (same, less)) = (let P : ℕ → Type 0 = λ u. FormFails u (lists_of ls u) d.index in
        earlier d.index less (subst P same also))
