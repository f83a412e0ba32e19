-- Looks against their numbers: entry by entry, and thread by thread.
use Rattle.std.proofs.Common.{◌≡◌, ℕ, ◌+◌, ◌<◌, ◌≤◌, List, length, map, ap, subst, sym, ◌∙◌, inl, inr, arith, Some, None, true, false}
use Rattle.std.specs.Prelude.{◌==◌, ℤ, Bool, Contains, MatchBool, slice_get}
use Rattle.std.specs.List.{find}
use Rattle.std.proofs.lemmas.Option.{slice_get_cases, slice_get_within}
use native.Mathlib.Decide.{ℕ_discrete}
use Rattle.gl_model.specs.declared.limits.TheConstants.{THREADS}
use Rattle.gl_model.specs.declared.tx.Number.{Number}
use Rattle.gl_model.specs.Entries.{Entry}
use Rattle.gl_model.specs.Flat.{IsWordBelow, ReadsRight}
use Rattle.gl_model.specs.Kept.{IsRecord}
use Rattle.gl_model.specs.Lists.{lists_of}
use Rattle.gl_model.specs.Records.{Lists, Place, EntryAt}
use Rattle.gl_model.specs.Rising.{Rises}
use Rattle.gl_places.specs.Places.{Before, IsFirstBy}
use Rattle.gl_flat.specs.Below.{FoundIsRight, IsFirstLook}
use Rattle.gl_flat.specs.Words.{LookFailsAt, LooksHold}
use Rattle.gl_flat.proofs.KeptEntries.{thread_at}
use Rattle.gl_flat.proofs.Members.{contains_in, found_is, found_one, in_contains}

module _ {A : Type 0} (P : A → Type 0) (xs : List A) (i : ℕ) (all : (k : ℕ) (x : A) → k < i → slice_get xs k ≡ Some x → P x) where
  -- what holds of the first i holds of one more
  pub one_more : (a : A) → slice_get xs i ≡ Some a → P a → (k : ℕ) (x : A) → k < i + 1 → slice_get xs k ≡ Some x → P x
  one_more a here holds k x lt at = elim (ℕ_discrete k i) [
    | yes same ↦ (let z : Some a ≡ Some x = sym here ∙ subst (λ n. slice_get xs n ≡ Some x) same at in let s : a ≡ x = cc in
        subst P s holds)
    | no ne ↦ all k x (omega arith) at
  ]

  -- what holds of the first i holds of all, where there are no more than i
  pub no_more : length xs ≤ i → (k : ℕ) (x : A) → slice_get xs k ≡ Some x → P x
  no_more far k x at = all k x (let n = slice_get_within xs k x at in omega arith) at

  -- what holds of the first i holds of all, where none stands at i
  pub none_more : slice_get xs i ≡ None → (k : ℕ) (x : A) → slice_get xs k ≡ Some x → P x
  none_more none k x at = no_more short k x at
    where
      short : length xs ≤ i
      short = elim ((slice_get_cases xs i).1) [ inl w ↦ absurd (let z : None ≡ Some w.0 = sym none ∙ w.2 in cc) | inr w ↦ w.0 ]

-- the number of a changed variable decides what was found
pub number_found : (R : Lists) (ns : List Number) (n : Number) (var : ℕ) (found : ℤ) (b : Bool) → Rises (map (λ m. m.var) ns) →
    find (λ m. m.var == var) ns ≡ Some n →
    MatchBool b (IsWordBelow R var n.nth found) (IsWordBelow R var n.nth found → ⊥) →
    MatchBool b (FoundIsRight R ns var found) (FoundIsRight R ns var found → ⊥)
number_found R ns n var found true rises at right = λ k c.
    let one' : find (λ (m : Number). m.var == var) ns ≡ Some (record { var = var; nth = k }) =
    found_one ns (record { var = var; nth = k }) rises (contains_in ns (record { var = var; nth = k }) c) in
    let both : Some n ≡ Some (record { var = var; nth = k }) = sym at ∙ one' in
    let same : n ≡ record { var = var; nth = k } = cc in
    subst (λ j. IsWordBelow R var j found) (ap (λ (m : Number). m.nth) same) right
number_found R ns n var found false rises at wrong = λ all.
    let f = found_is ns var n at in
    let same : n ≡ record { var = var; nth = n.nth } = (λ j. record { var = f.1 j; nth = n.nth }) in
    wrong (all n.nth (subst (Contains ns) same (in_contains ns n f.0)))

-- where no number of the variable is found, what was found is right
pub no_number : (R : Lists) (ns : List Number) (var : ℕ) (found : ℤ) → Rises (map (λ m. m.var) ns) → find (λ m. m.var == var) ns ≡ None →
    FoundIsRight R ns var found
no_number R ns var found rises none k c =
    let one' : find (λ (m : Number). m.var == var) ns ≡ Some (record { var = var; nth = k }) =
    found_one ns (record { var = var; nth = k }) rises (contains_in ns (record { var = var; nth = k }) c) in
    let both : None ≡ Some (record { var = var; nth = k }) = sym none ∙ one' in
    absurd (cc)

-- of two facts the first holds, and the second is tested
pub second_tested : (P Q : Type 0) (b : Bool) → P → MatchBool b Q (Q → ⊥) → MatchBool b (P × Q) (P × Q → ⊥)
second_tested P Q true p q = (p, q)
second_tested P Q false p no' = λ both. no' both.1

module _ (R : Lists) (t : ℕ) (es : List Entry) (list : es ≡ R t)
    (all : (c : Place) (e : Entry) → c.thread < t → EntryAt R c e → ReadsRight R e) where
  -- the first of a list, where all of the threads below it are right
  pub first_look : (i : ℕ) → IsFirstLook R es (Some i) → IsFirstBy Before (LookFailsAt R) (record { thread = t; index = i })
  first_look i w = ((w.0.0, subst (λ l. slice_get l i ≡ Some w.0.0) list w.0.1, w.0.2), first)
    where
      first : (d : Place) → LookFailsAt R d → Before d (record { thread = t; index = i }) → ⊥
      first d f (inl lt) = f.2 (all d f.0 lt f.1)
      first d f (inr q) = f.2 (w.1 d.index f.0 q.1 (subst (λ l. slice_get l d.index ≡ Some f.0) (ap R q.0 ∙ sym list) f.1))

  -- where the looks of thread t's list are right too, those of all threads below t + 1 are
  pub next_look : IsFirstLook R es None → (c : Place) (e : Entry) → c.thread < t + 1 → EntryAt R c e → ReadsRight R e
  next_look w c e lt there = elim (ℕ_discrete c.thread t) [
    | yes same ↦ w c.index e (subst (λ l. slice_get l c.index ≡ Some e) (ap R same ∙ sym list) there)
    | no ne ↦ all c e (omega arith) there
  ]

-- where all looks of the threads below t are right, and there are no threads from t on, all looks are right
pub all_looks : (made : List (ℕ × List Entry)) → IsRecord made → (t : ℕ) → THREADS ≤ t →
    ((c : Place) (e : Entry) → c.thread < t → EntryAt (lists_of made) c e → ReadsRight (lists_of made) e) → LooksHold (lists_of made)
all_looks made record' t far all c e there = all c e (let n = thread_at made record' c e there in omega arith) there
