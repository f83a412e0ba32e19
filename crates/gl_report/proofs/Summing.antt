-- What is printed last, and how many entries are commits.
use Rattle.std.proofs.Common.{◌≡◌, ℕ, ℤ, zero, suc, ◌<◌, ◌≤◌, Bool, cond, List, [], ◌∷◌, ◌++◌, Option, None, length, map, take, get_or, refl, ap, sym, ◌∙◌, arith}
use Rattle.std.specs.Prelude.{count_by}
use Rattle.std.specs.List.{find, flat_map}
use Rattle.std.proofs.Math.Seq.{take-length, take-suc}
use Rattle.std.proofs.lemmas.Grind.{flat_map-append}
use Rattle.std.proofs.lemmas.List.{append-nil}
use Rattle.std.proofs.lemmas.List.Sums.{sum_by-cons}
use Rattle.gl_model.specs.Entries.{Entry}
use Rattle.gl_model.specs.Report.{all_entries, entry_prints, is_commit, is_event_at, last_or_zero, printed_below}
use Rattle.gl_report.specs.ByThread.{by_thread}
use Rattle.gl_report.specs.Firsts.{AreFirsts}
use Rattle.gl_report.specs.Summary.{prints_at}
use Rattle.gl_report.proofs.Reporting.{all_are}

-- the last of values that end with one is that one
pub last_is : (vs : List ℤ) (v : ℤ) → last_or_zero (vs ++ v ∷ []) ≡ v
last_is [] v = refl
last_is (u ∷ []) v = refl
last_is (u ∷ w ∷ vs) v = last_is (w ∷ vs) v

-- as many elements of a mapped list pass a test as elements of the list pass it when they are mapped
counts_mapped : {A B : Type 0} (v : A → B) (p : B → Bool) (xs : List A) → count_by p (map v xs) ≡ count_by (λ x. p (v x)) xs
counts_mapped v p [] = refl
counts_mapped v p (x ∷ xs) =
    (let more = counts_mapped v p xs in let left = sum_by-cons (λ y. cond (p y) 1 0) (v x) (map v xs)
    in let right = sum_by-cons (λ y. cond (p (v y)) 1 0) x xs in omega arith)

-- where entries are those of a record by thread, there are as many commits among them as in the record
pub commits_are :
    {A : Type 0} (v : A → ℕ × Entry) (xs : List A) (made : List (ℕ × List Entry)) → map v xs ≡ by_thread made →
    count_by (λ x. is_commit (v x).1) xs ≡ count_by is_commit (all_entries made)
commits_are v xs made are = sym (counts_mapped (λ x. (v x).1) is_commit xs) ∙ ap (count_by is_commit) (all_are v xs made are)

module _ {A : Type 0} (v : A → Entry) (es : List Entry) (slots : List (Option A)) (are : AreFirsts v es slots) where
  -- the slots before a place print what the events below it print
  values_below : (n : ℕ) → n ≤ length slots → flat_map (prints_at v) (take n slots) ≡ printed_below es n
  values_below zero le = refl
  values_below (suc n) le =
      let lt : n < length slots = omega arith in
      let slot = get_or slots n None in
      let last : flat_map (prints_at v) (slot ∷ []) ≡ entry_prints (find (is_event_at n) es) = append-nil (prints_at v slot)
      ∙ ap entry_prints (are n lt) in
      ap (flat_map (prints_at v)) (take-suc slots n None lt) ∙ flat_map-append (prints_at v) (take n slots) (slot ∷ [])
      ∙ ap (λ front. front ++ flat_map (prints_at v) (slot ∷ [])) (values_below n (omega arith))
      ∙ ap (λ back. printed_below es n ++ back) last

  -- the values printed by the first entries at all positions are those that the record prints
  pub values_are : flat_map (prints_at v) slots ≡ printed_below es (length slots)
  values_are = ap (flat_map (prints_at v)) (sym (take-length slots)) ∙ values_below (length slots) (omega arith)
