-- A commit that is racy on none of its reads and on none of its writes is racy on none of its variables.
use Rattle.std.proofs.Common.{◌≡◌, ℕ, List, [], ◌∷◌, refl, ap, ◌∙◌, None, true, false, Bool}
use Rattle.std.specs.List.{find, list_any, AllByRecursion}
use Rattle.gl_model.specs.Rising.{with_all}
use Rattle.gl_model.specs.Trace.{is_in}
use Rattle.gl_model.proofs.Merged.{All-with_all}
use Rattle.gl_core.specs.Marks.{Marks, latest_fails, write_fails, reads_fail}
use Rattle.gl_core.specs.Latests.{latest_of, part_fails}
use Rattle.gl_core.proofs.FindFirst.{all_in}
use Rattle.gl_core.proofs.Marking.{or_none, or_both}

-- where some test fails everywhere nothing is found
find_nothing : (p : ℕ → Bool) (xs : List ℕ) → AllByRecursion (λ x. p x ≡ false) xs → find p xs ≡ None
find_nothing p [] all = refl
find_nothing p (x ∷ xs) all = rw all.0 (find_nothing p xs all.1)

-- and it fails everywhere where it passes nowhere, so that what follows from that holds everywhere
all_fail : (p : ℕ → Bool) (Q : ℕ → Type 0) → ((x : ℕ) → p x ≡ false → Q x) → (xs : List ℕ) → list_any p xs ≡ false → AllByRecursion Q xs
all_fail p Q f [] none = tt
all_fail p Q f (x ∷ xs) none = let both = or_none (p x) (list_any p xs) none in (f x both.0, all_fail p Q f xs both.1)

module _ (known : ℕ → ℕ) (latests : List Marks) (reads writes : List ℕ) where
  abbrev fails : Bool → ℕ → Bool
  fails write x = latest_fails known true write (latest_of latests x)

  -- what does not fail as written does not fail as read
  weaker : (x : ℕ) → fails true x ≡ false → fails false x ≡ false
  weaker x none = or_both (write_fails known true (latest_of latests x)) false
      (or_none (write_fails known true (latest_of latests x)) (reads_fail known true (latest_of latests x)) none).0 refl

  -- a commit is not racy on x if what is kept of x does not fail as read, nor as written where the commit writes x
  part : (x : ℕ) → (is_in x writes ≡ true → fails true x ≡ false) → fails false x ≡ false → part_fails known writes latests x ≡ false
  part x written read = by (is_in x writes) refl
    where
      by : (b : Bool) → is_in x writes ≡ b → part_fails known writes latests x ≡ false
      by true e = ap (λ b. fails b x) e ∙ written e
      by false e = ap (λ b. fails b x) e ∙ read

  -- where no read fails as a read, and no write as a write, none of the commit's variables is found to fail
  pub no_race : list_any (λ x. latest_fails known true false (latest_of latests x)) reads ≡ false
      → list_any (λ x. latest_fails known true true (latest_of latests x)) writes ≡ false
      → find (part_fails known writes latests) (with_all writes reads) ≡ None
  no_race of_reads of_writes = find_nothing (part_fails known writes latests) (with_all writes reads)
      (All-with_all (λ x. part_fails known writes latests x ≡ false) writes reads
      (all_fail (fails true) (λ x. part_fails known writes latests x ≡ false) (λ x none. part x (λ i. none) (weaker x none)) writes
      of_writes)
      (all_fail (fails false) (λ x. part_fails known writes latests x ≡ false) (λ x none. part x (known_written x) none) reads of_reads))
    where
      known_written : (x : ℕ) → is_in x writes ≡ true → fails true x ≡ false
      known_written = all_in (λ z. fails true z ≡ false) writes
          (all_fail (fails true) (λ z. fails true z ≡ false) (λ z none. none) writes of_writes)
