-- The makers of a record's entries, thread by thread.
use Rattle.std.proofs.Common.{◌≡◌, ℕ, zero, suc, ◌<◌, ◌≤◌, List, [], ◌∷◌, length, refl, sym, subst, inl, inr, arith, slice_index_or}
use Rattle.std.specs.List.{AllByRecursion}
use Rattle.std.proofs.lemmas.Bool.{cases_lt}
use Rattle.gl_model.specs.Entries.{Entry}
use Rattle.gl_model.specs.Kept.{IsListKept}
use Rattle.gl_model.specs.Lists.{lists_of}
use Rattle.gl_model.specs.Records.{Lists}
use Rattle.gl_model.specs.declared.limits.TheConstants.{THREADS}
use Rattle.gl_bytecode.specs.Programs.{Bytecode}
use Rattle.gl_follow.proofs.Threads.{none_past}
use Rattle.gl_sites.specs.declared.making.Maker.{Maker}
use Rattle.gl_sites.specs.Makers.{AreMakers}
use Rattle.gl_sites.specs.Recorded.{AreMakersOf}

-- those of the first n threads
pub record AreMadeBelow (P : Bytecode) (steps : ℕ) (R : Lists) (n : ℕ) (makers : List (List Maker)) : Type 0 where
  pub count : length makers ≡ n
  pub each : (t : ℕ) → t < n → AreMakers P steps t (R t) (slice_index_or makers t [])

-- beyond the end of a list is the default
none_at : {A : Type 0} (xs : List A) (d : A) (n : ℕ) → length xs ≤ n → d ≡ slice_index_or xs n d
none_at [] d n past = refl
none_at (a ∷ xs) d zero past = absurd (omega arith)
none_at (a ∷ xs) d (suc n) past = none_at xs d n (omega arith)

-- of no threads
pub none_below : (P : Bytecode) (steps : ℕ) (R : Lists) → AreMadeBelow P steps R 0 []
none_below P steps R = record { count = refl; each = λ t less. absurd (omega (arith, less)) }

-- of all threads that there are
pub all_below : (P : Bytecode) (steps : ℕ) (made : List (ℕ × List Entry)) (makers : List (List Maker)) → AllByRecursion IsListKept made
    → AreMadeBelow P steps (lists_of made) THREADS makers → AreMakersOf P steps (lists_of made) makers
all_below P steps made makers kept below t = elim (cases_lt t THREADS) [
  | inl less ↦ below.each t less
  | inr past ↦
      let count = below.count in
      let none = none_past made t kept past in
      subst (AreMakers P steps t (lists_of made t)) (none_at makers [] t (omega (arith, past, count)))
      (subst (λ es. AreMakers P steps t es []) (sym none) (record { all = refl; each = λ n m there. absurd (cc) }))
]
