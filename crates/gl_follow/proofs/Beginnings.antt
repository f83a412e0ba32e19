-- A beginning of what the machine makes is made; there is one longest.
use Rattle.std.proofs.Common.{◌≡◌, ℕ, zero, suc, ◌<◌, ◌≤◌, List, [], ◌∷◌, ◌++◌, take, Option, Some, None, refl, ◌∙◌, ap, inl, inr, arith}
use Rattle.std.specs.Prelude.{◌⊎◌}
use Rattle.std.specs.Option.{option_and_then}
use Rattle.std.proofs.lemmas.Bool.{cases_order}
use Rattle.gl_model.specs.Entries.{Entry}
use Rattle.gl_bytecode.specs.Programs.{Bytecode}
use Rattle.gl_bytecode.specs.Runs.{Exchange, Made, Quiet, Progress, Runs, entries_of, outset, told, told_one, without_trims}
use Rattle.gl_bytecode.proofs.Growth.{without_trims-append}
use Rattle.gl_follow.specs.Beginnings.{IsMadeUpTo, ProgramFails}

-- the exchanges up to those entries
record Front (P : Bytecode) (p : Progress) (ys : List Entry) : Type 0 where
  exchanges : List Exchange
  entries : entries_of exchanges ≡ ys
  last : Progress
  reached : told P p exchanges ≡ Some last

-- exchanges that make a list make each of its beginnings, up to some progress
front : (P : Bytecode) (p q : Progress) (xs : List Exchange) (ys zs : List Entry) → told P p xs ≡ Some q → entries_of xs ≡ ys ++ zs
    → Front P p ys
unfolding told
front P p q xs [] zs is es = record { exchanges = []; entries = refl; last = p; reached = refl }
front P p q [] (y ∷ ys) zs is es = cc
front P p q (Made e ∷ xs) (y ∷ ys) zs is es = by_first (told_one P (Made e) p) refl is (λ m rest. front P m q xs ys zs rest tails) where
  heads : e ≡ y
  heads = cc

  tails : entries_of xs ≡ ys ++ zs
  tails = cc

  by_first : (o : Option Progress) → told_one P (Made e) p ≡ o → option_and_then (λ m. told P m xs) o ≡ Some q
      → ((m : Progress) → told P m xs ≡ Some q → Front P m ys) → Front P p (y ∷ ys)
  by_first None first rest more = cc
  by_first (Some m) first rest more =
      let f = more m rest in
      record {
        exchanges = Made e ∷ f.exchanges;
        entries = ap (λ l. e ∷ l) f.entries ∙ ap (λ h. h ∷ ys) heads;
        last = f.last;
        reached = ap (option_and_then (λ n. told P n f.exchanges)) first ∙ f.reached;
      }
front P p q (Quiet r ∷ xs) (y ∷ ys) zs is es =
    by_first (told_one P (Quiet r) p) refl is (λ m rest. front P m q xs (y ∷ ys) zs rest es) where
      by_first : (o : Option Progress) → told_one P (Quiet r) p ≡ o → option_and_then (λ m. told P m xs) o ≡ Some q
          → ((m : Progress) → told P m xs ≡ Some q → Front P m (y ∷ ys)) → Front P p (y ∷ ys)
      by_first None first rest more = cc
      by_first (Some m) first rest more =
          let f = more m rest in
          record {
            exchanges = Quiet r ∷ f.exchanges;
            entries = f.entries;
            last = f.last;
            reached = ap (option_and_then (λ n. told P n f.exchanges)) first ∙ f.reached;
          }

-- no entries at all
abbrev no_entries : List Entry
no_entries = []

-- a beginning of nothing is nothing
nothing : (k : ℕ) → take k no_entries ≡ no_entries
nothing zero = refl
nothing (suc k) = refl

-- the first n entries are the first m and some more
split : (es : List Entry) (m n : ℕ) → m ≤ n → (zs : List Entry) × (take n es ≡ take m es ++ zs)
split es zero n le = (take n es, refl)
split [] (suc m) n le = ([], nothing n)
split (e ∷ es) (suc m) zero le = absurd (omega arith)
split (e ∷ es) (suc m) (suc n) le = (let more = split es m n (omega arith) in (more.0, ap (λ l. e ∷ l) more.1))

-- what is made up to a length is made up to each smaller one
pub beginnings : (P : Bytecode) (steps t : ℕ) (es : List Entry) (m n : ℕ) → m ≤ n → IsMadeUpTo P steps t es n → IsMadeUpTo P steps t es m
beginnings P steps t es m n le (p, along) =
    let parts = split es m n le in
    let entries = along.made ∙ ap without_trims parts.1 ∙ without_trims-append (take m es) parts.0 in
    let f = front P (outset P t steps) p along.exchanges (without_trims (take m es)) (without_trims parts.0) along.reached entries in
    (f.last, record { exchanges = f.exchanges; made = f.entries; reached = f.reached })

-- a list has one length at which its program fails
pub one_length : (P : Bytecode) (steps t : ℕ) (es : List Entry) (m n : ℕ) → ProgramFails P steps t es m → ProgramFails P steps t es n → m
    ≡ n
one_length P steps t es m n one other = by_order (cases_order m n) where
  by_order : (m ≡ n) ⊎ ((m < n) ⊎ (n < m)) → m ≡ n
  by_order (inl same) = same
  by_order (inr (inl less)) = absurd (one.longest n less other.within other.made)
  by_order (inr (inr less)) = absurd (other.longest m less one.within one.made)

-- a list that its machine runs has no length at which its program fails
pub runs_or_fails : (P : Bytecode) (steps t : ℕ) (es : List Entry) (n : ℕ) → Runs P steps t es → ProgramFails P steps t es n → ⊥
runs_or_fails P steps t es n runs fails = fails.not_whole runs
