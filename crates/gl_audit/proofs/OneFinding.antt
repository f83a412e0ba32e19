-- There is one right finding.
use Rattle.std.proofs.Common.{◌≡◌, ℕ, ℤ, ◌<◌, List, refl, sym, ap, subst, inl, inr, arith}
use Rattle.std.specs.Prelude.{◌⊎◌}
use Rattle.std.proofs.lemmas.Bool.{cases_order}
use Rattle.gl_model.specs.Entries.{Entry}
use Rattle.gl_model.specs.Lists.{lists_of}
use Rattle.gl_model.specs.Records.{Place}
use Rattle.gl_bytecode.specs.Programs.{Bytecode}
use Rattle.gl_audit.specs.declared.finding.Finding.{Finding}
use Rattle.gl_audit.specs.declared.finding.Finding.TheVariants.{Lawful, Not}
use Rattle.gl_audit.specs.Clauses.{Clause, FailsFirst, Says, number_of}
use Rattle.gl_audit.specs.Findings.{HoldBelow, IsFinding}
use Rattle.gl_audit.proofs.Seven.{by_seven, same_clause}

-- the place of a thread's entry, from thread and index
abbrev at_place : ℕ → ℕ → Place
at_place t i = record { thread = t; index = i }

-- findings that fail at the same place with the same number are the same
same_not : (t u i j n m : ℕ) → at_place t i ≡ at_place u j → n ≡ m → Not t i n ≡ Not u j m
same_not t u i j n m is same =
    let thread : t ≡ u = ap (λ (c : Place). c.thread) is in
    let index : i ≡ j = ap (λ (c : Place). c.index) is in
    rw (thread, index, same) refl

module _ (P : Bytecode) (inputs : List ℤ) (steps : ℕ) (made : List (ℕ × List Entry))
    (apart : (k : Clause) (c : Place) → HoldBelow P inputs steps (lists_of made) k → Says P inputs steps (lists_of made) k
    → FailsFirst P inputs steps made k c → ⊥)
    (once : (k : Clause) (c d : Place) → HoldBelow P inputs steps (lists_of made) k → FailsFirst P inputs steps made k c
    → FailsFirst P inputs steps made k d → c ≡ d)
  where
    -- two right findings are the same
    pub one_finding : (x y : Finding) → IsFinding P inputs steps made x → IsFinding P inputs steps made y → x ≡ y
    one_finding Lawful Lawful one other = refl
    one_finding Lawful (Not t i n) one (k, is, below, first) =
        absurd (apart k (at_place t i) below ((by_seven P inputs steps (lists_of made)).0 one k) first)
    one_finding (Not t i n) Lawful (k, is, below, first) other =
        absurd (apart k (at_place t i) below ((by_seven P inputs steps (lists_of made)).0 other k) first)
    one_finding (Not t i n) (Not u j m) (k, is, below, first) (l, also, under, here) =
        by_order (cases_order (number_of k) (number_of l)) where
          by_order : (number_of k ≡ number_of l) ⊎ ((number_of k < number_of l) ⊎ (number_of l < number_of k)) → Not t i n ≡ Not u j m
          by_order (inl same) =
              let clauses : l ≡ k = sym (same_clause k l same) in
              let Q : Clause → Type 0 = λ a. FailsFirst P inputs steps made a (at_place u j) in
              same_not t u i j n m (once k (at_place t i) (at_place u j) below first (subst Q clauses here)) (omega arith)
          by_order (inr (inl less)) = absurd (apart k (at_place t i) below (under k less) first)
          by_order (inr (inr less)) = absurd (apart l (at_place u j) under (below l less) here)
