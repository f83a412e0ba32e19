-- Records are the same where the lists of each thread are.
use Rattle.std.proofs.Common.{◌≡◌, ◌<◌, ℕ, List, [], ◌∷◌, Some, if◌then◌else◌, length, map, refl, ap, sym, subst, ◌∙◌, inl, inr, arith}
use Rattle.std.specs.Prelude.{unwrap_or}
use Rattle.std.specs.List.{AllByRecursion}
use Rattle.std.proofs.lemmas.Bool.{cases_eq, cases_lt, eq-eqb, ne_eqb}
use Rattle.gl_model.specs.Entries.{Entry}
use Rattle.gl_model.specs.Kept.{IsRecord}
use Rattle.gl_model.specs.Lists.{list_of, lists_of}
use Rattle.gl_trace.proofs.TracerLemmas.{below_none, weaker}

-- where the first list is thread t's, it is the list of t
pub first_list : (l : ℕ × List Entry) (ls : List (ℕ × List Entry)) (t : ℕ) → l.0 ≡ t → lists_of (l ∷ ls) t ≡ l.1
first_list l ls t same = ap (λ b. unwrap_or (if b then Some l.1 else list_of ls t) []) (eq-eqb l.0 t same)

-- where it is another thread's, the list of t is the one among the others
pub other_list : (l : ℕ × List Entry) (ls : List (ℕ × List Entry)) (t : ℕ) → (l.0 ≡ t → ⊥) → lists_of (l ∷ ls) t ≡ lists_of ls t
other_list l ls t other = ap (λ b. unwrap_or (if b then Some l.1 else list_of ls t) []) (ne_eqb l.0 t other)

-- a thread below all that have a list has none
pub no_list : (ls : List (ℕ × List Entry)) (t : ℕ) → AllByRecursion (λ u. t < u) (map (λ l. l.0) ls) → lists_of ls t ≡ []
no_list ls t below = ap (λ o. unwrap_or o []) (below_none t ls below)

-- a list with an entry is not empty
pub some_entry : (es : List Entry) → 0 < length es → es ≡ [] → ⊥
some_entry [] some none = omega arith
some_entry (e ∷ es) some none = cc

-- where each thread has the same list, a list more does not come first
not_first : (l m : ℕ × List Entry) (ls ms : List (ℕ × List Entry)) → IsRecord (l ∷ ls) → IsRecord (m ∷ ms) → lists_of (l ∷ ls) l.0
    ≡ lists_of (m ∷ ms) l.0 → l.0 < m.0 → ⊥
not_first l m ls ms one two same less =
    let higher : AllByRecursion (λ u. l.0 < u) (map (λ x. x.0) ms) = weaker l.0 m.0 less (map (λ x. x.0) ms) two.0.0 in
    some_entry l.1 one.1.0.1 (sym (first_list l ls l.0 refl) ∙ same ∙ other_list m ms l.0 (λ e. omega arith) ∙ no_list ms l.0 higher)

-- records whose lists are the same for each thread are the same
pub same_record : (ls ms : List (ℕ × List Entry)) → IsRecord ls → IsRecord ms → ((t : ℕ) → lists_of ls t ≡ lists_of ms t) → ls ≡ ms
same_record [] [] one two same = refl
same_record [] (m ∷ ms) one two same = absurd (some_entry m.1 two.1.0.1 (sym (first_list m ms m.0 refl) ∙ sym (same m.0)))
same_record (l ∷ ls) [] one two same = absurd (some_entry l.1 one.1.0.1 (sym (first_list l ls l.0 refl) ∙ same l.0))
same_record (l ∷ ls) (m ∷ ms) one two same =
    let left : l.0 < m.0 → ⊥ = not_first l m ls ms one two (same l.0) in
    let right : m.0 < l.0 → ⊥ = not_first m l ms ls two one (sym (same m.0)) in
    let thread : l.0 ≡ m.0 = both_ways l.0 m.0 left right in
    let list : l.1 ≡ m.1 = sym (first_list l ls l.0 refl) ∙ same l.0 ∙ first_list m ms l.0 (sym thread) in
    let first : l ≡ m = pair_same l m thread list in
    let rest : ls ≡ ms = same_record ls ms (one.0.1, one.1.1) (two.0.1, two.1.1) (λ t. rest_same t thread) in
    ap (λ x. x ∷ ls) first ∙ ap (λ xs. m ∷ xs) rest
  where
    both_ways : (a b : ℕ) → (a < b → ⊥) → (b < a → ⊥) → a ≡ b
    both_ways a b less_never never = elim (cases_lt a b) [
      | inl less ↦ absurd (less_never less)
      | inr most ↦ elim (cases_lt b a) [ inl less ↦ absurd (never less) | inr same ↦ omega arith ]
    ]

    pair_same : (x y : ℕ × List Entry) → x.0 ≡ y.0 → x.1 ≡ y.1 → x ≡ y
    pair_same (t, es) (u, fs) e f = ap (λ n. (n, es)) e ∙ ap (λ l. (u, l)) f

    rest_same : (t : ℕ) → l.0 ≡ m.0 → lists_of ls t ≡ lists_of ms t
    rest_same t thread =
        elim (cases_eq l.0 t) [
          | inl here ↦
              no_list ls t (subst (λ n. AllByRecursion (λ u. n < u) (map (λ x. x.0) ls)) here one.0.0)
              ∙ sym (no_list ms t (subst (λ n. AllByRecursion (λ u. n < u) (map (λ x. x.0) ms)) (sym thread ∙ here) two.0.0))
          | inr other ↦ sym (other_list l ls t other) ∙ same t ∙ other_list m ms t (λ e. other (thread ∙ e))
        ]
