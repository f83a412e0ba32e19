-- The rows of all variables, one of them changed.
use Rattle.std.proofs.Common.{◌≡◌, ℕ, zero, suc, ◌+◌, ◌<◌, ◌≤◌, List, [], ◌∷◌, ◌++◌, length, take, get_or, set, refl, sym, ◌∙◌, ap, subst, inl, inr, arith, Some, None, true, false, Bool}
use Rattle.std.specs.Prelude.{◌⊎◌, Contains, nat_lt, slice_get}
use Rattle.std.proofs.lemmas.List.{get_or_default, get_or_past, get_or-set_same, get_or-set_other, take_more, take_all, set-set}
use Rattle.std.proofs.lemmas.List.Elements.{Contains-push_cases, Contains-push, Contains-append_left}
use Rattle.std.proofs.lemmas.Bool.{cases_lt, ltb-true, ltb-false}
use Rattle.std.proofs.lemmas.Option.{slice_get_within}
use native.Mathlib.Decide.{ℕ_discrete}
use Rattle.gl_model.specs.declared.event.Stamp.{Stamp}
use Rattle.gl_model.specs.declared.limits.TheConstants.{THREADS}
use Rattle.gl_model.specs.declared.row.Row.{Row}
use Rattle.gl_model.specs.declared.row.Question.{Question}
use Rattle.gl_draws.specs.RowFacts.{SomeFails}
use Rattle.gl_judge.specs.Noted.{IsNoted}
use Rattle.gl_compare.specs.Rows.{untouched, row_of, Tells, TellsFirst, AreNoted}
use Rattle.gl_compare.proofs.Within.{none_at}

-- an untouched row more is none
pub row_push : (rows : List Row) (r : Row) (y : ℕ) → r ≡ untouched → row_of (rows ++ r ∷ []) y ≡ row_of rows y
row_push [] r zero e = e
row_push [] r (suc y) e = refl
row_push (x ∷ rows) r zero e = refl
row_push (x ∷ rows) r (suc y) e = row_push rows r y e

-- the row that was changed is the new one
pub row_here : (rows : List Row) (x : ℕ) (r : Row) → x < length rows → row_of (set rows x r) x ≡ r
row_here rows x r n = get_or-set_same rows x r untouched n

-- the others are as they were
pub row_else : (rows : List Row) (x y : ℕ) (r : Row) → (y ≡ x → ⊥) → row_of (set rows x r) y ≡ row_of rows y
row_else rows x y r other = get_or-set_other rows x y r untouched other

-- no Info of an untouched row fails
none_fails : (h : List Stamp) (q : Question) → SomeFails h untouched q → ⊥
none_fails h q (inl w) = let e = w.1 in cc
none_fails h q (inr w) = let none = none_at THREADS w.1.0 in let e = w.1.2 in cc

-- of a variable that has no row nothing fails
pub none_told : (h : List Stamp) (rows : List Row) (x : ℕ) (q : Question) → length rows ≤ x → Tells h (row_of rows x) q false
none_told h rows x q past next stand =
    let e : row_of rows x ≡ untouched = get_or_past rows x untouched past in
    (λ t. absurd (cc), λ fails. absurd (none_fails h q (subst (λ r. SomeFails h r q) e fails)))

-- of a variable that was found to have no row the answer is no
pub none_there : (h : List Stamp) (rows : List Row) (x : ℕ) (q : Question) → false ≡ nat_lt x (length rows)
    → Tells h (row_of rows x) q false
none_there h rows x q past = none_told h rows x q (ltb-false x (length rows) (sym past))

-- of a variable that was found to have a row the answer is the row's
pub row_there : (h : List Stamp) (rows : List Row) (x : ℕ) (r : Row) (q : Question) (b : Bool) → true ≡ nat_lt x (length rows)
    → r ≡ get_or rows x r → Tells h r q b → Tells h (row_of rows x) q b
row_there h rows x r q b inside is tells =
    let near : x < length rows = ltb-true x (length rows) (sym inside) in
    subst (λ z. Tells h z q b) (is ∙ sym (get_or_default rows x untouched r near)) tells

-- noted twice is noted once
note_twice : (old mid new : Row) (q : Question) (at : ℕ) → IsNoted old q at mid → IsNoted mid q at new → IsNoted old q at new
note_twice old mid new q at m n = record {
  info = n.info;
  is = n.is;
  value = n.value ∙ m.value;
  write = λ w. n.write w;
  read = λ r. (
    (n.read r).0 ∙ (m.read r).0,
    (n.read r).1 ∙ ap (λ xs. set xs q.thread (Some n.info)) (m.read r).1
        ∙ set-set old.reads q.thread (Some m.info) (Some n.info),
  );
}

-- so far each row is as it was, or noted
abbrev pub Each : (ℕ → Question) → ℕ → List Row → List Row → Type 0
Each asked at old mid = (y : ℕ) → (row_of mid y ≡ row_of old y) ⊎ IsNoted (row_of old y) (asked y) at (row_of mid y)

module _ (items : List ℕ) (i : ℕ) (n : i < length items) where
  -- a variable of one more is one of those before, or the one at i
  next_var : (y : ℕ) → Contains (take (i + 1) items) y → Contains (take i items) y ⊎ (get_or items i 0 ≡ y)
  next_var y c = Contains-push_cases (take i items) (get_or items i 0) y (subst (λ zs. Contains zs y) (take_more items i 0 n) c)

  -- those before stay among them
  kept_var : (y : ℕ) → Contains (take i items) y → Contains (take (i + 1) items) y
  kept_var y c = subst (λ zs. Contains zs y) (sym (take_more items i 0 n))
      (Contains-append_left (take i items) (get_or items i 0 ∷ []) y c)

  -- the one at i is among them
  this_var : Contains (take (i + 1) items) (get_or items i 0)
  this_var = subst (λ zs. Contains zs (get_or items i 0)) (sym (take_more items i 0 n)) (Contains-push (take i items) (get_or items i 0))

  -- one variable more was noted
  module _ (asked : ℕ → Question) (at : ℕ) (old mid new : List Row) (q : Question) (is : q ≡ asked (get_or items i 0))
      (note : IsNoted (row_of mid (get_or items i 0)) q at (row_of new (get_or items i 0)))
      (else : (y : ℕ) → (y ≡ get_or items i 0 → ⊥) → row_of new y ≡ row_of mid y)
      (before : AreNoted (take i items) asked at old mid) (each : Each asked at old mid) where
    -- the variable at i
    x : ℕ
    x = get_or items i 0

    -- its row is noted with what is asked of it
    here : IsNoted (row_of mid (get_or items i 0)) (asked (get_or items i 0)) at (row_of new (get_or items i 0))
    here = subst (λ z. IsNoted (row_of mid (get_or items i 0)) z at (row_of new (get_or items i 0))) is note

    -- its row is the old one, noted: once, or twice with the same
    since_old : IsNoted (row_of old (get_or items i 0)) (asked (get_or items i 0)) at (row_of new (get_or items i 0))
    since_old = elim (each (get_or items i 0)) [
      | inl e ↦ subst (λ r. IsNoted r (asked (get_or items i 0)) at (row_of new (get_or items i 0))) e here
      | inr first ↦ note_twice (row_of old (get_or items i 0)) (row_of mid (get_or items i 0)) (row_of new (get_or items i 0))
          (asked (get_or items i 0)) at first here
    ]

    -- so is the row of each variable that is equal to it
    at_var : (y : ℕ) → y ≡ get_or items i 0 → IsNoted (row_of old y) (asked y) at (row_of new y)
    at_var y e = subst (λ z. IsNoted (row_of old z) (asked z) at (row_of new z)) (sym e) since_old

    -- with the one at i, the rows of one variable more are noted, and the others are as they were
    pub noted_more : AreNoted (take (i + 1) items) asked at old new
    noted_more = record {
      noted = λ y c. elim (ℕ_discrete y (get_or items i 0)) [
        | yes e ↦ at_var y e
        | no other ↦ elim (next_var y c) [
          | inl was ↦ subst (IsNoted (row_of old y) (asked y) at) (sym (else y other)) (before.noted y was)
          | inr e ↦ absurd (other (sym e))
        ]
      ];
      others = λ y none. else y (λ e. none (subst (Contains (take (i + 1) items)) (sym e) this_var))
          ∙ before.others y (λ c. none (kept_var y c));
    }

    -- each row is still as it was, or noted
    pub each_more : Each asked at old new
    each_more y = elim (ℕ_discrete y (get_or items i 0)) [
      | yes e ↦ inr (at_var y e)
      | no other ↦ elim (each y) [
        | inl e ↦ inl (else y other ∙ e)
        | inr k ↦ inr (subst (IsNoted (row_of old y) (asked y) at) (sym (else y other)) k)
      ]
    ]

-- nothing is noted yet
pub none_noted : (items : List ℕ) (asked : ℕ → Question) (at : ℕ) (old : List Row) → AreNoted (take 0 items) asked at old old
none_noted items asked at old = record { noted = λ y c. absurd (let n = c.1 in omega arith); others = λ y none. refl }

-- all are noted
pub all_noted : (items variables : List ℕ) (i : ℕ) (asked : ℕ → Question) (at : ℕ) (old new : List Row) → items ≡ variables
    → length items ≤ i → AreNoted (take i items) asked at old new → AreNoted variables asked at old new
all_noted items variables i asked at old new same past noted =
    subst (λ xs. AreNoted xs asked at old new) (take_all i items past ∙ same) noted

-- what holds of all variables before the one at i, and of it, holds of all before the next
pub told_more : (xs : List ℕ) (P : ℕ → Type 0) (i : ℕ) (x : ℕ) → slice_get xs i ≡ Some x → P x
    → ((k y : ℕ) → k < i → slice_get xs k ≡ Some y → P y) → (k y : ℕ) → k < i + 1 → slice_get xs k ≡ Some y → P y
told_more xs P i x here this before k y l there = elim (cases_lt k i) [
  | inl less ↦ before k y less there
  | inr past ↦ (let same : k ≡ i = omega arith in let again : slice_get xs i ≡ Some y = subst (λ j. slice_get xs j ≡ Some y) same there
      in let e : x ≡ y = cc in subst P e this)
]

module _ (h : List Stamp) (rows : List Row) (items variables : List ℕ) (asked : ℕ → Question) (same : items ≡ variables) where
  -- it is yes for this one, and was no for those before it
  pub told_first : (i : ℕ) (x : ℕ) (q : Question) (b : Bool) → slice_get items i ≡ Some x → q ≡ asked x → b ≡ true
      → Tells h (row_of rows x) q b
      → ((k y : ℕ) → k < i → slice_get items k ≡ Some y → Tells h (row_of rows y) (asked y) false)
      → TellsFirst h rows variables asked (Some x)
  told_first i x q b here is answer tells before = subst (λ vs. TellsFirst h rows vs asked (Some x)) same
      (i, here, subst (Tells h (row_of rows x) (asked x)) answer (subst (λ z. Tells h (row_of rows x) z b) is tells), before)

  -- it was no for all
  pub told_none : (n : ℕ) → length items ≤ n
      → ((k y : ℕ) → k < n → slice_get items k ≡ Some y → Tells h (row_of rows y) (asked y) false)
      → TellsFirst h rows variables asked None
  told_none n past all = subst (λ vs. TellsFirst h rows vs asked None) same
      (λ k y there. let l = slice_get_within items k y there in all k y (omega arith) there)
