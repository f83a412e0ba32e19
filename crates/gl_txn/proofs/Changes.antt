-- The first row whose word was changed.
use Rattle.gl_model.specs.Rising.{Rises}
use Rattle.gl_txn.proofs.Holdings.{above_in, row_here, row_past}
use Rattle.gl_txn.specs.Holding.{row_at}
use native.Mathlib.Decide.{ℕ_discrete}
use Rattle.std.proofs.Common.{◌≡◌, ℕ, zero, suc, ◌+◌, ◌<◌, ◌≤◌, List, [], ◌∷◌, length, get_or, true, false, sym, ap, ◌∙◌, subst, arith, Some, None, inl, inr, map, ◌==◌, eq-eqb, ne_eqb}
use Rattle.std.specs.Prelude.{Contains, Option, is_some, slice_get, MatchOption}
use Rattle.std.proofs.lemmas.Bool.{cases_lt}
use Rattle.std.proofs.lemmas.Option.{slice_get_within}
use Rattle.gl_model.specs.declared.tx.Look.{Look}
use Rattle.gl_txn.specs.Changing.{IsUnchanged, IsChangeOf, AreUnchangedIn, AreUnchangedBefore, IsFirstChange, look_in}
use Rattle.gl_txn.specs.declared.changing.Change.{Change}
use Rattle.gl_txn.specs.declared.taken.TakenRow.{TakenRow}

-- the row that a number gives below the length of the list is the row there
pub at_item : (xs : List TakenRow) (i : ℕ) (r : TakenRow) → i < length xs → r ≡ get_or xs i r → slice_get xs i ≡ Some r
at_item [] i r near e = absurd (omega arith)
at_item (x ∷ xs) zero r near e = ap (λ (z : TakenRow). Some z) (sym e)
at_item (x ∷ xs) (suc i) r near e = at_item xs i r (omega arith) e

-- rows that are equal as options are equal
some_one : (a b : TakenRow) → Some a ≡ Some b → a ≡ b
some_one a b e = cc

-- a change that is found where all before were unchanged is the first one
pub first_here : (looks : List Look) (rows : List TakenRow) (i : ℕ) (r : TakenRow) (change : Option Change) → is_some change ≡ true
    → IsChangeOf looks r change → slice_get rows i ≡ Some r → AreUnchangedBefore i looks rows
    → MatchOption change (AreUnchangedIn looks rows) (IsFirstChange looks rows)
first_here looks rows i r None some is there before = absurd (cc)
first_here looks rows i r (Some c) some is there before = record { place = i; row = r; there = there; is = is; before = before }

-- where no change is found, the row is unchanged
no_change : (looks : List Look) (r : TakenRow) (change : Option Change) → is_some change ≡ false → IsChangeOf looks r change
    → IsUnchanged looks r
no_change looks r None none is = is
no_change looks r (Some c) none is = absurd (cc)

-- rows that were unchanged up to a place are unchanged past it, if its row is
pub unchanged_next : (looks : List Look) (rows : List TakenRow) (i : ℕ) (r : TakenRow) (change : Option Change) → is_some change ≡ false
    → IsChangeOf looks r change → slice_get rows i ≡ Some r → AreUnchangedBefore i looks rows → AreUnchangedBefore (i + 1) looks rows
unchanged_next looks rows i r change none is there before k q near at = elim (cases_lt k i) [
  | inl low ↦ before k q low at
  | inr ge ↦ (let same : k ≡ i = omega arith
      in subst (λ (u : TakenRow). IsUnchanged looks u) (some_one r q (sym there ∙ ap (slice_get rows) (sym same) ∙ at))
      (no_change looks r change none is))
]

-- rows that were unchanged up to the end are all unchanged
pub unchanged_all : (looks : List Look) (rows : List TakenRow) (i : ℕ) → length rows ≤ i → AreUnchangedBefore i looks rows
    → AreUnchangedIn looks rows
unchanged_all looks rows i past before k r at = before k r (let near = slice_get_within rows k r at in omega arith) at

-- the only look of a variable is found
pub look_found : (looks : List Look) → Rises (map (λ l. l.var) looks) → (l : Look) → Contains looks l → look_in looks l.var ≡ Some l
look_found [] r l c = absurd (let n = c.1 in omega arith)
look_found (k ∷ ls) r l (zero, n, e) = let b : (k.var == l.var) ≡ true = eq-eqb k.var l.var (ap (λ (z : Look). z.var) e)
    in rw b (ap (λ (z : Look). Some z) e)
look_found (k ∷ ls) r l (suc i, n, e) =
    let far = above_in k.var (map (λ l. l.var) ls) l.var r.0 (among ls (i, omega arith, e)) in
    let b : (k.var == l.var) ≡ false = ne_eqb k.var l.var (λ z. absurd (omega arith)) in
    rw b (look_found ls r.1 l (i, omega arith, e))
  where
    among : (xs : List Look) → Contains xs l → Contains (map (λ l. l.var) xs) l.var
    among [] c = absurd (let n = c.1 in omega arith)
    among (x ∷ xs) (zero, n, e) = (0, omega arith, ap (λ (z : Look). z.var) e)
    among (x ∷ xs) (suc k, n, e) = let f = among xs (k, omega arith, e) in (suc f.0, (let n = f.1 in omega arith), f.2)

-- the row of a variable stands at some place
pub place_at : (xs : List TakenRow) (y : ℕ) (r : TakenRow) → row_at xs y ≡ Some r → (k : ℕ) × (slice_get xs k ≡ Some r)
place_at [] y r e = absurd (cc)
place_at (u ∷ xs) y r e = elim (ℕ_discrete u.var y) [
  | yes same ↦ (0, sym (row_here u xs y same) ∙ e)
  | no other ↦ (let f = place_at xs y r (sym (row_past u xs y other) ∙ e) in (suc f.0, f.1))
]
