-- Numbers put one behind the other, and the rows that they are drawn on.
use Rattle.gl_rule.proofs.Moves.{moved_none}
use Rattle.std.proofs.Common.{◌≡◌, ℕ, zero, suc, ◌+◌, ◌<◌, List, [], ◌∷◌, ◌++◌, length, take, get_or, refl, sym, ap, ◌∙◌, subst, arith, Some, append-nil}
use Rattle.std.specs.Prelude.{Contains, Option, slice_get}
use Rattle.std.specs.List.{AllByRecursion}
use Rattle.std.proofs.lemmas.List.{take_more}
use Rattle.gl_model.specs.declared.limits.TheConstants.{VARIABLES}
use Rattle.gl_model.specs.declared.tx.Number.{Number}
use Rattle.gl_model.specs.Kept.{AreVariables}
use Rattle.gl_model.specs.Rising.{Rises, with_part}
use Rattle.gl_draws.specs.Ties.{Drawn}
use Rattle.gl_rule.specs.View.{Held, Moves}
use Rattle.gl_table.specs.PassView.{PassView}
use Rattle.gl_txn.specs.Drawing.{numbered, HasDrawn}
use Rattle.gl_txn.specs.Holding.{vars_of, row_at, AreHeld, undrawn}
use Rattle.gl_txn.specs.declared.taken.TakenRow.{TakenRow}
use Rattle.gl_txn.proofs.Holdings.{row_here, row_past, last_once, above_in, last_in}
use Rattle.gl_txn.proofs.TakeSteps.{take_are}
use Rattle.gl_model.proofs.PutParts.{part_below}

-- the variable of a number
abbrev pub of_number : Number → ℕ
of_number n = n.var

-- a number above all others stands last
pub part_last : (n : Number) (ns : List Number) → Rises (numbered ns ++ n.var ∷ []) → with_part of_number n ns ≡ ns ++ n ∷ []
part_last n [] r = refl
part_last n (m ∷ ns) r = part_below of_number n m ns (above_in m.var (numbered ns ++ n.var ∷ []) n.var r.0 (last_in (numbered ns) n.var))
    ∙ ap (λ (l : List Number). m ∷ l) (part_last n ns r.1)

-- the variables of numbers with one put last are theirs and then its
pub keys_last : (ns : List Number) (n : Number) → numbered (ns ++ n ∷ []) ≡ numbered ns ++ n.var ∷ []
keys_last [] n = refl
keys_last (k ∷ ns) n = ap (λ (l : List ℕ). k.var ∷ l) (keys_last ns n)

-- the variable at a place of the rows' variables is that of the row there
pub var_at : (rows : List TakenRow) (i : ℕ) (r : TakenRow) → slice_get rows i ≡ Some r → (i < length (vars_of rows))
    × (get_or (vars_of rows) i 0 ≡ r.var)
var_at [] i r e = absurd (cc)
var_at (q ∷ rs) zero r e = (omega arith, (let same : q ≡ r = cc in ap (λ (z : TakenRow). z.var) same))
var_at (q ∷ rs) (suc i) r e = let s = var_at rs i r e in ((let l = s.0 in omega arith), s.1)

-- the variable of a row that is among the rows is among their variables
pub in_vars : (rows : List TakenRow) (i : ℕ) (r : TakenRow) → slice_get rows i ≡ Some r → Contains (vars_of rows) r.var
in_vars [] i r e = absurd (cc)
in_vars (q ∷ rs) zero r e = (0, omega arith, (let same : q ≡ r = cc in ap (λ (z : TakenRow). z.var) same))
in_vars (q ∷ rs) (suc i) r e = let c = in_vars rs i r e in (suc c.0, (let l = c.1 in omega arith), c.2)

-- each row is found by its variable, where these rise
pub row_found : (rows : List TakenRow) (i : ℕ) (r : TakenRow) → Rises (vars_of rows) → slice_get rows i ≡ Some r → row_at rows r.var
    ≡ Some r
row_found [] i r rises e = absurd (cc)
row_found (q ∷ rs) zero r rises e = let same : q ≡ r = cc in row_here q rs r.var (ap (λ (z : TakenRow). z.var) same)
    ∙ ap (λ (z : TakenRow). Some z) same
row_found (q ∷ rs) (suc i) r rises e = let far = above_in q.var (vars_of rs) r.var rises.0 (in_vars rs i r e)
    in row_past q rs r.var (λ z. absurd (omega arith)) ∙ row_found rs i r rises.1 e

-- a number in a list of variables is below the number of variables
near_in : (xs : List ℕ) (i : ℕ) → AllByRecursion (λ x. x < VARIABLES) xs → i < length xs → get_or xs i 0 < VARIABLES
near_in [] i all near = absurd (omega arith)
near_in (x ∷ xs) zero all near = all.0
near_in (x ∷ xs) (suc i) all near = near_in xs i all.1 (omega arith)

-- the row at place i, where those before it have their number
module _ (rows : List TakenRow) (i : ℕ) (r : TakenRow) (there : slice_get rows i ≡ Some r) (are : AreVariables (vars_of rows))
    (numbers : List Number) (done : numbered numbers ≡ take i (vars_of rows)) where
  -- the row's variable is one that there is
  pub near_var : r.var < VARIABLES
  near_var = let v = var_at rows i r there in subst (λ k. k < VARIABLES) v.1 (near_in (vars_of rows) i are.2 v.0)

  -- with it, the variables that have a number rise
  pub rises_on : Rises (numbered numbers ++ r.var ∷ [])
  rises_on = let v = var_at rows i r there in subst (λ l. Rises (l ++ r.var ∷ [])) (sym done)
      (subst (λ k. Rises (take i (vars_of rows) ++ k ∷ [])) v.1 (take_are (vars_of rows) i are v.0).1)

  -- it has no number yet
  pub not_numbered : Contains (numbered numbers) r.var → ⊥
  not_numbered = last_once (numbered numbers) r.var rises_on

  -- the row is the one that is found for it
  pub found_there : row_at rows r.var ≡ Some r
  found_there = row_found rows i r are.1 there

  -- with a number on it, just the variables of the rows up to place i have one
  pub numbered_on : (nth : ℕ) → numbered (numbers ++ record { var = r.var; nth = nth } ∷ []) ≡ take (i + 1) (vars_of rows)
  numbered_on nth =
      let v = var_at rows i r there in
      keys_last numbers (record { var = r.var; nth = nth }) ∙ ap (λ l. l ++ r.var ∷ []) done
      ∙ ap (λ k. take i (vars_of rows) ++ k ∷ []) (sym v.1) ∙ sym (take_more (vars_of rows) i 0 v.0)

-- a pass on whose held rows nothing was drawn has drawn no number
pub drawn_none : (p : PassView) (list : Option Held) (rows : List TakenRow) (tails : List ℕ) → AreHeld p.own.held list rows tails undrawn
    → HasDrawn p p list rows tails []
drawn_none p list rows tails a = record {
  is = ap (λ (l : List Drawn). record p { own = record p.own { drawn = l } }) (sym (append-nil p.own.drawn))
      ∙ ap (λ (m : Moves). record p { own = record p.own { drawn = p.own.drawn ++ [] }; moves = m }) (moved_none p.moves);
  held = a;
  above = λ y k m look c d. absurd (let l = d.1 in omega arith);
}

-- the variable of a row of a list of variables is below the number of variables
pub row_near : (rows : List TakenRow) (i : ℕ) (r : TakenRow) → AreVariables (vars_of rows) → slice_get rows i ≡ Some r → r.var < VARIABLES
row_near rows i r are there = let v = var_at rows i r there in subst (λ k. k < VARIABLES) v.1 (near_in (vars_of rows) i are.2 v.0)
