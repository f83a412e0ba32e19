-- A row's Infos in the window that was loaded for it, and what a pass knows by it.
use Rattle.std.proofs.Common.{◌≡◌, ℕ, zero, suc, ◌+◌, ◌*◌, ◌≤◌, ◌<◌, List, [], ◌∷◌, ◌++◌, length, length-append, refl, sym, ap, subst, ◌∙◌, inl, inr, arith, append_assoc, append-nil, add-zero, Some}
use Rattle.std.specs.Prelude.{◌⊎◌, Contains, slice_get}
use Rattle.std.proofs.lemmas.List.Elements.{All-contains, All-contains_itself, All-weaker, Contains-append_left, Contains-append_right}
use Rattle.gl_model.specs.declared.event.Stamp.{Stamp}
use Rattle.gl_model.specs.declared.row.Info.{Info}
use Rattle.gl_model.specs.declared.row.Row.{Row}
use Rattle.gl_model.specs.Machine.{Setting}
use Rattle.gl_draws.specs.RowFacts.{IsWithin}
use Rattle.gl_judge.specs.Asked.{IsRowFrom}
use Rattle.gl_judge.specs.Standing as judging
use Rattle.gl_rule.specs.Agreeing.{IsWindow}
use Rattle.gl_rule.specs.Fitting.{IsFitting, InfosStand}
use Rattle.gl_rule.specs.Values.{InRow}
use Rattle.gl_rule.specs.View.{Shelf, Moves, with_loads}
use Rattle.gl_rule.proofs.HeldLists.{in_cons}
use Rattle.gl_rule.proofs.Moves.{loads_both, loads_none}
use Rattle.gl_table.specs.PassView.{PassView}
use Rattle.gl_rows.specs.Walks.{placed_from, KnowsFrom, HasWalkedTo, HasWalked}

-- all of them stand in it, where none is below its first position and none above its end
pub row_from : (from seen : ℕ) (window : List Stamp) (row : Row) → from + length window ≡ seen → ((i : Info) → InRow row i → from ≤ i.pos)
    → IsWithin row seen → IsRowFrom from window row
row_from from seen window row ends below within = record {
  last_write = λ i e. (below i (inl e), (let k = within.last_write i e in omega arith));
  reads = λ t i e. (below i (inr (t, e)), (let k = within.reads t i e in omega arith));
}

-- one event more stands behind the others
pub placed_push : (n : ℕ) (xs : List Stamp) (x : Stamp) → placed_from n (xs ++ x ∷ []) ≡ placed_from n xs ++ (n + length xs, x) ∷ []
placed_push n [] x = ap (λ m. (m, x) ∷ []) (sym (add-zero n))
placed_push n (y ∷ xs) x =
    let same : suc n + length xs ≡ n + length (y ∷ xs) = omega arith in
    ap (λ (l : List (ℕ × Stamp)). (n, y) ∷ l) (placed_push (suc n) xs x ∙ ap (λ m. placed_from (suc n) xs ++ (m, x) ∷ []) same)

-- the event at place k of them stands at position n + k
pub placed_at : (n : ℕ) (xs : List Stamp) (k : ℕ) (x : Stamp) → slice_get xs k ≡ Some x → Contains (placed_from n xs) (n + k, x)
placed_at n [] k x e = absurd (cc)
placed_at n (y ∷ xs) zero x e =
    let is : y ≡ x = cc in
    (0, omega arith, ap (λ (z : ℕ × Stamp). z) (let first : n ≡ n + 0 = omega arith in ap (λ m. (m, y)) first ∙ ap (λ z. (n + 0, z)) is))
placed_at n (y ∷ xs) (suc k) x e =
    let same : suc n + k ≡ n + suc k = omega arith in
    subst (λ m. Contains (placed_from n (y ∷ xs)) (m, x)) same
    (in_cons (n, y) (placed_from (suc n) xs) (suc n + k, x) (placed_at (suc n) xs k x e))

-- a pass that did nothing has loaded no events, from whatever position on
pub knows_none : (n : ℕ) (p : PassView) → KnowsFrom n [] p p
knows_none n p = ap (λ (known : List (ℕ × Stamp)). record p { known = known }) (sym (append-nil p.known))
    ∙ ap (λ (m : Moves). record p { known = p.known ++ []; moves = m }) (loads_none p.moves)

-- a pass that knows these events, and then loads the one behind them, knows that one too
pub knows_next : (n m : ℕ) (xs : List Stamp) (x : Stamp) (p q r : PassView) → n + length xs ≡ m → KnowsFrom n xs p q → r
    ≡ record q { known = r.known; loaded = r.loaded; moves = with_loads 5 q.moves } → r.known ≡ q.known ++ (m, x) ∷ []
    → KnowsFrom n (xs ++ x ∷ []) p r
knows_next n m xs x p q r at is more known =
    let k : r.known ≡ p.known ++ placed_from n (xs ++ x ∷ []) =
    known ∙ ap (λ (z : PassView). z.known ++ (m, x) ∷ []) is ∙ append_assoc p.known (placed_from n xs) ((m, x) ∷ [])
    ∙ ap (λ (l : List (ℕ × Stamp)). p.known ++ l) (ap (λ j. placed_from n xs ++ (j, x) ∷ []) (sym at) ∙ sym (placed_push n xs x)) in
    let count : 5 * length xs + 5 ≡ 5 * length (xs ++ x ∷ []) = let l = length-append xs (x ∷ []) in omega arith in
    more ∙ ap (λ (z : PassView). record z { known = r.known; loaded = r.loaded; moves = with_loads 5 z.moves }) is
    ∙ ap (λ (l : List (ℕ × Stamp)). record p { known = l; loaded = r.loaded; moves = with_loads 5 (with_loads (5 * length xs) p.moves) }) k
    ∙ ap (λ (m : Moves). record p { known = p.known ++ placed_from n (xs ++ x ∷ []); loaded = r.loaded; moves = m })
    (loads_both (5 * length xs) 5 (5 * length (xs ++ x ∷ [])) p.moves count)

-- the pass knows each of the events that it loaded
pub known_from : (n : ℕ) (xs : List Stamp) (p q : PassView) → KnowsFrom n xs p q → (k : ℕ) (x : Stamp) → slice_get xs k ≡ Some x
    → Contains q.known (n + k, x)
known_from n xs p q is k x at = subst (λ (l : List (ℕ × Stamp)). Contains l (n + k, x)) (sym (ap (λ (z : PassView). z.known) is))
    (Contains-append_right p.known (placed_from n xs) (n + k, x) (placed_at n xs k x at))

-- the events that were loaded are a window
pub window_of : (n : ℕ) (xs : List Stamp) (p q : PassView) → KnowsFrom n xs p q → n + length xs ≡ p.seen → IsWindow q.seen q.known n xs
window_of n xs p q is ends = record {
  ends = ends ∙ sym (ap (λ (z : PassView). z.seen) is);
  is_known = known_from n xs p q is;
}

-- a list of length zero is empty
empty_of : (xs : List Stamp) → length xs ≡ 0 → xs ≡ []
empty_of [] e = refl
empty_of (x ∷ xs) e = absurd (omega arith)

-- a pass that loaded the events up to a position, from that of an Info of the row or none at all, has walked over the row up to there
pub has_walked : (row : Row) (n to : ℕ) (xs : List Stamp) (p q : PassView) → KnowsFrom n xs p q → n + length xs ≡ to → (n ≡ to)
    ⊎ ((i : Info) × InRow row i × (i.pos ≡ n)) → HasWalkedTo row to p q
has_walked row n to xs p q is ends named = record {
  from = n;
  events = xs;
  is = is;
  ends = ends;
  named = elim named [ inl e ↦ inl (empty_of xs (omega arith)) | inr i ↦ inr i ];
}

-- a pass that did nothing has walked over its row, which loaded no event
pub not_walked : (row : Row) (p : PassView) → HasWalked row p p
not_walked row p = record { from = p.seen; events = []; is = knows_none p.seen p; ends = add-zero p.seen; named = inl refl }

-- what fits with more that is known fits with less
pub fits_before : (setting : Setting) (s : Shelf) (seen : ℕ) (known further : List (ℕ × Stamp)) (l : List Stamp)
    → IsFitting setting s seen (known ++ further) l → IsFitting setting s seen known l
fits_before setting s seen known further l f = record {
  long = f.long;
  now = f.now;
  allowed = f.allowed;
  knows = All-weaker (Contains known) (λ (k : ℕ × Stamp). k.0 < length l → slice_get l k.0 ≡ Some k.1)
      (λ e c. All-contains (λ (k : ℕ × Stamp). k.0 < length l → slice_get l k.0 ≡ Some k.1) (known ++ further) e f.knows
      (Contains-append_left known further e c)) known (All-contains_itself known);
  own = f.own;
}

-- what the rule means by Infos that stand for accesses the judge means, too
pub stand_judged : (setting : Setting) (l : List Stamp) (row : Row) → InfosStand setting l row → judging.InfosStand setting l row
stand_judged setting l row s = record { last_write = s.last_write; reads = s.reads }
