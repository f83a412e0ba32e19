-- A commit, from reaching the list to the rows going back.
use Rattle.std.proofs.Common.{◌≡◌, ℕ, zero, suc, ◌==◌, List, [], ◌∷◌, map, true, false, Bool, refl, ap, ◌∙◌, subst, arith, Some, None, ne_eqb}
use Rattle.std.specs.Prelude.{Contains, Option, if◌then◌else◌}
use Rattle.gl_model.specs.declared.tx.Tx.{Tx}
use Rattle.gl_model.specs.Entries.{Entry, Commit}
use Rattle.gl_model.specs.Form.{NumbersName}
use Rattle.gl_model.specs.Records.{variables_of}
use Rattle.gl_model.specs.Trace.{is_in}
use Rattle.gl_draws.specs.Draws.{Draw}
use Rattle.gl_draws.specs.Forming.{MayStore}
use Rattle.gl_draws.proofs.EntryKinds.{contains-is_in}
use Rattle.gl_rule.specs.declared.slot.Slot.{Slot}
use Rattle.gl_rule.specs.Commits.{drew_commit}
use Rattle.gl_rule.specs.Lives.{Running, life_of}
use Rattle.gl_rule.specs.View.{Held, new_held, with_tail, without, after_publish}
use Rattle.gl_rule.proofs.Lasting.{no_end, no_over, has_begun}
use Rattle.gl_txn.specs.Holding.{vars_of, found, row_at, row_held, held_by, held_of, AreHeld, undrawn}
use Rattle.gl_txn.specs.declared.taken.TakenRow.{TakenRow}
use Rattle.gl_txn.proofs.Finding.{found_here, found_past, found_mapped, changed, found_gone, found_still, once_more, once_mapped, once_without}
use Rattle.gl_txn.proofs.Holdings.{row_among}

-- the list is held beside the rows, and a tail was seen
module _ (held : List Held) (rows : List TakenRow) (tails : List ℕ) (a : AreHeld held None rows tails undrawn) (y : Slot) (n : ℕ) where
  abbrev pub list_held : Held
  list_held = with_tail n (new_held 0 y)

  -- a row as it was held becomes, with that tail seen, the row with one tail more
  at_tail : (o : Option TakenRow) → changed (with_tail n) (held_by tails undrawn o) ≡ held_by (n ∷ tails) undrawn o
  at_tail None = refl
  at_tail (Some r) = refl

  -- so just the list and these rows are held, each of them once, with the tail seen
  pub held_reached : AreHeld (map (with_tail n) (new_held 0 y ∷ held)) (Some (with_tail n (new_held 0 y))) rows (n ∷ tails) undrawn
  held_reached = record {
    at = at;
    once = once_mapped (with_tail n) (λ h. refl) (new_held 0 y ∷ held) (once_more (new_held 0 y) held a.once (a.at 0));
    are = a.are;
  }
    where
      at : (k : ℕ) → found k (map (with_tail n) (new_held 0 y ∷ held))
          ≡ held_of (Some (with_tail n (new_held 0 y))) rows (n ∷ tails) undrawn k
      at zero = found_here (with_tail n (new_held 0 y)) (map (with_tail n) held) 0 refl
      at (suc z) = found_past (with_tail n (new_held 0 y)) (map (with_tail n) held) (suc z) (λ e. absurd (omega arith))
          ∙ found_mapped (with_tail n) (λ h. refl) (suc z) held ∙ ap (changed (with_tail n)) (a.at (suc z)) ∙ at_tail (row_at rows z)

-- after the commit d of the rows' variables was published at n, and the list put back
module _ (held : List Held) (l : Held) (l0 : l.object ≡ 0) (rows : List TakenRow) (tails : List ℕ) (drew : ℕ → Option Draw)
    (a : AreHeld held (Some l) rows tails drew) (n : ℕ) (y : Slot) (ys : List ℕ) (are : vars_of rows ≡ ys) (d : Draw) where
  abbrev pub changes : Held → Held
  changes h = after_publish n y (drew_commit ys d) h

  -- publishing changes the number of no held object
  same_object : (h : Held) → (after_publish n y (drew_commit ys d) h).object ≡ h.object
  same_object h = by_bool (h.object == 0)
    where
      by_bool : (b : Bool) → (if b then record h { taken = y; tails = suc n ∷ [] }
          else record h { tails = suc n ∷ h.tails; drew = drew_commit ys d h }).object ≡ h.object
      by_bool true = refl
      by_bool false = refl

  -- a held row of one of the commit's variables gets the new tail, and the commit drawn on it
  changes_row : (r : TakenRow) → Contains ys r.var → after_publish n y (drew_commit ys d) (row_held tails drew r)
      ≡ row_held (suc n ∷ tails) (λ z. Some d) r
  changes_row r c =
      let f : (suc r.var == 0) ≡ false = ne_eqb (suc r.var) 0 (λ e. absurd (omega arith)) in
      let b : is_in r.var ys ≡ true = contains-is_in r.var ys c in
      rw (f, b) refl

  -- so does whatever is held of a variable
  at_row : (z : ℕ) (o : Option TakenRow) → row_at rows z ≡ o → changed (after_publish n y (drew_commit ys d)) (held_by tails drew o)
      ≡ held_by (suc n ∷ tails) (λ z. Some d) o
  at_row z None e = refl
  at_row z (Some r) e = ap (λ (h : Held). Some h)
      (changes_row r (subst (λ l. Contains l r.var) are (in_vars_of rows r (row_among rows z r e).0)))
    where
      in_vars_of : (rows : List TakenRow) (r : TakenRow) → Contains rows r → Contains (vars_of rows) r.var
      in_vars_of [] r c = absurd (let l = c.1 in omega arith)
      in_vars_of (x ∷ xs) r (zero, l, e) = (0, omega arith, ap (λ (z : TakenRow). z.var) e)
      in_vars_of (x ∷ xs) r (suc k, l, e) = let f = in_vars_of xs r (k, omega arith, e) in (suc f.0, (let l = f.1 in omega arith), f.2)

  -- so just these rows are held, each of them once, with the new tail and the commit drawn on them
  pub held_published : AreHeld (without 0 (map (after_publish n y (drew_commit ys d)) held)) None rows (suc n ∷ tails) (λ z. Some d)
  held_published = record {
    at = at;
    once = once_without 0 (map (after_publish n y (drew_commit ys d)) held)
        (once_mapped (after_publish n y (drew_commit ys d)) same_object held a.once);
    are = a.are;
  }
    where
      at : (k : ℕ) → found k (without 0 (map (after_publish n y (drew_commit ys d)) held))
          ≡ held_of None rows (suc n ∷ tails) (λ z. Some d) k
      at zero = found_gone 0 (map (after_publish n y (drew_commit ys d)) held)
      at (suc z) = found_still 0 (suc z) (map (after_publish n y (drew_commit ys d)) held) (λ e. absurd (omega arith))
          ∙ found_mapped (after_publish n y (drew_commit ys d)) same_object (suc z) held
          ∙ ap (changed (after_publish n y (drew_commit ys d))) (a.at (suc z)) ∙ at_row z (row_at rows z) refl

-- the entry of a commit may be stored by a thread that runs
pub may_store_commit : (t : ℕ) (es : List Entry) (n : ℕ) (tx : Tx) → life_of es ≡ Running → NumbersName tx (variables_of tx)
    → MayStore t es (Commit n tx)
may_store_commit t es n tx runs form = record {
  well_formed = form;
  begins = λ _ all. absurd (let b = has_begun es runs in b.1.2 (all b.0 b.1.0 b.1.1));
  lows = λ i low high at e. absurd (cc);
  after_end = λ i f at last. ((λ end. absurd (no_end es runs i f at end)), (λ over. absurd over));
  open_still = no_over es runs;
  cached = λ x k write v e. absurd (cc);
  repeats = λ x k v e. absurd (cc);
}
