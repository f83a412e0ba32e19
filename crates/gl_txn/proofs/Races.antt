-- One row after another is judged.
use Rattle.gl_rule.proofs.Moves.{loads_both}
use Rattle.gl_rule.specs.View.{Moves, with_loads}
use Rattle.std.proofs.Common.{◌≡◌, ℕ, zero, suc, ◌+◌, ◌≤◌, ◌==◌, List, [], ◌∷◌, ◌++◌, length, map, true, false, refl, sym, ap, ◌∙◌, subst, arith, Some, inl, inr, append_assoc, eq-eqb, ne_eqb, length-append, ◌*◌}
use Rattle.std.specs.Prelude.{Contains, ◌↔◌, is_some, slice_get}
use Rattle.std.specs.List.{find}
use Rattle.std.proofs.lemmas.Bool.{cases_lt}
use Rattle.std.proofs.lemmas.Option.{slice_get_within}
use native.Mathlib.Decide.{ℕ_discrete}
use Rattle.gl_model.specs.declared.event.Stamp.{Stamp}
use Rattle.gl_model.specs.declared.row.Question.{Question}
use Rattle.gl_model.specs.declared.row.Row.{Row}
use Rattle.gl_model.specs.declared.tx.Pair.{Pair}
use Rattle.gl_model.specs.Machine.{Setting}
use Rattle.gl_model.specs.Trace.{is_in}
use Rattle.gl_draws.specs.RowFacts.{SomeFails}
use Rattle.gl_draws.proofs.Running.{running_law}
use Rattle.gl_judge.specs.declared.judging.Verdict.{Verdict}
use Rattle.gl_judge.specs.declared.judging.Verdict.TheVariants.{Race}
use Rattle.gl_judge.specs.Standing as judging
use Rattle.gl_rows.specs.Walks.{HoldsRow, HasWalked}
use Rattle.gl_rows.proofs.Windows.{fits_before, stand_judged}
use Rattle.gl_rule.specs.Fitting.{IsFitting, InfosStand}
use Rattle.gl_rule.proofs.Lasting.{no_end, has_block}
use Rattle.gl_shortcut.specs.Ordering.{IsOfNext}
use Rattle.gl_table.specs.PassView.{PassView, shelf_of}
use Rattle.gl_txn.specs.Holding.{row_held, held_by}
use Rattle.gl_txn.specs.Racing.{asked_on, MayJudge, KnowsOn, Over, IsClearOn, AreClearBefore, AreClear, IsFirstRace}
use Rattle.gl_txn.specs.declared.taken.TakenRow.{TakenRow}
use Rattle.gl_txn.proofs.Finding.{found_held}
use Rattle.gl_txn.proofs.Numberings.{row_found}

-- whether there is a write of x, by two definitions
pub is_written : (x : ℕ) (ws : List Pair) → is_some (find (λ p. p.var == x) ws) ≡ is_in x (map (λ w. w.var) ws)
is_written x [] = refl
is_written x (w ∷ ws) = elim (ℕ_discrete x w.var) [
  | yes e ↦ (let a : (w.var == x) ≡ true = eq-eqb w.var x (sym e) in let b : (x == w.var) ≡ true = eq-eqb x w.var e in rw (a, b) refl)
  | no ne ↦ (let a : (w.var == x) ≡ false = ne_eqb w.var x (λ e. ne (sym e)) in let b : (x == w.var) ≡ false = ne_eqb x w.var ne
      in rw (a, b) (is_written x ws))
]

-- a log with its places has as many events as the log
placed_long : (n : ℕ) (xs : List Stamp) → length (Rattle.gl_rows.specs.Walks.placed_from n xs) ≡ length xs
placed_long n [] = refl
placed_long n (x ∷ xs) = ap suc (placed_long (suc n) xs)

-- what is known of a pass is known still after a row was walked
pub knows_more : (row : _) (p q r : PassView) → KnowsOn p q → HasWalked row q r → KnowsOn p r
knows_more row p q r k w =
    let new = Rattle.gl_rows.specs.Walks.placed_from w.from w.events in
    record {
      more = k.more ++ new;
      is = w.is
          ∙ ap (λ (z : PassView). record z { known = z.known ++ new; loaded = r.loaded; moves = with_loads (5 * length w.events) z.moves })
          k.is
          ∙ ap (λ (l : List (ℕ × Stamp)). record p {
            known = l;
            loaded = r.loaded;
            moves = with_loads (5 * length w.events) (with_loads (5 * length k.more) p.moves);
          }) (append_assoc p.known k.more new)
          ∙ ap (λ (m : Moves). record p { known = p.known ++ (k.more ++ new); loaded = r.loaded; moves = m })
          (loads_both (5 * length k.more) (5 * length w.events) (5 * length (k.more ++ new)) p.moves
          (let a = length-append k.more new in let b = placed_long w.from w.events in omega arith));
    }

-- what is said over each list that fits a pass is said over each that fits it when it knows more
pub over_more : (row : _) (q r : PassView) (rows : List TakenRow) (P : List Stamp → Type 0) → HasWalked row q r → Over q rows P
    → Over r rows P
over_more row q r rows P w over setting l fits stand =
    let new = Rattle.gl_rows.specs.Walks.placed_from w.from w.events in
    over setting l (fits_before setting (shelf_of q) q.seen q.known new l
    (subst (λ (z : PassView). IsFitting setting (shelf_of z) z.seen z.known l) w.is fits)) stand

-- what a check answers
abbrev pub Says : PassView → Row → Question → Verdict → Type 0
Says s row q verdict = (setting : Setting) (l : List Stamp) → IsFitting setting (shelf_of s) s.seen s.known l → IsOfNext setting l q
    → judging.InfosStand setting l row → (verdict ≡ Race) ↔ SomeFails l row q

-- a verdict on one row and question is one on an equal row and question
pub says_same : (s : PassView) (a b : Row) (q u : Question) (verdict : Verdict) → a ≡ b → q ≡ u → Says s a q verdict → Says s b u verdict
says_same s a b q u verdict e f says = subst (λ (u : Question). Says s b u verdict) f (subst (λ (b : Row). Says s b q verdict) e says)

module _ (p q : PassView) (rows : List TakenRow) (base : Question) (writes : List Pair) (m : MayJudge p rows base) (k : KnowsOn p q)
    (i : ℕ) (r : TakenRow) (there : slice_get rows i ≡ Some r) where
  -- a row that stands at a place is in the list
  in_place : (xs : List TakenRow) (j : ℕ) → slice_get xs j ≡ Some r → Contains xs r
  in_place [] j e = absurd (cc)
  in_place (x ∷ xs) zero e = (0, omega arith, (let same : x ≡ r = cc in same))
  in_place (x ∷ xs) (suc j) e = let c = in_place xs j e in (suc c.0, (let l = c.1 in omega arith), c.2)

  -- the pass holds the row at place i
  pub holds_it : HoldsRow q r.row
  holds_it = subst (λ (z : PassView). HoldsRow z r.row) (sym k.is) (
    row_held m.tails m.drew r,
    (found_held (suc r.var) p.own.held (row_held m.tails m.drew r) (m.held.at (suc r.var)
        ∙ ap (held_by m.tails m.drew) (row_found rows i r m.held.are.1 there))).0,
    (r.var, refl),
    refl,
  )

  -- the Infos of this row stand within what the pass has seen
  pub within_it : Rattle.gl_draws.specs.RowFacts.IsWithin r.row q.seen
  within_it = subst (λ (z : PassView). Rattle.gl_draws.specs.RowFacts.IsWithin r.row z.seen) (sym k.is) (m.within r (in_place rows i there))

  -- the question is of a next access behind each fitting list
  next : (z : PassView) → KnowsOn p z → (setting : Setting) (l : List Stamp) → IsFitting setting (shelf_of z) z.seen z.known l
      → IsOfNext setting l (asked_on base writes r.var)
  next z e setting l fits =
      let f = subst (λ (z : PassView). IsFitting setting (shelf_of z) z.seen z.known l) e.is fits in
      let b = has_block p.own.mine m.runs in
      record {
        thread = refl;
        write_mark = refl;
        commit = refl;
        now = f.now;
        allowed = f.allowed;
        runs = subst (λ t. f.now.threads t ≡ Rattle.gl_model.specs.Machine.Running) (sym m.thread)
            (running_law setting l f.now p.own.id b.0 p.own.mine f.allowed f.own b.1 (no_end p.own.mine m.runs));
        held = subst (λ t. Rattle.gl_model.specs.Infos.AreLeastOwned f.now t base.held) (sym m.thread)
            (m.owned setting l f.now f.own f.allowed);
      }

  -- what a check answered
  module _ (s : PassView) (w : HasWalked r.row q s) (verdict : Verdict)
      (says : Says s r.row (asked_on base writes r.var) verdict) where
    -- over each list that fits the pass, and over which the rows' Infos stand for accesses, the check says Race just where the commit
    -- completes a race on the row
    pub says_on : (setting : Setting) (l : List Stamp) → IsFitting setting (shelf_of s) s.seen s.known l
        → ((u : TakenRow) → Contains rows u → InfosStand setting l u.row)
        → (verdict ≡ Race) ↔ SomeFails l r.row (asked_on base writes r.var)
    says_on setting l fits stand = says setting l fits (next s (knows_more r.row p q s k w) setting l fits)
        (stand_judged setting l r.row (stand r (in_place rows i there)))

    -- rows that are equal as options are equal
    some_is : (u v : TakenRow) → Some u ≡ Some v → u ≡ v
    some_is u v e = cc

    -- the rows before place i that were clear before the check are clear after it
    before_on : AreClearBefore i q base writes rows → AreClearBefore i s base writes rows
    before_on before j u near at = over_more r.row q s rows (λ l. SomeFails l u.row (asked_on base writes u.var) → ⊥) w (before j u near at)

    -- where the check does not say Race, the rows before place i + 1 are clear, if those before place i are
    pub clear_next : (verdict ≡ Race → ⊥) → AreClearBefore i q base writes rows → AreClearBefore (i + 1) s base writes rows
    clear_next clear before j u near at = elim (cases_lt j i) [
      | inl low ↦ before_on before j u low at
      | inr ge ↦ (let same : j ≡ i = omega arith in let is = some_is r u (sym there ∙ ap (slice_get rows) (sym same) ∙ at) in
          subst (λ (v : TakenRow). IsClearOn s base writes rows v) is
          (λ setting l fits stand fails. clear ((says_on setting l fits stand).1 fails)))
    ]

    -- where it does, and the rows before place i are clear, the first race is on this row's variable
    pub race_here : verdict ≡ Race → AreClearBefore i q base writes rows → IsFirstRace s base writes rows r.var
    race_here race before = record {
      place = i;
      row = r;
      there = there;
      var = refl;
      races = λ setting l fits stand. (says_on setting l fits stand).0 race;
      before = before_on before;
    }

-- rows that are clear up to the end are all clear
pub clear_all : (q : PassView) (base : Question) (writes : List Pair) (rows : List TakenRow) (i : ℕ) → length rows ≤ i
    → AreClearBefore i q base writes rows → AreClear q base writes rows
clear_all q base writes rows i past before k r at = before k r (let near = slice_get_within rows k r at in omega arith) at
