-- An attempt that is dropped, from the number of its end to its rows going back.
use Rattle.gl_model.specs.Kept.{AreVariables}
use Rattle.gl_model.specs.Rising.{with_all}
use Rattle.gl_txn.proofs.Finding.{found_held}
use Rattle.gl_txn.proofs.Holdings.{row_among}
use Rattle.gl_txn.proofs.Refusals.{row_of, lower_before}
use Rattle.gl_txn.proofs.Changes.{look_found, place_at}
use Rattle.std.proofs.Common.{◌≡◌, ℕ, zero, suc, ◌<◌, ◌==◌, List, [], ◌∷◌, ◌++◌, map, true, false, refl, sym, ap, ◌∙◌, subst, arith, Some, None, ne_eqb, length}
use Rattle.std.specs.Prelude.{Contains, ℤ}
use native.Mathlib.Decide.{ℕ_discrete}
use Rattle.gl_model.specs.declared.tx.Look.{Look}
use Rattle.gl_model.specs.declared.tx.Number.{Number}
use Rattle.gl_model.specs.declared.tx.Pair.{Pair}
use Rattle.gl_model.specs.declared.tx.Tx.{Tx}
use Rattle.gl_model.specs.declared.tx.Why.TheVariants.{Changed, Raised}
use Rattle.gl_model.specs.Entries.{Abort}
use Rattle.gl_model.specs.Trace.{is_in}
use Rattle.gl_draws.specs.Draws.{draw, Looked, Entered}
use Rattle.gl_draws.proofs.EntryKinds.{contains-is_in}
use Rattle.gl_rule.specs.Commits.{with_drew, IsUnchanged}
use Rattle.gl_rule.specs.Told.{IsAboveDrawn}
use Rattle.gl_rule.specs.View.{Held, moved}
use Rattle.gl_table.specs.CaughtUp.{block_of}
use Rattle.gl_table.specs.PassView.{PassView, view_of, after_adding}
use Rattle.gl_table.specs.Putting.{MayAbort, opened}
use Rattle.gl_txn.specs.Attempts.{Attempting}
use Rattle.gl_txn.specs.Changing.{IsFirstChange, look_in}
use Rattle.gl_txn.specs.Drawing.{end_of, numbered, drew_on, MayNumber, HasDrawn, with_entry}
use Rattle.gl_txn.specs.Holding.{vars_of, row_at, AreHeld, AreUnused, undrawn, row_held, held_by}
use Rattle.gl_txn.specs.Trying.{Draws}
use Rattle.gl_txn.specs.declared.changing.Change.{Change}
use Rattle.gl_txn.specs.declared.taken.TakenRow.{TakenRow}
use Rattle.gl_txn.proofs.Drawings.{number_more, may_number}
use Rattle.gl_txn.proofs.EndFacts.{may_drop, unused_dropped}
use Rattle.gl_txn.proofs.Numberings.{row_found, row_near, drawn_none}
use Rattle.gl_txn.proofs.Sizes.{of_look}
use Rattle.gl_model.proofs.PutParts.{found_part, all_right}

-- a variable in a one-element list is that element
one_only : (y x : ℕ) → is_in y (x ∷ []) ≡ true → y ≡ x
one_only y x b = elim (ℕ_discrete y x) [
  | yes e ↦ e
  | no ne ↦ (let f : (y == x) ≡ false = ne_eqb y x ne in let z : false ≡ true = rw f at b in cc)
]

-- the attempt whose word was changed, with the number n of its end
module _ (a : Attempting) (writes : List Pair) (p : PassView) (rows : List TakenRow) (c : Change) (m : MayNumber p rows)
    (held : AreHeld p.own.held None rows [] undrawn) (draws : Draws a p.own) (f : IsFirstChange a.looks rows c) where
  -- the row that is found for the change's variable is the changed one
  there : row_at rows c.var ≡ Some f.row
  there = ap (row_at rows) f.is.var ∙ row_found rows f.place f.row held.are.1 f.there

  abbrev number_of : ℕ → Number
  number_of n = record { var = c.var; nth = n }

  -- the change's variable is one that there is
  pub change_near : c.var < Rattle.gl_model.specs.declared.limits.TheConstants.VARIABLES
  change_near = subst (λ k. k < Rattle.gl_model.specs.declared.limits.TheConstants.VARIABLES) (sym f.is.var)
      (row_near rows f.place f.row held.are f.there)

  -- its row may be marked for the end of the attempt
  pub change_open : Rattle.gl_table.specs.Putting.MayOpenOn p c.var None
  change_open = may_number p p None rows [] [] m (drawn_none p None rows [] held) c.var f.row there
      (λ z. absurd (let l = z.1 in omega arith))

  -- where n is above the numbers of this variable that wait, a pass that draws it for the end has drawn just that number
  pub change_drawn : (q : PassView) (n : ℕ) → q ≡ opened p c.var n None → IsAboveDrawn c.var n p.own.drawn
      → HasDrawn p q None rows [] (record { var = c.var; nth = n } ∷ [])
  change_drawn q n is above = number_more p p None rows [] [] m (drawn_none p None rows [] held) c.var f.row there
      (λ z. absurd (let l = z.1 in omega arith)) q n is above

  abbrev in_rows : (y : ℕ) → is_in y (c.var ∷ []) ≡ true → (r : TakenRow) × (row_at rows y ≡ Some r)
  in_rows y b = (f.row, ap (row_at rows) (one_only y c.var b) ∙ there)

  -- the entry that drops the attempt as changed has its form, where its one number is named as it has to be
  formed : (n : ℕ) → Rattle.gl_model.specs.Form.NumbersName
      (record { looks = a.looks; writes = writes; numbers = record { var = c.var; nth = n } ∷ [] }) (c.var ∷ [])
      → Rattle.gl_model.specs.Form.EntryForm p.own.id
      (Abort (record { looks = a.looks; writes = writes; numbers = record { var = c.var; nth = n } ∷ [] }) (Changed c.var c.read c.found))
  formed n names =
      let l = found_part of_look f.row.var a.looks f.is.look f.is.looked in
      (names, (f.is.look.nth, subst (Contains a.looks) (look_is f.is.look (l.1 ∙ sym f.is.var) (sym f.is.read)) l.0), f.is.other)
    where
      look_is : (k : Look) → k.var ≡ c.var → k.value ≡ c.read → k ≡ record { var = c.var; value = c.read; nth = k.nth }
      look_is k e g = ap (λ v. record k { var = v }) e ∙ ap (λ v. record k { var = c.var; value = v }) g

  -- the row of each look at a lower variable is held, and has the word that was looked at
  unchanged : vars_of rows ≡ with_all (map (λ w. w.var) writes) (map (λ l. l.var) a.looks) → AreVariables (map (λ l. l.var) a.looks)
      → (q : PassView) (n : ℕ) → HasDrawn p q None rows [] (record { var = c.var; nth = n } ∷ []) → (l : Look) → Contains a.looks l
      → l.var < c.var
      → IsUnchanged (view_of (record p {
        own = record p.own {
          held = q.own.held;
          drawn = p.own.drawn
              ++ map end_of (record { var = c.var; nth = n } ∷ []);
        };
        moves = moved (length (number_of n ∷ [])) p.moves;
      })) l
  unchanged of looks q n d l has less =
      let b : is_in l.var (vars_of rows) ≡ true =
      contains-is_in l.var (vars_of rows) (subst (λ ys. Contains ys l.var) (sym of)
      (all_right (map (λ w. w.var) writes) (map (λ l. l.var) a.looks) l.var (among a.looks l has))) in
      let r = row_of rows l.var b in
      let at : r.0.var ≡ l.var = (row_among rows l.var r.0 r.1).1 in
      let k = place_at rows l.var r.0 r.1 in
      let v = f.is.var in
      let before = lower_before rows held.are.1 f.place k.0 f.row r.0 f.there k.1 (omega arith) in
      let one : Held = row_held [] (drew_on p (c.var ∷ [])) r.0 in
      record {
        one = one;
        row = r.0.row;
        held = (found_held (suc l.var) q.own.held one (d.held.at (suc l.var) ∙ ap (held_by [] (drew_on p (c.var ∷ []))) r.1)).0;
        object = ap suc at;
        taken = refl;
        word = sym (f.before k.0 r.0 before k.1 l (ap (look_in a.looks) at ∙ look_found a.looks looks.1 l has));
      }
    where
      among : (xs : List Look) (l : Look) → Contains xs l → Contains (map (λ l. l.var) xs) l.var
      among [] l c = absurd (let n = c.1 in omega arith)
      among (x ∷ xs) l (zero, n, e) = (0, omega arith, ap (λ (z : Look). z.var) e)
      among (x ∷ xs) l (suc k, n, e) = let f = among xs l (k, omega arith, e) in (suc f.0, (let n = f.1 in omega arith), f.2)

  -- once its number is drawn, the attempt may be dropped as changed
  pub may_change : vars_of rows ≡ with_all (map (λ w. w.var) writes) (map (λ l. l.var) a.looks) → AreVariables (map (λ l. l.var) a.looks)
      → (q : PassView) (n : ℕ) → HasDrawn p q None rows [] (record { var = c.var; nth = n } ∷ [])
      → MayAbort q (record { looks = a.looks; writes = writes; numbers = record { var = c.var; nth = n } ∷ [] })
      (Changed c.var c.read c.found)
  may_change of looks q n d =
      let ns : List Number = record { var = c.var; nth = n } ∷ [] in
      let names = Rattle.gl_txn.proofs.EndFacts.names_one a writes p q.own.held None rows [] ns (c.var ∷ []) draws refl (tt, tt) d.held
      d.above in_rows m.runs in
      subst (λ (z : PassView). MayAbort z (record { looks = a.looks; writes = writes; numbers = record { var = c.var; nth = n } ∷ [] })
      (Changed c.var c.read c.found)) (sym d.is) (
        block_of p.own.mine,
        record {
          drop = may_drop a writes p q.own.held None rows [] ns (c.var ∷ []) draws refl (tt, tt) d.held d.above in_rows m.runs
              (Changed c.var c.read c.found) (formed n names);
          word = λ b. f.is.found;
          least = λ l has less. unchanged of looks q n d l has less;
        },
      )

-- once the entry is stored, no access was drawn on the rows, and they may go back
module _ (p q : PassView) (rows : List TakenRow) (tails : List ℕ) (numbers : List Number) (zs : List ℕ) (are : numbered numbers ≡ zs)
    (d : HasDrawn p q None rows tails numbers) (tx : Tx) where
  -- the pass holds these rows, those of zs marked for the end of the attempt
  held_on : AreHeld q.own.held None rows tails (drew_on p zs)
  held_on = subst (λ ys. AreHeld q.own.held None rows tails (drew_on p ys)) are d.held

  -- once the attempt is dropped as changed, just the rows are held, and no access of them was drawn
  pub change_unused : (var : ℕ) (read found : ℤ) → zs ≡ var ∷ [] → (r : PassView) → r ≡ after_adding q (Abort tx (Changed var read found))
      → AreUnused r.own.held rows
  change_unused var read found is r added =
      subst (λ (l : List Held). AreUnused l rows)
      (sym (ap (λ (z : PassView). z.own.held) added
      ∙ ap (λ ys. map (with_drew ys (draw q.own.id (block_of q.own.mine) (Looked found))) q.own.held) (sym is)))
      (unused_dropped p q.own.held rows tails zs held_on (draw q.own.id (block_of q.own.mine) (Looked found)) (λ y. refl) (λ y. refl))

  -- so it is once the attempt is dropped for a race
  pub raise_unused : (var : ℕ) → zs ≡ Rattle.gl_model.specs.Records.variables_of tx → (r : PassView) → r
      ≡ after_adding q (Abort tx (Raised var)) → AreUnused r.own.held rows
  raise_unused var is r added =
      subst (λ (l : List Held). AreUnused l rows)
      (sym (ap (λ (z : PassView). z.own.held) added
      ∙ ap (λ ys. map (with_drew ys (draw q.own.id (block_of q.own.mine) (Entered (Abort tx (Raised var))))) q.own.held) (sym is)))
      (unused_dropped p q.own.held rows tails zs held_on (draw q.own.id (block_of q.own.mine) (Entered (Abort tx (Raised var))))
      (λ y. refl) (λ y. refl))

  -- once all is put back, a pass that dropped its attempt as changed has that entry more, and no number waits; but for its steps and its
  -- spare room the rest is as before
  pub change_stored : (var : ℕ) (read found : ℤ) (r s : PassView) → r ≡ after_adding q (Abort tx (Changed var read found)) → s
      ≡ record r { own = record r.own { held = [] }; moves = s.moves }
      → s ≡ record (with_entry p (Abort tx (Changed var read found))) { moves = s.moves }
  change_stored var read found r s added put =
      put ∙ ap (λ (z : PassView). record z { own = record z.own { held = [] }; moves = s.moves }) added
      ∙ ap (λ (z : PassView). record (after_adding z (Abort tx (Changed var read found)))
      { own = record (after_adding z (Abort tx (Changed var read found))).own { held = [] }; moves = s.moves }) d.is

  -- so it is for one that dropped it for a race
  pub raise_stored : (var : ℕ) (r s : PassView) → r ≡ after_adding q (Abort tx (Raised var)) → s
      ≡ record r { own = record r.own { held = [] }; moves = s.moves }
      → s ≡ record (with_entry p (Abort tx (Raised var))) { moves = s.moves }
  raise_stored var r s added put =
      put ∙ ap (λ (z : PassView). record z { own = record z.own { held = [] }; moves = s.moves }) added
      ∙ ap (λ (z : PassView). record (after_adding z (Abort tx (Raised var)))
      { own = record (after_adding z (Abort tx (Raised var))).own { held = [] }; moves = s.moves }) d.is

-- a transaction without numbers that gets one more has just that one
pub tx_is : (t d : Tx) (ns : List Number) (n : Number) → d ≡ t → t.numbers ≡ [] → ns ≡ d.numbers ++ n ∷ []
    → ◌≡◌ {A = Tx} (record { looks = d.looks; writes = d.writes; numbers = ns })
    (record { looks = t.looks; writes = t.writes; numbers = n ∷ [] })
tx_is t d ns n is none more =
    ap (λ (l : List Number). record d { numbers = l }) more ∙ ap (λ (t : Tx). record t { numbers = t.numbers ++ n ∷ [] }) is
    ∙ ap (λ (l : List Number). record t { numbers = l ++ n ∷ [] }) none
