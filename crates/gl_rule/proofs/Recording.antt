-- The rule when an attempt that was dropped, or the end of a list, is recorded: no word changes.
use Rattle.std.proofs.Common.{◌≡◌, ◌≢◌, ℕ, zero, suc, ◌+◌, ◌^◌, ◌<◌, ◌≤◌, List, [], ◌∷◌, ◌++◌, length, map, set, sym, refl, ap, subst, arith, ◌∙◌, inl, inr, Some, None, true, false, Bool}
use Rattle.std.specs.Prelude.{ℤ, Contains, ◌⊎◌, Option}
use Rattle.std.specs.List.{All}
use Rattle.std.proofs.lemmas.List.Elements.{All-contains}
use mathlib.Core.Option.{some}
use lib.ListN.{get_elem?}
use Rattle.atomic_table.specs.Table as table
use Rattle.gl_model.specs.declared.event.Stamp.{Stamp}
use Rattle.gl_model.specs.declared.limits.TheConstants.{THREADS}
use Rattle.gl_model.specs.declared.row.Row.{Row}
use Rattle.gl_model.specs.declared.tx.Tx.{Tx}
use Rattle.gl_model.specs.declared.tx.Why.{Why}
use Rattle.gl_model.specs.declared.tx.Why.TheVariants.{Raised}
use Rattle.gl_model.specs.Entries.{Entry, Abort}
use Rattle.gl_model.specs.Form.{Draws}
use Rattle.gl_model.specs.Records.{position_of, variables_of}
use Rattle.gl_model.specs.Trace.{is_in}
use Rattle.gl_draws.specs.Draws.{What, Looked, Open, Draw, draw, DrawAt, Among, Entered}
use Rattle.gl_draws.specs.Resolved.{resolved}
use Rattle.gl_draws.specs.RowFacts.{RowStands}
use Rattle.gl_draws.specs.Ties.{Drawn, IsFor, IsInBlock, IsKept, in_list, in_flight, count_by}
use Rattle.gl_draws.specs.Verdicts.{DrawsHold, IsRight, IsNamed, IsBehind, IsCommitWhat, BlockIs}
use Rattle.gl_draws.proofs.Resolves.{count_resolved, length_resolved}
use Rattle.gl_draws.proofs.DrawPlaces.{one_draw}
use Rattle.gl_draws.proofs.EntryKinds.{contains-is_in}
use Rattle.gl_draws.proofs.EventTies.{events_push}
use Rattle.gl_draws.proofs.Sets.{map_contains}
use Rattle.gl_draws.proofs.Pushes.{at_cases}
use Rattle.gl_rule.specs.declared.slot.Slot.{Slot}
use Rattle.gl_rule.specs.declared.slot.Slot.TheVariants as slot
use Rattle.gl_rule.specs.Objects.{Key, Board, board, capacity}
use Rattle.gl_rule.specs.View.{View, Held, Shelf, HasObject, shelf}
use Rattle.gl_rule.specs.World.{World}
use Rattle.gl_rule.specs.Turns.{HeldOne}
use Rattle.gl_rule.specs.Positions.{ShelfFits}
use Rattle.gl_rule.specs.Numbers.{ShelfDraws}
use Rattle.gl_rule.specs.Values.{Stands, StandsHeld, HeldStands, RowHeld, with_draw}
use Rattle.gl_rule.specs.Knowledge.{AreBelow, TailsFit}
use Rattle.gl_rule.specs.Ring.{FloorFits, ShelfTrims}
use Rattle.gl_rule.specs.Commits.{MayDrop, is_object, drew_commit, with_drew, dropped}
use Rattle.gl_draws.specs.Refusals.{RefusalRight, RefusalsHold}
use Rattle.gl_rule.specs.Refusals.{DrawsBelow, ShelfRefusals}
use Rattle.gl_draws.specs.Draws.{is_write, last_write}
use Rattle.gl_draws.proofs.Pushes.{last_push}
use Rattle.gl_model.specs.Records.{IsPerformed}
use Rattle.gl_draws.specs.Repeated.{IsCalm}
use Rattle.gl_rule.specs.Owed.{repeats_of}
use Rattle.gl_rule.proofs.Owing.{last_written, owed_moves, owed_others, repeats_kept, write_past, open_unrepeated}
use Rattle.gl_rule.specs.Machine.{ShelfCarries}
use Rattle.gl_rule.specs.Rule.{Fits, Holds}
use Rattle.gl_rule.proofs.Each.{each_set}
use Rattle.gl_rule.proofs.HeldLists.{both_map, in_mapped, only_shelf, one_shelf}
use Rattle.gl_rule.proofs.Committing.{held_open, still_none, still_some, cons_tail, the_then, the_else}
use Rattle.gl_draws.proofs.EndedAttempts.{AreEnded, drawn_ended}
use Rattle.gl_draws.proofs.Forming.{formed_push, counted_push, store_running}
use Rattle.gl_rule.proofs.Frames.{machine_same, turns_kept}
use Rattle.gl_rule.proofs.Marking.{placed_at}
use Rattle.gl_rule.proofs.Publishing.{trims_push, same_thread}
use Rattle.gl_draws.proofs.Refusing.{refusals_until}
use Rattle.gl_rule.proofs.Refusing.{carries_push}
use Rattle.gl_rule.proofs.Tries.{tries_moved}

-- what a dropped attempt's own draws become, and what has to hold of them
pub record Becomes (key : Key) (w : World) (s : Shelf) (v : View) (tx : Tx) (why : Why) (zs : List ℕ) (p : ℕ)
    (may : MayDrop s v tx why zs p) (w0 : What) (until' : ℕ → ℕ → ℕ) : Type 0 where
  pub right : (y : ℕ) (c : is_in y zs ≡ true) (ds : List Draw) → w.draws y ≡ draw s.thread p Open ∷ ds
      → RowStands key.setting w.log y ds (may.rows y c).row → IsRight w.log y ds s.thread p w0
  pub block : (e : Stamp) → BlockIs w0 e
  pub behind : (a : ℕ) → a ≤ p → IsBehind a p w0
  pub none : IsCommitWhat w0 → ⊥
  pub named : (y k : ℕ) → Contains tx.numbers (record { var = y; nth = k }) → IsNamed y k w0
  pub looks : (y k : ℕ) (value : ℤ) → Contains tx.looks (record { var = y; value = value; nth = k })
      → (Contains tx.numbers (record { var = y; nth = k }) → ⊥) → IsFor (Looked value) (Abort tx why) y k
  pub is_for : (y k : ℕ) → Contains tx.numbers (record { var = y; nth = k }) → IsFor w0 (Abort tx why) y k
  pub unperformed : (e : Entry) → w0 ≡ Entered e → IsPerformed e → ⊥
  pub unwritten : (x : ℕ) → is_write x w0 ≡ false
  pub in_block : IsInBlock w0 (s.marked ++ Abort tx why ∷ []) (length s.marked) p
  pub same : (y k : ℕ) → (is_in y zs ≡ false) ⊎ (suc k ≢ length (w.draws y)) → until' y k ≡ w.until y k
  pub refused : (y : ℕ) (c : is_in y zs ≡ true) (ds : List Draw) → w.draws y ≡ draw s.thread p Open ∷ ds
      → RowStands key.setting w.log y ds (may.rows y c).row → RefusalRight w.log (until' y) y ds s.thread p w0
  pub judged : (var : ℕ) → Abort tx why ≡ Abort tx (Raised var) → (n : ℕ)
      × ((y k : ℕ) → Contains tx.numbers (record { var = y; nth = k }) → until' y k ≡ n) × (is_in var (variables_of tx) ≡ true)

module _ (key : Key) (w : World) (st : table.State Slot View) (id : ℕ) (v : View) (s : Shelf) (tx : Tx) (why : Why) (zs : List ℕ) (p : ℕ)
    (one : v.shelves ≡ s ∷ []) (may : MayDrop s v tx why zs p) (H : Holds key w st) (here : get_elem? st.views id ≡ some v) where
  abbrev b : Board
  b = board (capacity key) st.words

  abbrev e : Entry
  e = Abort tx why

  -- the pass's view fits
  mine : Fits key b w id v
  mine = H.views.at id v here

  -- its one list has its thread's events, in a form that it may have so far
  fits : ShelfFits w.log w.seat id s
  fits = only_shelf (ShelfFits w.log w.seat id) v s one mine.positions.shelves

  -- each draw of its thread has its entry in the list, or waits for it
  draws : ShelfDraws w.draws v.drawn s
  draws = only_shelf (ShelfDraws w.draws v.drawn) v s one mine.numbers.shelves

  -- a row that was marked for the end of the attempt stands for the draws below that mark
  pub open_row : (y : ℕ) (c : is_in y zs ≡ true) → (ds : List Draw) × (w.draws y ≡ draw s.thread p Open ∷ ds)
      × RowStands key.setting w.log y ds (may.rows y c).row
  open_row y c = let r = may.rows y c in held_open key.setting w b.hold r.one.drew r.one.object y (draw s.thread p Open) r.one.taken r.row
      r.object r.taken r.drew (All-contains (HeldStands key.setting w b.hold) v.held r.one mine.values.held r.held)

  -- and the mark's number is the attempt's
  pub number_of : (y : ℕ) (ds : List Draw) → w.draws y ≡ draw s.thread p Open ∷ ds
      → Contains tx.numbers (record { var = y; nth = length ds })
  number_of y ds is =
      let at : DrawAt (w.draws y) (length ds) (draw s.thread p Open) =
      subst (λ l. DrawAt l (length ds) (draw s.thread p Open)) (sym is) (inl (refl, refl)) in
      by (draws.numbers.kept y (length ds) (draw s.thread p Open) at refl)
    where
      by : IsKept s.marked v.drawn y (length ds) (draw s.thread p Open) → Contains tx.numbers (record { var = y; nth = length ds })
      by (in_list i g a n f q) = absurd f
      by (in_flight look c q) = (may.owns y (length ds)).0
          (subst (λ o. Contains v.drawn (record { var = y; nth = length ds; look = o })) q c)

  -- each number of the attempt is on one of the variables that were marked for its end
  named_in : (y k : ℕ) → Contains tx.numbers (record { var = y; nth = k }) → is_in y zs ≡ true
  named_in y k c = contains-is_in y zs (subst (λ l. Contains l y) may.names.variables
      (map_contains (λ n. n.var) tx.numbers (record { var = y; nth = k }) c))

  -- the number of an own draw is that of the head
  pub head_number : (y k : ℕ) (ds : List Draw) → Contains tx.numbers (record { var = y; nth = k }) → w.draws y ≡ draw s.thread p Open ∷ ds
      → k ≡ length ds
  head_number y k ds n is = may.once y k (length ds) n (number_of y ds is)

  module _ (w0 : What) (until' : ℕ → ℕ → ℕ) (B : Becomes key w s v tx why zs p may w0 until') where
    abbrev d : Draw
    d = draw s.thread p w0

    abbrev after : ℕ → List Draw
    after = resolved w.draws zs (draw s.thread p w0)

    -- on the marked variables the draw for w0 stands afterwards in the place of the mark
    after_in : (y : ℕ) → is_in y zs ≡ true → (ds : List Draw) → w.draws y ≡ draw s.thread p Open ∷ ds → after y ≡ d ∷ ds
    after_in y c ds is = rw (c, is) refl

    -- on any other variable the draws stay
    after_out : (y : ℕ) → is_in y zs ≡ false → after y ≡ w.draws y
    after_out y c = rw c refl

    -- on each of the attempt's marked variables the mark is the last draw
    heads : (y : ℕ) → is_in y zs ≡ true → (ds : List Draw) × (w.draws y ≡ draw s.thread p Open ∷ ds)
    heads y c = let r = open_row y c in (r.0, r.1)

    -- each thread has as many draws on each variable as before
    same_count : (u y : ℕ) → count_by u (after y) ≡ count_by u (w.draws y)
    same_count u y = count_resolved w.draws s.thread p zs d refl heads u y

    -- on each variable there are as many draws as before
    same_length : (y : ℕ) → length (after y) ≡ length (w.draws y)
    same_length y = length_resolved w.draws s.thread p zs d refl heads y

    -- each number that the attempt's entry draws is one that waits
    waits : (y k : ℕ) → Draws (Abort tx why) y k → (look : Option ℤ) × Contains v.drawn (record { var = y; nth = k; look = look })
    waits y k (inl l) = (Some l.0, (may.looks y k l.0).1 l.1)
    waits y k (inr n) = (None, (may.owns y k).1 n)

    -- the number of a look that waits is no number of the attempt's end
    not_own : (y k : ℕ) (value : ℤ) → Contains v.drawn (record { var = y; nth = k; look = Some value })
        → Contains tx.numbers (record { var = y; nth = k }) → ⊥
    not_own y k value c n =
        let f = draws.numbers.in_flight (record { var = y; nth = k; look = None }) ((may.owns y k).1 n) in
        let g = draws.numbers.in_flight (record { var = y; nth = k; look = Some value }) c in
        let same : f.0 ≡ g.0 = one_draw (w.draws y) k f.0 g.0 f.1 g.1 in
        still_some g.0.what value g.3 (sym (ap (λ (z : Draw). z.what) same) ∙ still_none f.0.what f.3)

    -- the numbers that wait are those of the attempt that ends by this entry, and its marks become draws for w0
    are_dropped : AreEnded w.draws s.thread p p zs w0 tx e s.marked v.drawn
    are_dropped = record {
      heads = λ y c. let r = open_row y c in (r.0, r.1, number_of y r.0 r.1);
      looks = λ y k value c. let l = (may.looks y k value).0 c in (inl (value, l), B.looks y k value l (not_own y k value c));
      own = λ y k c. let n = (may.owns y k).0 c in (named_in y k n, λ ds is. head_number y k ds n is);
      all = waits;
      above = λ y k i j g at q q'. let o = waits y i q' in draws.above y k i j g o.0 at q o.1;
      is_for = B.is_for;
      draws_own = λ y k n. inr n;
      in_block = B.in_block;
    }

    -- with the entry in the list its thread's draws are tied to it, and no number waits
    numbers_own : ShelfDraws after [] (shelf s.thread (s.marked ++ e ∷ []))
    numbers_own = record {
      numbers = drawn_ended w.draws s.thread p p zs w0 tx e s.marked v.drawn draws.numbers are_dropped;
      few = λ y. let a = draws.few y in let t = draws.two y in let q = same_count s.thread y in let g = counted_push s.marked e (λ z. z)
          in omega arith;
      two = λ y. omega arith;
      above = λ y n i j g o at dr has. absurd (let l = has.1 in omega arith);
      runs = λ o has. absurd (let l = has.1 in omega arith);
    }

    -- each draw is afterwards one of a thread that there is
    among_after : (y : ℕ) (f : Draw) → Among (after y) f → f.thread < THREADS
    among_after y f among = by (is_in y zs) refl
      where
        by : (c : Bool) → is_in y zs ≡ c → f.thread < THREADS
        by false c = H.whole.numbers.threads y f (subst (λ l. Among l f) (after_out y c) among)
        by true c =
            let r = open_row y c in
            elim (subst (λ l. Among l f) (after_in y c r.0 r.1) among) [
              | inl same ↦ subst (λ (z : Draw). z.thread < THREADS) (sym same) fits.named
              | inr old ↦ H.whole.numbers.threads y f (subst (λ l. Among l f) (sym r.1) (inr old))
            ]

    -- what is said of the draws is right with w0 in the place of the marks
    verdicts : (y : ℕ) → DrawsHold w.log y (after y)
    verdicts y = by (is_in y zs) refl
      where
        by : (c : Bool) → is_in y zs ≡ c → DrawsHold w.log y (after y)
        by false c = subst (λ l. DrawsHold w.log y l) (sym (after_out y c)) (H.whole.verdicts y)
        by true c =
            let r = open_row y c in
            let old : DrawsHold w.log y (draw s.thread p Open ∷ r.0) = subst (λ l. DrawsHold w.log y l) r.1 (H.whole.verdicts y) in
            subst (λ l. DrawsHold w.log y l) (sym (after_in y c r.0 r.1)) (
              record {
                placed = placed_at w.log s p w0 fits.events may.block may.goes_on B.block;
                rises = λ a among own. B.behind a.block (old.0.rises a among own);
                agrees = λ a among g i. absurd (B.none i);
                named = B.named y (length r.0) (number_of y r.0 r.1);
                right = B.right y c r.0 r.1 r.2;
              },
              old.1,
            )

    -- the refused attempts on each variable were judged rightly, with the draws and the counts of judged events as they are afterwards
    refused : (y : ℕ) → RefusalsHold w.log (until' y) y (after y)
    refused y = by (is_in y zs) refl
      where
        by : (c : Bool) → is_in y zs ≡ c → RefusalsHold w.log (until' y) y (after y)
        by false c = subst (λ l. RefusalsHold w.log (until' y) y l) (sym (after_out y c))
            (refusals_until w.log (w.until y) (until' y) y (w.draws y) (λ k lt. B.same y k (inl c)) (H.whole.refused y))
        by true c =
            let r = open_row y c in
            let old : RefusalsHold w.log (w.until y) y r.0 = (subst (λ l. RefusalsHold w.log (w.until y) y l) r.1 (H.whole.refused y)).1 in
            subst (λ l. RefusalsHold w.log (until' y) y l) (sym (after_in y c r.0 r.1)) (
              B.refused y c r.0 r.1 r.2,
              refusals_until w.log (w.until y) (until' y) y r.0
                  (λ k lt. B.same y k (inr (λ z. let q = ap length r.1 in omega arith))) old,
            )

    -- what was judged before stays
    shelf_same : (r : Shelf) (drawn : List Drawn) → ShelfDraws w.draws drawn r → ShelfRefusals w.until r → ShelfRefusals until' r
    shelf_same r drawn k f i tx' var at =
        let g = f i tx' var at in
        (g.0, λ y n has. same y n (k.numbers.made y n i (Abort tx' (Raised var)) at (inr has)) ∙ g.1 y n has, g.2)
      where
        same : (y n : ℕ) → (q : Draw) × DrawAt (w.draws y) n q × (q.thread ≡ r.thread) × IsKept r.marked drawn y n q
            × IsFor q.what (Abort tx' (Raised var)) y n → until' y n ≡ w.until y n
        same y n m = by (is_in y zs) refl
          where
            by : (c : Bool) → is_in y zs ≡ c → until' y n ≡ w.until y n
            by false c = B.same y n (inl c)
            by true c =
                let o = open_row y c in
                B.same y n (inr (λ z.
                let len = ap length o.1 in
                let n_is : n ≡ length o.0 = omega arith in
                let top : DrawAt (w.draws y) n (draw s.thread p Open) =
                subst (λ l. DrawAt l n (draw s.thread p Open)) (sym o.1) (inl (n_is, refl)) in
                let is : m.0 ≡ draw s.thread p Open = one_draw (w.draws y) n m.0 (draw s.thread p Open) m.1 top in
                let f : IsFor Open (Abort tx' (Raised var)) y n = subst (λ (a : Draw). IsFor a.what (Abort tx' (Raised var)) y n) is m.4
                in f))

    -- each variable has the same last write as before
    write_same : (y : ℕ) → last_write y (after y) ≡ last_write y (w.draws y)
    write_same y = by (is_in y zs) refl
      where
        by : (c : Bool) → is_in y zs ≡ c → last_write y (after y) ≡ last_write y (w.draws y)
        by false c = ap (last_write y) (after_out y c)
        by true c = let r = open_row y c in ap (last_write y) (after_in y c r.0 r.1) ∙ write_past y d r.0 (B.unwritten y)
            ∙ sym (ap (last_write y) r.1 ∙ write_past y (draw s.thread p Open) r.0 refl)

    -- a draw of the thread had the same number before, or it has no repeats, and the list has no cached write under its number
    repeats_after : (y k : ℕ) (g : Draw) → DrawAt (after y) k g → g.thread ≡ s.thread → DrawAt (w.draws y) k g
        ⊎ ((g.repeats ≡ []) × (repeats_of y k s.marked ≡ []))
    repeats_after y k g at own = by (is_in y zs) refl
      where
        by : (c : Bool) → is_in y zs ≡ c → DrawAt (w.draws y) k g ⊎ ((g.repeats ≡ []) × (repeats_of y k s.marked ≡ []))
        by false c = inl (subst (λ l. DrawAt l k g) (after_out y c) at)
        by true c =
            let r = open_row y c in
            elim (subst (λ l. DrawAt l k g) (after_in y c r.0 r.1) at) [
              | inl new ↦ inr (
                ap (λ (z : Draw). z.repeats) new.1,
                ap (λ n. repeats_of y n s.marked) new.0
                    ∙ open_unrepeated w.draws v.owed v.shelves s y (draw s.thread p Open) r.0 one r.1 refl refl refl mine.owed,
              )
              | inr old ↦ inl (subst (λ l. DrawAt l k g) (sym r.1) (inr old))
            ]

    -- where no access was performed behind the last write, none is afterwards
    calm_same : (y : ℕ) → IsCalm y (w.draws y) → IsCalm y (after y)
    calm_same y calm = by (is_in y zs) refl
      where
        by : (c : Bool) → is_in y zs ≡ c → IsCalm y (after y)
        by false c = subst (IsCalm y) (sym (after_out y c)) calm
        by true c =
            let r = open_row y c in
            let old : IsCalm y (draw s.thread p Open ∷ r.0) = subst (IsCalm y) r.1 calm in
            subst (IsCalm y) (sym (after_in y c r.0 r.1))
            (elim old [ inl q ↦ absurd (let z : false ≡ true = q in cc) | inr q ↦ inr (B.unwritten y, B.unperformed, q.2) ])

    -- a draw that is the last write afterwards had the same number before
    written_after : (y k : ℕ) (g : Draw) → DrawAt (after y) k g → last_write y (after y) ≡ Some g → DrawAt (w.draws y) k g
    written_after y k g at last = by (is_in y zs) refl
      where
        by : (c : Bool) → is_in y zs ≡ c → DrawAt (w.draws y) k g
        by false c = subst (λ l. DrawAt l k g) (after_out y c) at
        by true c =
            let r = open_row y c in
            elim (subst (λ l. DrawAt l k g) (after_in y c r.0 r.1) at) [
              | inl new ↦ absurd (let z : is_write y g.what ≡ true = last_written y (after y) g last in let q : is_write y g.what
                  ≡ false = ap (λ (a : Draw). is_write y a.what) new.1 ∙ B.unwritten y in let n : true ≡ false = sym z ∙ q in cc)
              | inr old ↦ subst (λ l. DrawAt l k g) (sym r.1) (inr old)
            ]

    abbrev w' : World
    w' = record w { draws = resolved w.draws zs (draw s.thread p w0); until = until' }

    -- an object that is as it has to be at home is so afterwards, where the draws of its variable stay
    home_at : (k : ℕ) (y : Slot) → ((x : ℕ) → k ≡ suc x → after x ≡ w.draws x) → Stands key.setting w b.hold k y
        → Stands key.setting w' b.hold k y
    home_at zero (slot.List l) same q = q
    home_at (suc x) (slot.Row row) same q = (subst (λ ds. RowStands key.setting w.log x ds row) (sym (same x refl)) q.0, q.1)
    home_at zero slot.Empty same q = absurd q
    home_at zero (slot.Row r) same q = absurd q
    home_at (suc x) slot.Empty same q = absurd q
    home_at (suc x) (slot.List l) same q = absurd q

    -- a held object that is as it has to be is so afterwards, if a row stands afterwards for the draws that it was taken with
    held_at : (drew drew' : Option Draw) (k : ℕ) (y : Slot)
        → ((x : ℕ) (row : Row) → k ≡ suc x → RowHeld key.setting w x drew row → RowHeld key.setting w' x drew' row)
        → StandsHeld key.setting w b.hold drew k y → StandsHeld key.setting w' b.hold drew' k y
    held_at drew drew' zero (slot.List l) step q = q
    held_at drew drew' (suc x) (slot.Row row) step q = (step x row refl q.0, q.1)
    held_at drew drew' zero slot.Empty step q = absurd q
    held_at drew drew' zero (slot.Row r) step q = absurd q
    held_at drew drew' (suc x) slot.Empty step q = absurd q
    held_at drew drew' (suc x) (slot.List l) step q = absurd q

    -- a held row stands afterwards for the draws that it was taken with, the mark that was made on it having become d
    row_after : (g : Held) (y : ℕ) (row : Row) → Contains v.held g → g.object ≡ suc y → RowHeld key.setting w y g.drew row
        → RowHeld key.setting w' y (drew_commit zs d g) row
    row_after g y row has is r = by (is_in y zs) refl
      where
        by : (c : Bool) → is_in y zs ≡ c → RowHeld key.setting w' y (drew_commit zs d g) row
        by false c = let o : is_object g.object zs ≡ false = ap (λ k. is_object k zs) is ∙ c
            in rw o (record { before = r.before; draws_are = after_out y c ∙ r.draws_are; stands = r.stands })
        by true c =
            let o : is_object g.object zs ≡ true = ap (λ k. is_object k zs) is ∙ c in
            let was : w.draws y ≡ draw s.thread p Open ∷ r.before = r.draws_are ∙ ap (λ z. with_draw z r.before) (may.each g y has is c) in
            rw o (record { before = r.before; draws_are = after_in y c r.before was; stands = r.stands })

    -- the draws below the one that was made on a held row are the same afterwards as before
    behind_same : (g : Held) (y : ℕ) (ds : List Draw) → Contains v.held g → g.object ≡ suc y → after y ≡ with_draw (drew_commit zs d g) ds
        → w.draws y ≡ with_draw g.drew ds
    behind_same g y ds has is q = by (is_in y zs) refl
      where
        by : (c : Bool) → is_in y zs ≡ c → w.draws y ≡ with_draw g.drew ds
        by false c =
            let o : is_object g.object zs ≡ false = ap (λ k. is_object k zs) is ∙ c in
            sym (after_out y c) ∙ q ∙ ap (λ z. with_draw z ds) (the_else (is_object g.object zs) (Some d) g.drew o)
        by true c =
            let o : is_object g.object zs ≡ true = ap (λ k. is_object k zs) is ∙ c in
            let r = open_row y c in
            let cons : d ∷ r.0 ≡ d ∷ ds = sym (after_in y c r.0 r.1) ∙ q
            ∙ ap (λ z. with_draw z ds) (the_then (is_object g.object zs) (Some d) g.drew o) in
            r.1 ∙ ap (λ l. draw s.thread p Open ∷ l) (cons_tail d d r.0 ds cons) ∙ sym (ap (λ z. with_draw z ds) (may.each g y has is c))

    -- the draws of each variable stay, or the pass holds its row
    elsewhere : (y : ℕ) → (after y ≡ w.draws y) ⊎ HasObject v (suc y)
    elsewhere y = by (is_in y zs) refl
      where
        by : (c : Bool) → is_in y zs ≡ c → (after y ≡ w.draws y) ⊎ HasObject v (suc y)
        by false c = inl (after_out y c)
        by true c = let r = may.rows y c in inr (r.one, r.held, r.object)

    -- where a fact of each held object gives another one of it with its new draw, the first one of all gives the other of all
    held_map : (P Q : Held → Type 0) → ((g : Held) → Contains v.held g → P g → Q (with_drew zs d g)) → (xs : List Held)
        → ((g : Held) → Contains xs g → Contains v.held g) → All P xs → All Q (map (with_drew zs d) xs)
    held_map P Q f [] sub all = Rattle.std.proofs.lemmas.List.Elements.All-nil Q
    held_map P Q f (g ∷ gs) sub all =
        Rattle.std.proofs.lemmas.List.Elements.All-cons Q (with_drew zs d g) (map (with_drew zs d) gs)
        (f g (sub g (zero, omega arith, refl)) (Rattle.std.proofs.lemmas.List.Elements.All-head P g gs all))
        (held_map P Q f gs (λ k c. sub k (Rattle.gl_rule.proofs.HeldLists.in_cons g gs k c))
        (Rattle.std.proofs.lemmas.List.Elements.All-tail P g gs all))

    abbrev u : View
    u = dropped v s.thread s.marked (Abort tx why) zs (draw s.thread p w0)

    -- the attempt is recorded
    pub drops : Holds key w' (record { words = st.words; homes = st.homes; views = set st.views id u })
    drops =
        let O = HeldOne b.turn w.holder id v.shelves in
        let turn_of : (g : Held) → HasObject v g.object → w.holder g.object
        ≡ id = λ g o. let p' : O o.0 = All-contains O v.held o.0 mine.turns.held o.1 in sym (ap w.holder o.2) ∙ p'.here in
        let held_by : (k : ℕ) → HasObject v k → w.holder k ≡ id = λ k o. let p' : O o.0 = All-contains O v.held o.0 mine.turns.held o.1
        in sym (ap w.holder o.2) ∙ p'.here in
        let held_busy : (k : ℕ) → HasObject v k → b.turn k ≢ 0 = λ k o z. let p' : O o.0 = All-contains O v.held o.0 mine.turns.held o.1
        in let q = p'.busy in let r : b.turn o.0.object ≡ 0 = ap b.turn o.2 ∙ z in absurd (omega arith) in
        let all : (P Q : Held → Type 0) → ((g : Held) → Contains v.held g → P g → Q (with_drew zs d g)) → All P v.held
        → All Q u.held = λ P Q f a. held_map P Q f v.held (λ g c. c) a in
        let keeps : (k : ℕ) → HasObject v k → HasObject u k = λ k o. (with_drew zs d o.0, in_mapped (with_drew zs d) v.held o.0 o.1, o.2) in
        let own_shelf : ShelfFits w.log w.seat id (shelf s.thread (s.marked ++ e ∷ [])) = record {
          here = fits.here;
          named = fits.named;
          events = events_push w.log s.thread s.marked fits.events e refl;
          form = formed_push s.thread s.marked e (store_running s.thread p s.marked e fits.form may.block may.goes_on may.formed (λ t. t)
              (λ t. t) (λ y k a z same. absurd (cc)) (λ y k z same. absurd (cc))) fits.form;
          made = (let a = fits.made in let g = counted_push s.marked e (λ t. t) in omega arith);
        } in record {
          words = H.words;
          whole = record {
            turns = turns_kept b.turn b.turn w.holder id st.views v u here (λ k near. refl) keeps H.whole.turns;
            tries = H.whole.tries;
            positions = H.whole.positions;
            machine = machine_same key.setting w _ refl refl refl refl H.whole.machine;
            numbers = record {
              counts = λ y near. H.whole.numbers.counts y near
                  ∙ sym (same_length y);
              threads = among_after;
              few = λ y t. subst (λ z. z ≤ 2 ^ 51 + 2) (sym (same_count t y)) (H.whole.numbers.few y t);
            };
            verdicts = verdicts;
            refused = refused;
            ring = H.whole.ring;
            low = H.whole.low;
          };
          values = record {
            home = λ k near z. let r = H.values.home k near z
                in (
                  r.0,
                  r.1,
                  home_at k r.0 (λ x is. elim (elsewhere x) [
                    | inl same ↦ same
                    | inr o ↦ absurd (held_busy (suc x) o (sym (ap b.turn is) ∙ z))
                  ]) r.2,
                );
          };
          views = each_set id u H.views
              (λ j o away f.
              let P = HeldOne b.turn w.holder j o.shelves in
              let same : (g : Held) → P g → (x : ℕ) → g.object ≡ suc x → after x
              ≡ w.draws x = λ g q x is. elim (elsewhere x) [
                | inl z ↦ z
                | inr h ↦ absurd (away (sym q.here ∙ ap w.holder is ∙ held_by (suc x) h))
              ] in
              record {
                turns = f.turns;
                tries = f.tries;
                positions = f.positions;
                values = record {
                  held = both_map P (HeldStands key.setting w b.hold) (HeldStands key.setting w' b.hold) o.held
                      (λ g q z. held_at g.drew g.drew g.object g.taken
                      (λ x row is r. record { before = r.before; draws_are = same g q x is ∙ r.draws_are; stands = r.stands }) z)
                      f.turns.held
                      f.values.held;
                };
                numbers = record {
                  shelves = both_map (ShelfFits w.log w.seat j) (ShelfDraws w.draws o.drawn) (ShelfDraws after o.drawn) o.shelves
                      (λ r q k.
                      let apart : r.thread ≢ s.thread = λ z. away (sym q.here ∙ ap w.seat z ∙ fits.here) in
                      record {
                        numbers = Rattle.gl_draws.proofs.EndedAttempts.foreign w.draws s.thread p p zs w0
                            (λ y c. let a = open_row y c in (a.0, a.1)) r.thread r.marked o.drawn apart k.numbers;
                        few = λ y. let a = k.few y
                            in let g = same_count r.thread y in omega arith;
                        two = k.two;
                        above = k.above;
                        runs = k.runs;
                      })
                      f.positions.shelves f.numbers.shelves;
                };
                knowledge = f.knowledge;
                ring = f.ring;
                quiet = f.quiet;
                owed = owed_others w.draws after o.owed o.shelves (λ x q. write_same x) (λ x q calm. calm_same x calm)
                    (λ r c x k g at own. let q : ShelfFits w.log w.seat j r =
                    All-contains (ShelfFits w.log w.seat j) o.shelves r f.positions.shelves c
                    in Rattle.gl_draws.proofs.EndedAttempts.foreign_back w.draws s.thread p p zs w0 (λ y c. let a = open_row y c
                    in (a.0, a.1)) r.thread x k g (λ z. away (sym q.here ∙ ap w.seat z ∙ fits.here)) own at)
                    f.owed;
                carries = f.carries;
                refusals = record {
                  held = both_map P (DrawsBelow w.draws) (DrawsBelow after) o.held
                      (λ g q z. Rattle.gl_rule.proofs.Refusing.commits_else w.draws after g (same g q) z) f.turns.held f.refusals.held;
                  shelves = both_map (ShelfDraws w.draws o.drawn) (ShelfRefusals w.until) (ShelfRefusals until') o.shelves
                      (λ r k q. shelf_same r o.drawn k q) f.numbers.shelves f.refusals.shelves;
                };
              })
              (record {
                tries = tries_moved w.stopped w.takers v s (shelf s.thread (s.marked ++ e ∷ [])) one refl mine.tries;
                turns = record {
                  held = all O (HeldOne b.turn w.holder id u.shelves)
                      (λ g has q. record {
                        named = q.named;
                        here = q.here;
                        shelf = shelf s.thread (s.marked ++ e ∷ []);
                        one = refl;
                        busy = q.busy ∙ ap (λ t. t + 1) (same_thread v q.shelf s q.one one);
                      }) mine.turns.held;
                };
                positions = record { shelves = one_shelf (ShelfFits w.log w.seat id) (shelf s.thread (s.marked ++ e ∷ [])) own_shelf };
                values = record {
                  held = all (HeldStands key.setting w b.hold) (HeldStands key.setting w' b.hold)
                      (λ g has q. held_at g.drew (drew_commit zs d g) g.object g.taken (λ x row is r. row_after g x row has is r) q)
                      mine.values.held;
                };
                numbers = record { shelves = one_shelf (ShelfDraws after []) (shelf s.thread (s.marked ++ e ∷ [])) numbers_own };
                knowledge = record {
                  seen = mine.knowledge.seen;
                  own = one_shelf (AreBelow v.seen) (shelf s.thread (s.marked ++ e ∷ []))
                      (λ i a g at z. elim (at_cases s.marked e g i at) [
                        | inl old ↦ only_shelf (AreBelow v.seen) v s one mine.knowledge.own i a g old z
                        | inr new ↦ absurd (let y : position_of e ≡ Some a = rw new.1 at z in cc)
                      ]);
                  known = mine.knowledge.known;
                  tails = all (TailsFit (length w.log) b.hold v.seen) (TailsFit (length w.log) b.hold v.seen) (λ g has q. q)
                      mine.knowledge.tails;
                  reads = mine.knowledge.reads;
                  loaded = mine.knowledge.loaded;
                };
                ring = record {
                  floors = all (FloorFits b.hold) (FloorFits b.hold) (λ g has q. q) mine.ring.floors;
                  stored = mine.ring.stored;
                  few = mine.ring.few;
                  by_holder = elim mine.ring.by_holder [ inl z ↦ inl z | inr o ↦ inr (keeps 0 o) ];
                  lows = one_shelf (ShelfTrims w.trims) (shelf s.thread (s.marked ++ e ∷ []))
                      (trims_push w.trims s.thread s.marked e (λ t. t) (only_shelf (ShelfTrims w.trims) v s one mine.ring.lows));
                };
                quiet = record { none_live = mine.quiet.none_live };
                owed = owed_moves w.draws after v.owed v.shelves s (shelf s.thread (s.marked ++ e ∷ [])) one refl
                    (λ x value has. (write_same x, last_push s.marked e))
                    (λ x value has q. calm_same x q)
                    (λ x value k g has at last own. (written_after x k g at last, repeats_kept x k s.marked e refl))
                    (λ x k g at own. elim (repeats_after x k g at own) [
                      | inl old ↦ inl (old, repeats_kept x k s.marked e refl)
                      | inr new ↦ inr (new.0, repeats_kept x k s.marked e refl ∙ new.1)
                    ])
                    mine.owed;
                carries = record {
                  shelves = one_shelf (ShelfCarries w.values) (shelf s.thread (s.marked ++ e ∷ []))
                      (carries_push w.values s.thread s.marked e refl (only_shelf (ShelfCarries w.values) v s one mine.carries.shelves));
                };
                refusals = record {
                  held = all (DrawsBelow w.draws) (DrawsBelow after)
                      (λ g has q. record {
                        at = λ x before a n o z among at. q.at x before a n o (behind_same g x before has o z) among at;
                      })
                      mine.refusals.held;
                  shelves = one_shelf (ShelfRefusals until') (shelf s.thread (s.marked ++ e ∷ []))
                      (λ i tx' var at. elim (at_cases s.marked e (Abort tx' (Raised var)) i at) [
                        | inl old ↦ shelf_same s v.drawn draws (only_shelf (ShelfRefusals w.until) v s one mine.refusals.shelves) i tx' var
                            old
                        | inr new ↦ (let same : tx' ≡ tx = abort_tx tx' tx (Raised var) why new.1 in let is : Abort tx why
                            ≡ Abort tx (Raised var) = sym new.1 ∙ ap (λ z. Abort z (Raised var)) same in let j = B.judged var is
                            in (
                              j.0,
                              λ y k has. j.1 y k (subst (λ (z : Tx). Contains z.numbers (record { var = y; nth = k })) same has),
                              subst (λ (z : Tx). is_in var (variables_of z) ≡ true) (sym same) j.2,
                            ))
                      ]);
                };
              });
        }
      where
        abort_tx : (a c : Tx) (x y : Why) → Abort a x ≡ Abort c y → a ≡ c
        abort_tx a c x y z = cc
