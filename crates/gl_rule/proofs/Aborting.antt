-- What was added without a step is recorded by the next step, whatever it is.
use Rattle.std.proofs.Common.{◌≡◌, ◌≢◌, ℕ, suc, ◌+◌, ◌-◌, ◌<◌, ◌≤◌, ◌==◌, List, [], ◌∷◌, ◌++◌, length, take, drop, set, sym, refl, ap, subst, arith, ◌∙◌, inl, inr, Some, true, false, Bool}
use Rattle.std.specs.Prelude.{ℤ, Contains, ◌⊎◌, slice_get, if◌then◌else◌}
use Rattle.std.specs.List.{All}
use Rattle.std.proofs.lemmas.Bool.{eqb-true}
use Rattle.std.proofs.lemmas.List.{take-append-drop, length-take-le}
use Rattle.std.proofs.lemmas.List.Elements.{All-contains}
use mathlib.Core.Option.{some}
use lib.ListN.{get_elem?}
use Rattle.atomic_table.specs.Table as table
use Rattle.atomic_table.proofs.Lists.{set_here, set_again}
use Rattle.gl_model.specs.declared.event.Stamp.{Stamp}
use Rattle.gl_model.specs.declared.row.Question.{Question}
use Rattle.gl_model.specs.declared.tx.Tx.{Tx}
use Rattle.gl_model.specs.declared.tx.Why.TheVariants.{Changed, Raised}
use Rattle.gl_model.specs.declared.record.Ending.{Ending}
use Rattle.gl_model.specs.Entries.{Entry, Sync, Commit, Plain, Abort, Trim, Over}
use Rattle.gl_model.specs.Form.{IsEnd, IsOver, IsTrim, Draws}
use Rattle.gl_model.specs.Machine.{State, Allows, with_at}
use Rattle.gl_model.specs.Records.{variables_of, position_of}
use Rattle.gl_model.specs.Trace.{is_in}
use Rattle.gl_draws.specs.Draws.{Entered, Looked, Open, Draw, draw, Among, IsWord}
use Rattle.gl_draws.specs.NextRaces.{IsRacyNext, IsNextOn}
use Rattle.gl_draws.specs.RowFacts.{RowStands, IsWithin, SomeFails}
use Rattle.gl_draws.specs.Verdicts.{DrawsHold}
use Rattle.gl_draws.proofs.DrawCounts.{counted_more}
use Rattle.gl_draws.proofs.DrawTies.{drawn_push, with_here, with_else}
use Rattle.gl_draws.proofs.EntryKinds.{is_in-contains, contains-is_in}
use Rattle.gl_draws.proofs.EventTies.{events_push, last_own}
use Rattle.gl_draws.proofs.Sets.{map_contains}
use Rattle.gl_draws.proofs.NextTestLaw.{next_fails_racy, next_passes_not_racy}
use Rattle.gl_draws.proofs.Pushes.{at_cases, block_new, last_push}
use Rattle.gl_draws.proofs.RowGrowth.{row_front}
use Rattle.gl_draws.proofs.Running.{running_law}
use Rattle.gl_rule.specs.declared.slot.Slot.{Slot}
use Rattle.gl_rule.specs.Adding.{MayEnd, MayAdd, Adding}
use Rattle.gl_rule.specs.Objects.{Key, Board, board, capacity}
use Rattle.gl_rule.specs.View.{View, Shelf, shelf}
use Rattle.gl_rule.specs.World.{World}
use Rattle.gl_rule.specs.Turns.{HeldOne}
use Rattle.gl_draws.specs.Forming.{MayStore, IsFormed}
use Rattle.gl_rule.specs.Positions.{ShelfFits}
use Rattle.gl_rule.specs.Numbers.{ShelfDraws}
use Rattle.gl_rule.specs.Values.{with_draw}
use Rattle.gl_rule.specs.Knowledge.{AreBelow, TailsFit}
use Rattle.gl_rule.specs.Ring.{ShelfTrims}
use Rattle.gl_rule.specs.Fitting.{InfosStand}
use Rattle.gl_rule.specs.Commits.{MayChange, MayRefuse, stored}
use Rattle.gl_draws.specs.Refusals.{IsRefusedRightly}
use Rattle.gl_rule.specs.Refusals.{DrawsBelow, ShelfRefusals}
use Rattle.gl_rule.specs.Machine.{ShelfCarries}
use Rattle.gl_rule.specs.Rule.{Fits, Holds, Rule}
use Rattle.gl_rule.proofs.Caching.{caches}
use Rattle.gl_rule.proofs.Each.{at_within, set_twice}
use Rattle.gl_rule.proofs.HeldLists.{all_map, only_shelf, one_shelf}
use Rattle.gl_draws.proofs.DrawFronts.{draws_front}
use Rattle.gl_rule.proofs.FittingLaws.{front_fits_at, infos_front}
use Rattle.gl_draws.proofs.Forming.{formed_push}
use Rattle.gl_rule.proofs.Frames.{reviews}
use Rattle.gl_rule.proofs.Publishing.{trims_push, same_thread}
use Rattle.gl_rule.proofs.Raising.{row_tail}
use Rattle.gl_rule.proofs.Recording.{Becomes, open_row, head_number, drops}
use Rattle.gl_rule.proofs.Owing.{owed_push}
use Rattle.gl_draws.proofs.Refusing.{refusals_push}
use Rattle.gl_rule.proofs.Refusing.{carries_push}
use Rattle.gl_rule.proofs.Tries.{tries_moved}

-- a changed attempt's own number is a look with what was found
pub changed_becomes : (key : Key) (w : World) (s : Shelf) (v : View) (tx : Tx) (var : ℕ) (read found : ℤ) (p : ℕ)
    (may : MayChange s v tx var read found p) → Becomes key w s v tx (Changed var read found) (var ∷ []) p may.drop (Looked found) w.until
changed_becomes key w s v tx var read found p may = record {
  right = λ y c ds is stands. word y c ds stands;
  block = λ e. tt;
  behind = λ a le. le;
  none = λ i. i;
  named = λ y k n. tt;
  looks = λ y k value l not. (inl l, λ z. z);
  unwritten = λ x. refl;
  unperformed = λ e is q. absurd (cc);
  is_for = λ y k n. (inr (refl, n), λ z. z);
  in_block = tt;
  same = λ y k q. refl;
  refused = λ y c ds is stands. tt;
  judged = λ a e. absurd (cc);
}
  where
    only : (y : ℕ) → is_in y (var ∷ []) ≡ true → y ≡ var
    only y c = by (y == var) refl
      where
        by : (q : Bool) → (y == var) ≡ q → y ≡ var
        by true e = eqb-true y var e
        by false e = absurd (let z : is_in y (var ∷ []) ≡ false = rw e refl in let f : true ≡ false = sym c ∙ z in cc)

    word : (y : ℕ) (c : is_in y (var ∷ []) ≡ true) (ds : List Draw) → RowStands key.setting w.log y ds (may.drop.rows y c).row
        → IsWord y ds found
    word y c ds stands =
        let all : (b : is_in y (var ∷ []) ≡ true) → found
        ≡ (may.drop.rows y b).row.value = subst (λ z. (b : is_in z (var ∷ []) ≡ true) → found ≡ (may.drop.rows z b).row.value)
        (sym (only y c)) may.word in
        subst (IsWord y ds) (sym (all c)) (Rattle.gl_draws.proofs.Words.is_word y ds (may.drop.rows y c).row.value (sym stands.word))

-- two draws that are entered as the same entry have the same entry
entered_is : (a c : Entry) → Entered a ≡ Entered c → a ≡ c
entered_is a c e = cc

-- over how many events a refused attempt was judged
abbrev pub judged_at : (ℕ → ℕ → ℕ) → (ℕ → List Draw) → List ℕ → ℕ → ℕ → ℕ → ℕ
judged_at until draws ys m y = if is_in y ys then with_at (until y) (length (draws y) - 1) m else until y

module _ (key : Key) (w : World) (st : table.State Slot View) (id : ℕ) (v : View) (s : Shelf) (tx : Tx) (var p m : ℕ) (question : ℕ
    → Question) (one : v.shelves ≡ s ∷ []) (may : MayRefuse key.setting s v tx var p m question) (H : Holds key w st)
    (here : get_elem? st.views id ≡ some v) where
  abbrev b : Board
  b = board (capacity key) st.words

  -- the pass's view fits
  mine : Fits key b w id v
  mine = H.views.at id v here

  -- its one list has its thread's events, in a form that it may have so far
  fits : ShelfFits w.log w.seat id s
  fits = only_shelf (ShelfFits w.log w.seat id) v s one mine.positions.shelves

  -- on each of the attempt's variables the mark for its end is the last draw, and the held row stands for the draws below it
  row_at : (y : ℕ) (c : is_in y (variables_of tx) ≡ true) → (ds : List Draw) × (w.draws y ≡ draw s.thread p Open ∷ ds)
      × RowStands key.setting w.log y ds (may.drop.rows y c).row
  row_at = open_row key w st id v s tx (Raised var) (variables_of tx) p one may.drop H here

  -- the tail m is at most what the pass has seen, and the Infos of each of these rows stand within it
  tail_of_row : (y : ℕ) (c : is_in y (variables_of tx) ≡ true) → (m ≤ v.seen) × IsWithin (may.drop.rows y c).row m
  tail_of_row y c = let r = may.drop.rows y c
      in let t = row_tail (length w.log) b.hold v.seen r.one.object y m r.one.taken r.row r.object r.taken
      (All-contains (TailsFit (length w.log) b.hold v.seen) v.held r.one mine.knowledge.tails r.held m (may.saw y c)) in (t.0, t.1)

  -- each draw below the mark on such a row was made in a block below m
  below_of_row : (y : ℕ) (c : is_in y (variables_of tx) ≡ true) (a : Draw) → Among (row_at y c).0 a → a.block < m
  below_of_row y c a among = let r = may.drop.rows y c
      in (All-contains (DrawsBelow w.draws) v.held r.one mine.refusals.held r.held).at y (row_at y c).0 a m r.object ((row_at y c).1
      ∙ sym (ap (λ o. with_draw o (row_at y c).0) r.drew)) among (may.saw y c)

  -- a list that the machine allows, with the thread's events and those that the pass knows, where the draws and the held rows are right
  record Seen (log : List Stamp) : Type 0 where
    now : State
    allowed : Allows key.setting log now
    events : Rattle.gl_draws.specs.Events.AreEvents log s.thread s.marked
    known : All (λ (k : ℕ × Stamp). slice_get log k.0 ≡ Some k.1) v.known
    verdicts : (y : ℕ) → DrawsHold log y (w.draws y)
    stands : (y : ℕ) (c : is_in y (variables_of tx) ≡ true) → RowStands key.setting log y (row_at y c).0 (may.drop.rows y c).row

  abbrev f : Entry
  f = Abort tx (Raised var)

  -- judged over the first m events of such a list, the attempt races on var, and on none of its variables below
  tested : (l more : List Stamp) → length l ≡ m → Seen (l ++ more) → (y : ℕ) (c : is_in y (variables_of tx) ≡ true)
      → (y ≡ var → IsRacyNext l y (row_at y c).0 s.thread (Some (variables_of tx)) f)
      × (y < var → IsRacyNext l y (row_at y c).0 s.thread (Some (variables_of tx)) f → ⊥)
  tested l more long q y c =
      let fit = front_fits_at key.setting s m v.known q.now l more long q.allowed q.events may.below q.known in
      let within : (z : ℕ) (e : is_in z (variables_of tx) ≡ true)
      → IsWithin (may.drop.rows z e).row (length l) = λ z e. subst (IsWithin (may.drop.rows z e).row) (sym long) (tail_of_row z e).1 in
      let infos : (z : ℕ) (e : is_in z (variables_of tx) ≡ true)
      → InfosStand key.setting l (may.drop.rows z e).row =
      λ z e. infos_front key.setting l more z (row_at z e).0 (may.drop.rows z e).row (q.stands z e) (within z e) in
      let running = running_law key.setting l fit.now s.thread p s.marked fit.allowed fit.own may.drop.block may.drop.goes_on in
      let ds = (row_at y c).0 in
      let all : DrawsHold l y ds = draws_front l more y ds (λ a among. subst (λ z. a.block < z) (sym long) (below_of_row y c a among))
      (subst (λ z. DrawsHold (l ++ more) y z) (row_at y c).1 (q.verdicts y)).1 in
      let row = (may.drop.rows y c).row in
      let stands : RowStands key.setting l y ds row = row_front key.setting l more y ds row (within y c) (q.stands y c) in
      let a = may.asks y in
      let next : IsNextOn y (question y).commit f = subst (λ z. IsNextOn y z f) (sym a.1) (is_in-contains y (variables_of tx) c) in
      let to : IsRacyNext l y ds s.thread (question y).commit f
      → IsRacyNext l y ds s.thread (Some (variables_of tx)) f = λ r. subst (λ z. IsRacyNext l y ds s.thread z f) a.1 r in
      let back : IsRacyNext l y ds s.thread (Some (variables_of tx)) f
      → IsRacyNext l y ds s.thread (question y).commit f = λ r. subst (λ z. IsRacyNext l y ds s.thread z f) (sym a.1) r in (
        λ is. to (next_fails_racy key.setting l fit.now fit.allowed s.thread running y ds all row stands (question y) a.0 f next a.2.0
            (at_var y c is (may.judged l fit infos))),
        λ lt r. next_passes_not_racy key.setting l fit.now fit.allowed s.thread running y ds all row stands (question y) a.0 f next a.2.1
            (may.least l fit infos y c lt) (back r),
      )
    where
      at_var : (y : ℕ) (c : is_in y (variables_of tx) ≡ true) → y ≡ var
          → ((e : is_in var (variables_of tx) ≡ true) → SomeFails l (may.drop.rows var e).row (question var))
          → SomeFails l (may.drop.rows y c).row (question y)
      at_var y c is h = let g : (e : is_in y (variables_of tx) ≡ true)
          → SomeFails l (may.drop.rows y e).row (question y) =
          subst (λ z. (e : is_in z (variables_of tx) ≡ true) → SomeFails l (may.drop.rows z e).row (question z)) (sym is) h in g c

  -- so it is over the first m events of the table's list
  all_tested : (y : ℕ) (c : is_in y (variables_of tx) ≡ true)
      → (y ≡ var → IsRacyNext (take m w.log) y (row_at y c).0 s.thread (Some (variables_of tx)) f)
      × (y < var → IsRacyNext (take m w.log) y (row_at y c).0 s.thread (Some (variables_of tx)) f → ⊥)
  all_tested y c =
      let is : w.log ≡ take m w.log ++ drop m w.log = sym (take-append-drop m w.log) in
      let le : m ≤ length w.log = (let a = (tail_of_row y c).0 in let g = mine.knowledge.seen in omega arith) in
      let long : length (take m w.log) ≡ m = length-take-le m w.log le in
      tested (take m w.log) (drop m w.log) long
      (subst Seen is (record {
        now = w.now;
        allowed = H.whole.machine.allowed;
        events = fits.events;
        known = mine.knowledge.known;
        verdicts = H.whole.verdicts;
        stands = λ z e. (row_at z e).2;
      })) y c

  abbrev until' : ℕ → ℕ → ℕ
  until' = judged_at w.until w.draws (variables_of tx) m

  -- afterwards the mark's own number on each of the attempt's variables counts as judged over m events
  until_head : (y : ℕ) (c : is_in y (variables_of tx) ≡ true) (ds : List Draw) → w.draws y ≡ draw s.thread p Open ∷ ds
      → until' y (length ds) ≡ m
  until_head y c ds is =
      let n : length (w.draws y) - 1 ≡ length ds = (let q = ap length is in omega arith) in
      let z : with_at (w.until y) (length ds) m (length ds) ≡ m = with_here (w.until y) (length ds) m in
      rw (c, n) z

  -- each other number, and each one on another variable, counts as judged over as many events as before
  until_else : (y k : ℕ) → (is_in y (variables_of tx) ≡ false) ⊎ (suc k ≢ length (w.draws y)) → until' y k ≡ w.until y k
  until_else y k (inl c) = rw c refl
  until_else y k (inr ne) = by (is_in y (variables_of tx)) refl
    where
      by : (c : Bool) → is_in y (variables_of tx) ≡ c → until' y k ≡ w.until y k
      by false c = rw c refl
      by true c =
          let r = row_at y c in
          let q = ap length r.1 in
          let apart : k ≢ length (w.draws y) - 1 = λ e. ne (omega arith) in
          let z : with_at (w.until y) (length (w.draws y) - 1) m k
          ≡ w.until y k = with_else (w.until y) (length (w.draws y) - 1) k m apart in
          rw c z

  -- so is one that was refused for a race
  pub refused_becomes : Becomes key w s v tx (Raised var) (variables_of tx) p may.drop (Entered (Abort tx (Raised var)))
      (judged_at w.until w.draws (variables_of tx) m)
  refused_becomes = record {
    right = λ y c ds is stands. tt;
    block = λ e. tt;
    behind = λ a le. le;
    none = λ i. i;
    named = λ y k n. (n, tt);
    looks = λ y k value l not. (l, not);
    unwritten = λ x. refl;
    unperformed = λ e is q. let z : Abort tx (Raised var) ≡ e = entered_is (Abort tx (Raised var)) e is
        in let y : Rattle.gl_model.specs.Records.IsPerformed (Abort tx (Raised var)) =
        subst Rattle.gl_model.specs.Records.IsPerformed (sym z) q in y;
    is_for = λ y k n. (refl, n);
    in_block = block_new s.marked (Abort tx (Raised var)) p refl may.drop.block;
    same = until_else;
    refused = λ y c ds is stands. subst (λ n. IsRefusedRightly w.log y ds s.thread p tx var n) (sym (until_head y c ds is))
        (judged y c ds is);
    judged = λ a e. (m, λ y k has. number y k has, subst (λ z. is_in z (variables_of tx) ≡ true) (raised_var tx var a e) may.touches);
  }
    where
      raised_var : (u : Tx) (x y : ℕ) → Abort u (Raised x) ≡ Abort u (Raised y) → x ≡ y
      raised_var u x y z = cc

      judged : (y : ℕ) (c : is_in y (variables_of tx) ≡ true) (ds : List Draw) → w.draws y ≡ draw s.thread p Open ∷ ds
          → IsRefusedRightly w.log y ds s.thread p tx var m
      judged y c ds is =
          let r = row_at y c in
          let same : r.0 ≡ ds = Rattle.gl_rule.proofs.Committing.cons_tail (draw s.thread p Open) (draw s.thread p Open) r.0 ds (sym r.1
          ∙ is) in
          let t = all_tested y c in
          let shelf_fits = only_shelf (ShelfFits w.log w.seat id) v s one mine.positions.shelves in
          let lastly = last_own w.log s.thread s.marked shelf_fits.events p may.drop.block in
          subst (λ l. IsRefusedRightly w.log y l s.thread p tx var m) same
          (record {
            within = (let a = (tail_of_row y c).0 in let g = mine.knowledge.seen in omega arith);
            block = may.below lastly.index p lastly.entry lastly.there lastly.position;
            upto = λ q e at own lt. lastly.upto q e at own;
            named = t.0;
            least = t.1;
            behind = λ a among k. below_of_row y c a among;
          })

      number : (y k : ℕ) → Contains tx.numbers (record { var = y; nth = k }) → until' y k ≡ m
      number y k has =
          let c : is_in y (variables_of tx) ≡ true =
          contains-is_in y (variables_of tx) (subst (λ l. Contains l y) may.drop.names.variables
          (map_contains (λ n. n.var) tx.numbers (record { var = y; nth = k }) has)) in
          let r = row_at y c in
          let n = head_number key w st id v s tx (Raised var) (variables_of tx) p one may.drop H here y k r.0 has r.1 in
          ap (until' y) n ∙ until_head y c r.0 r.1

-- a list whose last entry is its End may store Over
over_stored : (s : Shelf) (ending : Ending) → MayEnd s → IsFormed s.thread s.marked → MayStore s.thread s.marked (Over ending)
over_stored s ending may k = record {
  well_formed = tt;
  begins = λ not all. absurd (end_trim may.entry may.is (all may.index may.entry may.there));
  lows = λ i low high at e. absurd (cc);
  after_end = λ i g at last. (
    (λ z. tt),
    λ z. let same : i ≡ may.index = (let a = may.last in omega arith) in let e : may.entry
        ≡ g = some_same may.entry g (sym may.there ∙ ap (slice_get s.marked) (sym same) ∙ at) in subst IsEnd e may.is,
  );
  open_still = λ i g at over.
      let n = k.nothing_after i g at over in
      let same : i ≡ may.index = (let a = may.last in omega arith) in
      let e : may.entry ≡ g = some_same may.entry g (sym may.there ∙ ap (slice_get s.marked) (sym same) ∙ at)
      in end_over may.entry may.is (subst IsOver (sym e) over);
  cached = λ x n write value e. absurd (cc);
  repeats = λ x n value e. absurd (cc);
}
  where
    some_same : (a c : Entry) → Some a ≡ Some c → a ≡ c
    some_same a c e = cc

    end_trim : (e : Entry) → IsEnd e → IsTrim e → ⊥
    end_trim (Sync a b c) i t = t
    end_trim (Commit a b) i t = t
    end_trim (Plain a b c d f g) i t = t
    end_trim (Abort a b) i t = t
    end_trim (Trim a) i t = i
    end_trim (Over a) i t = t

    end_over : (e : Entry) → IsEnd e → IsOver e → ⊥
    end_over (Sync a b c) i t = t
    end_over (Commit a b) i t = t
    end_over (Plain a b c d f g) i t = t
    end_over (Abort a b) i t = t
    end_over (Trim a) i t = t
    end_over (Over a) i t = i

-- an entry that ends a thread's list draws no number
over_draws : (ending : Ending) (x k : ℕ) → Draws (Over ending) x k → ⊥
over_draws ending x k (inl d) = d
over_draws ending x k (inr d) = d

-- a pass of one list that may end goes by the rule still once the entry that ends its list is added
ends : (key : Key) (w : World) (st : table.State Slot View) (id : ℕ) (v : View) (s : Shelf) (ending : Ending) → v.shelves ≡ s ∷ []
    → MayEnd s → Holds key w st → get_elem? st.views id ≡ some v
    → Holds key w (record { words = st.words; homes = st.homes; views = set st.views id (stored v s.thread s.marked (Over ending)) })
ends key w st id v s ending one may H here =
    let b = board (capacity key) st.words in
    let e : Entry = Over ending in
    let mine : Fits key b w id v = H.views.at id v here in
    let f : ShelfFits w.log w.seat id s = only_shelf (ShelfFits w.log w.seat id) v s one mine.positions.shelves in
    let d : ShelfDraws w.draws v.drawn s = only_shelf (ShelfDraws w.draws v.drawn) v s one mine.numbers.shelves in
    reviews key w st id v (stored v s.thread s.marked (Over ending)) here (λ k o. o) H (record {
      tries = tries_moved w.stopped w.takers v s (shelf s.thread (s.marked ++ e ∷ [])) one refl mine.tries;
      turns = record {
        held = all_map (HeldOne b.turn w.holder id v.shelves)
            (HeldOne b.turn w.holder id (shelf s.thread (s.marked ++ e ∷ []) ∷ [])) v.held
            (λ g q. record {
              named = q.named;
              here = q.here;
              shelf = shelf s.thread (s.marked ++ e ∷ []);
              one = refl;
              busy = q.busy
                  ∙ ap (λ t. t + 1) (same_thread v q.shelf s q.one one);
            }) mine.turns.held;
      };
      positions = record {
        shelves = one_shelf (ShelfFits w.log w.seat id) (shelf s.thread (s.marked ++ e ∷ []))
            (record {
              here = f.here;
              named = f.named;
              events = events_push w.log s.thread s.marked f.events e refl;
              form = formed_push s.thread s.marked e (over_stored s ending may f.form) f.form;
              made = (let a = f.made in let g = counted_more s.marked e in omega arith);
            });
      };
      values = record { held = mine.values.held };
      numbers = record {
        shelves = one_shelf (ShelfDraws w.draws v.drawn) (shelf s.thread (s.marked ++ e ∷ []))
            (record {
              numbers = drawn_push w.draws s.thread s.marked v.drawn e (over_draws ending) d.numbers;
              few = λ x. let a = d.few x in let g = counted_more s.marked e in omega arith;
              two = d.two;
              above = λ x k m i g o at dr has. elim (at_cases s.marked e g i at) [
                | inl old ↦ d.above x k m i g o old dr has
                | inr new ↦ absurd (over_draws ending x k (subst (λ z. Draws z x k) new.1 dr))
              ];
              runs = λ o has. absurd ((d.runs o has).2 may.index may.entry may.there may.is);
            });
      };
      knowledge = record {
        seen = mine.knowledge.seen;
        own =
            one_shelf (AreBelow v.seen) (shelf s.thread (s.marked ++ e ∷ []))
            (λ i a g at z. elim (at_cases s.marked e g i at) [
              | inl old ↦ only_shelf (AreBelow v.seen) v s one mine.knowledge.own i a g old z
              | inr new ↦ absurd (let y : position_of e ≡ Some a = rw new.1 at z in cc)
            ]);
        known = mine.knowledge.known;
        tails = mine.knowledge.tails;
        reads = mine.knowledge.reads;
        loaded = mine.knowledge.loaded;
      };
      ring = record {
        floors = mine.ring.floors;
        stored = mine.ring.stored;
        few = mine.ring.few;
        by_holder = mine.ring.by_holder;
        lows =
            one_shelf (ShelfTrims w.trims) (shelf s.thread (s.marked ++ e ∷ []))
            (trims_push w.trims s.thread s.marked e (λ t. t) (only_shelf (ShelfTrims w.trims) v s one mine.ring.lows));
      };
      quiet = record { none_live = mine.quiet.none_live };
      owed = owed_push w.draws v.owed v.shelves s e one (λ o c. last_push s.marked e) (λ x k. refl) mine.owed;
      carries = record {
        shelves = one_shelf (ShelfCarries w.values) (shelf s.thread (s.marked ++ e ∷ []))
            (carries_push w.values s.thread s.marked e refl (only_shelf (ShelfCarries w.values) v s one mine.carries.shelves));
      };
      refusals = record {
        held = mine.refusals.held;
        shelves =
            one_shelf (ShelfRefusals w.until) (shelf s.thread (s.marked ++ e ∷ []))
            (refusals_push w.until s.marked e (λ tx a z. absurd (cc)) (only_shelf (ShelfRefusals w.until) v s one mine.refusals.shelves));
      };
    })

-- adding one entry keeps the rule
add_one : (key : Key) (st : table.State Slot View) (id : ℕ) (v u : View) (e : Entry) → MayAdd v e u → Rule key st → get_elem? st.views id
    ≡ some v → Rule key (record { words = st.words; homes = st.homes; views = set st.views id u })
add_one key st id v u (Over ending) may rule here =
    subst (λ z. Rule key (record { words = st.words; homes = st.homes; views = set st.views id z })) (sym may.3)
    (rule.0, ends key rule.0 st id v may.0 ending may.1 may.2 rule.1 here)
add_one key st id v u (Abort tx (Changed var read found)) may rule here =
    let w = rule.0 in
    let q = may.2 in
    subst (λ z. Rule key (record { words = st.words; homes = st.homes; views = set st.views id z })) (sym q.2) (
      _,
      drops key w st id v may.0 tx (Changed var read found) (var ∷ []) q.0 may.1 q.1.drop rule.1 here (Looked found) w.until
          (changed_becomes key w may.0 v tx var read found q.0 q.1),
    )
add_one key st id v u (Abort tx (Raised var)) may rule here =
    let w = rule.0 in
    let q = may.2 in
    subst (λ z. Rule key (record { words = st.words; homes = st.homes; views = set st.views id z })) (sym q.4) (
      _,
      drops key w st id v may.0 tx (Raised var) (variables_of tx) q.0 may.1 (q.3 key.setting).drop rule.1 here
          (Entered (Abort tx (Raised var))) (judged_at w.until w.draws (variables_of tx) q.1)
          (refused_becomes key w st id v may.0 tx var q.0 q.1 q.2 may.1 (q.3 key.setting) rule.1 here),
    )
add_one key st id v u (Sync a b c) may rule here = absurd may
add_one key st id v u (Commit a b) may rule here = absurd may
add_one key st id v u (Plain x k true write value false) may rule here =
    subst (λ z. Rule key (record { words = st.words; homes = st.homes; views = set st.views id z })) (sym may.3)
    (rule.0, caches key rule.0 st id v may.0 x k write value may.1 may.2 rule.1 here)
add_one key st id v u (Plain x k true write value true) may rule here = absurd may
add_one key st id v u (Plain x k false write value raised) may rule here = absurd may
add_one key st id v u (Trim a) may rule here = absurd may

-- what was added is recorded, one entry after another
pub add_all : (key : Key) (st : table.State Slot View) (id : ℕ) (v u : View) (more : List Entry) → Adding v more u → Rule key st
    → get_elem? st.views id ≡ some v → Rule key (record { words = st.words; homes = st.homes; views = set st.views id u })
add_all key st id v u [] adds rule here =
    subst (λ vs. Rule key (record { words = st.words; homes = st.homes; views = vs }))
    (sym (ap (set st.views id) adds ∙ set_again st.views id v here)) rule
add_all key st id v u (e ∷ more) adds rule here =
    let mid = adds.0 in
    let r = add_one key st id v mid e adds.1 rule here in
    let st' : table.State Slot View = record { words = st.words; homes = st.homes; views = set st.views id mid } in
    let near = at_within st.views id v here in
    let q = add_all key st' id mid u more adds.2 r (set_here st.views id mid near) in
    subst (λ vs. Rule key (record { words = st.words; homes = st.homes; views = vs })) (set_twice st.views id mid u) q

-- a step may first record what its pass has added: all kinds share this law
pub record_first : (key : Key) (slots id : ℕ) (v u : View) (c : List (ℕ × Slot)) (more : List Entry) (i : ℕ) (f : ℕ → ℕ) (tells : ℕ
    → table.Me Slot View → Type 0) → Adding v more u → table.Allows (Rule key) slots id (u, c) i f tells
    → table.Allows (Rule key) slots id (v, c) i f tells
record_first key slots id v u c more i f tells adds allows st rule long here fits =
    let near = at_within st.views id v here in
    let st' : table.State Slot View = record { words = st.words; homes = st.homes; views = set st.views id u } in
    let r = allows st' (add_all key st id v u more adds rule here) long (set_here st.views id u near) fits in (
      r.0,
      r.1,
      r.2,
      subst (λ vs. Rule key (record {
        words = set st.words i (f (Rattle.std.specs.Prelude.slice_index st.words i));
        homes = table.homes_after st.homes c r.1;
        views = vs;
      })) (set_twice st.views id u r.0) r.3,
      r.4,
    )
