-- The rule when a number is drawn on a row.
use Rattle.std.proofs.Common.{◌≡◌, ◌≢◌, ℕ, zero, suc, ◌+◌, ◌*◌, ◌^◌, ◌%◌, ◌<◌, ◌≤◌, List, [], ◌∷◌, ◌++◌, length, take, drop, set, sym, refl, ap, subst, arith, ◌∙◌, inl, inr, Some, None, false, true, Bool, mod-eq_of_lt}
use Rattle.std.specs.Prelude.{ℤ, pos, Contains, Option}
use Rattle.std.specs.List.{All}
use Rattle.std.proofs.lemmas.List.{take-append-drop, length-take-le}
use Rattle.std.proofs.lemmas.List.Elements.{All-cons, All-contains}
use native.Mathlib.Decide.{ℕ_discrete}
use Rattle.atomic_table.specs.Table as table
use Rattle.gl_model.specs.declared.event.Stamp.{Stamp}
use Rattle.gl_model.specs.declared.limits.TheConstants.{VARIABLES}
use Rattle.gl_model.specs.declared.row.Row.{Row}
use Rattle.gl_model.specs.declared.row.Question.{Question}
use Rattle.gl_model.specs.Entries.{Entry, Plain}
use Rattle.gl_model.specs.Form.{EntryForm}
use Rattle.gl_model.specs.Machine.{Setting, with_at}
use Rattle.gl_model.specs.Records.{position_of}
use Rattle.gl_draws.specs.Draws.{Entered, What, Draw, draw}
use Rattle.gl_draws.specs.Ties.{Drawn, IsStill, count_by, last_position}
use Rattle.gl_draws.specs.RowFacts.{RowStands, IsWithin}
use Rattle.gl_draws.specs.Verdicts.{DrawHolds, DrawsHold, IsRight, IsPlaced, IsBehind, IsCommitWhat, IsNamed, BlockIs}
use Rattle.gl_draws.proofs.DrawCounts.{draws_bound}
use Rattle.gl_draws.proofs.DrawPlaces.{draw_below}
use Rattle.gl_draws.proofs.EventTies.{last_own, events_push}
use Rattle.gl_draws.proofs.LastOnes.{each_at}
use Rattle.gl_draws.proofs.MarkLaw.{mark_holds}
use Rattle.gl_draws.proofs.Pushes.{at_cases}
use Rattle.gl_draws.proofs.Running.{end_entry, running_law}
use Rattle.gl_rule.specs.declared.slot.Slot.{Slot}
use Rattle.gl_rule.specs.declared.slot.Slot.TheVariants as slot
use Rattle.gl_rule.specs.Objects.{Key, Board, board, capacity, objects}
use Rattle.gl_rule.specs.View.{View, Held, Shelf, shelf, marked, without}
use Rattle.gl_rule.specs.World.{World}
use Rattle.gl_rule.specs.Turns.{HeldOne}
use Rattle.gl_rule.specs.Positions.{ShelfFits}
use Rattle.gl_rule.specs.Values.{IsAbove, Stands, StandsHeld, HeldStands}
use Rattle.gl_rule.specs.Numbers.{count_on, ShelfDraws}
use Rattle.gl_rule.specs.Knowledge.{AreBelow, TailsFit, ReadFits}
use Rattle.gl_rule.specs.Ring.{FloorFits, ShelfTrims, LowHolds}
use Rattle.gl_draws.specs.Refusals.{RefusalHolds, RefusalsHold}
use Rattle.gl_rule.specs.Refusals.{DrawsBelow, ShelfRefusals}
use Rattle.gl_draws.proofs.Refusing.{refusals_push}
use Rattle.gl_rule.proofs.Refusing.{commits_drew, commits_else}
use Rattle.gl_draws.specs.Draws.{last_write, DrawAt}
use Rattle.gl_draws.proofs.DrawTies.{draw_cases}
use Rattle.gl_draws.proofs.Pushes.{last_push}
use Rattle.gl_draws.specs.Repeated.{IsCalm}
use Rattle.gl_rule.specs.Owed.{OwedOne, repeats_of}
use Rattle.gl_rule.proofs.Owing.{owed_moves, owed_others, next_unrepeated, repeats_kept, calm_write, calm_any, write_past}
use Rattle.gl_rule.specs.Machine.{ShelfCarries}
use Rattle.gl_rule.proofs.Refusing.{carries_push}
use Rattle.gl_rule.specs.Fitting.{MayDraw, MayMark, MayOpen, HasPlace, IsNotOver}
use Rattle.gl_rule.specs.Rule.{Fits, Rule}
use Rattle.gl_rule.specs.Told.{Marked, Opened, IsAboveDrawn, what_of}
use Rattle.gl_rule.proofs.Each.{each_set}
use Rattle.gl_rule.proofs.Words.{still_long, count_here, count_else, count_turns, count_holds, count_cells, count_stop, SameTurns, SameHolds, SameCells}
use Rattle.gl_rule.proofs.HeldLists.{all_map, both_map, all_without, has_after, only_shelf, one_shelf}
use Rattle.gl_rule.proofs.FittingLaws.{Facts, front_fits, infos_front, within_seen}
use Rattle.gl_draws.proofs.Forming.{formed_push, counted_push, store_running}
use Rattle.gl_rule.proofs.Frames.{machine_same, turns_kept, turns_same, tail_at, read_at, floor_moves}
use Rattle.gl_rule.proofs.Publishing.{same_thread, trims_push}
use Rattle.gl_rule.proofs.Raising.{row_in, row_tail}
use Rattle.gl_rule.proofs.RingFrames.{ring_same}
use Rattle.gl_rule.proofs.Drawing.{next_here, next_else, numbers_hold, numbers_other, verdicts_next, numbers_plain, numbers_open}
use Rattle.gl_rule.proofs.Tries.{tries_moved, tries_same}

-- a held object but the row of x stands as before when a number is drawn on x
held_next : (setting : Setting) (w : World) (x : ℕ) (ds : List Draw) (hold hold' : ℕ → ℕ) (drew : Option Draw) (k : ℕ) (y : Slot)
    → k ≢ suc x → hold' k ≡ hold k → StandsHeld setting w hold drew k y
    → StandsHeld setting (record w { draws = with_at w.draws x ds }) hold' drew k y
held_next setting w x ds hold hold' drew zero (slot.List l) ne e s = s
held_next setting w x ds hold hold' drew (suc z) (slot.Row row) ne e s = (
  record {
    before = s.0.before;
    draws_are = Rattle.gl_draws.proofs.DrawTies.with_else w.draws x z ds (λ q. ne (ap suc q))
        ∙ s.0.draws_are;
    stands = s.0.stands;
  },
  subst (IsAbove row) (sym e) s.1,
)
held_next setting w x ds hold hold' drew zero slot.Empty ne e s = absurd s
held_next setting w x ds hold hold' drew zero (slot.Row r) ne e s = absurd s
held_next setting w x ds hold hold' drew (suc z) slot.Empty ne e s = absurd s
held_next setting w x ds hold hold' drew (suc z) (slot.List l) ne e s = absurd s

-- a slot of another object stands as before when a number is drawn on x
home_next : (setting : Setting) (w : World) (x : ℕ) (ds : List Draw) (hold hold' : ℕ → ℕ) (k : ℕ) (y : Slot) → k ≢ suc x → hold' k ≡ hold k
    → Stands setting w hold k y → Stands setting (record w { draws = with_at w.draws x ds }) hold' k y
home_next setting w x ds hold hold' zero (slot.List l) ne e s = s
home_next setting w x ds hold hold' (suc z) (slot.Row row) ne e s = (
  subst (λ l. RowStands setting w.log z l row) (sym (Rattle.gl_draws.proofs.DrawTies.with_else w.draws x z ds (λ q. ne (ap suc q))))
      s.0,
  subst (IsAbove row) (sym e) s.1,
)
home_next setting w x ds hold hold' zero slot.Empty ne e s = absurd s
home_next setting w x ds hold hold' zero (slot.Row r) ne e s = absurd s
home_next setting w x ds hold hold' (suc z) slot.Empty ne e s = absurd s
home_next setting w x ds hold hold' (suc z) (slot.List l) ne e s = absurd s

-- a held row of x from which a number is drawn stands as one that has drawn it
drew_row : (setting : Setting) (w : World) (x : ℕ) (d : Draw) (hold hold' : ℕ → ℕ) (k : ℕ) (y : Slot) (row : Row) → k ≡ suc x → y
    ≡ slot.Row row → hold' (suc x) ≡ hold (suc x) → RowStands setting w.log x (w.draws x) row × IsAbove row (hold (suc x))
    → StandsHeld setting (record w { draws = with_at w.draws x (d ∷ w.draws x) }) hold' (Some d) k y
drew_row setting w x d hold hold' k y row e is same st =
    let w' : World = record w { draws = with_at w.draws x (d ∷ w.draws x) } in
    let a : StandsHeld setting w' hold' (Some d) (suc x) (slot.Row row) =
    (record { before = w.draws x; draws_are = next_here w.draws x d; stands = st.0 }, subst (IsAbove row) (sym same) st.1) in
    subst (λ z. StandsHeld setting w' hold' (Some d) z y) (sym e) (subst (λ z. StandsHeld setting w' hold' (Some d) (suc x) z) (sym is) a)

-- refusals hold after one draw more on x, if they hold for that draw
refused_next : (draws : ℕ → List Draw) (x : ℕ) (d : Draw) (log : List Stamp) (until : ℕ → ℕ → ℕ) → RefusalHolds log (until x) x d (draws x)
    → ((y : ℕ) → RefusalsHold log (until y) y (draws y)) → (y : ℕ) → RefusalsHold log (until y) y (with_at draws x (d ∷ draws x) y)
refused_next draws x d log until new all y = elim (ℕ_discrete y x) [
  | yes e ↦ subst (λ l. RefusalsHold log (until y) y l) (sym (ap (with_at draws x (d ∷ draws x)) e ∙ next_here draws x d))
      (subst (λ z. RefusalsHold log (until z) z (d ∷ draws x)) (sym e) (new, all x))
  | no ne ↦ subst (λ l. RefusalsHold log (until y) y l) (sym (next_else draws x d y ne)) (all y)
]

-- what is owed on x has the same last write after another thread's draw on x
owed_next : (log : List Stamp) (draws : ℕ → List Draw) (x : ℕ) (d : Draw) (shelves : List Shelf) (y : ℕ) → y ≡ x → OwedOne draws shelves y
    → ((r : Shelf) → Contains shelves r → (d.thread ≢ r.thread) × Rattle.gl_draws.specs.Events.AreEvents log r.thread r.marked)
    → DrawsHold log x (d ∷ draws x) → last_write y (with_at draws x (d ∷ draws x) y) ≡ last_write y (draws y)
owed_next log draws x d shelves y e o other all =
    subst (λ z. OwedOne draws shelves z → last_write z (with_at draws x (d ∷ draws x) z) ≡ last_write z (draws z)) (sym e)
    (λ q. ap (last_write x) (next_here draws x d)
    ∙ write_past x d (draws x) (calm_write log draws shelves x d (draws x) q q.last other all))
    o

-- a variable on which something is owed stays calm after another thread's draw
owed_calm : (log : List Stamp) (draws : ℕ → List Draw) (x : ℕ) (d : Draw) (shelves : List Shelf) (y : ℕ) → y ≡ x → OwedOne draws shelves y
    → ((r : Shelf) → Contains shelves r → (d.thread ≢ r.thread) × Rattle.gl_draws.specs.Events.AreEvents log r.thread r.marked)
    → DrawsHold log x (d ∷ draws x) → IsCalm y (draws y) → IsCalm y (with_at draws x (d ∷ draws x) y)
owed_calm log draws x d shelves y e o other all calm =
    subst (λ z. OwedOne draws shelves z → IsCalm z (draws z) → IsCalm z (with_at draws x (d ∷ draws x) z)) (sym e)
    (λ q c. subst (IsCalm x) (sym (next_here draws x d))
    (inr (calm_write log draws shelves x d (draws x) q q.last other all, calm_any log draws shelves x d (draws x) q q.last other all, c))) o
    calm

-- what the table says to a mark
pub record MarkFacts (key : Key) (w : World) (b : Board) (id : ℕ) (v : View) (s : Shelf) (h : Held) (x : ℕ) (taken : Row) : Type 0 where
  pub facts : Facts key.setting w.seat id s v b.hold w.log
  pub draws : ShelfDraws w.draws v.drawn s
  pub lows : ShelfTrims w.trims s
  pub refusals : ShelfRefusals w.until s
  pub carries : ShelfCarries w.values s
  pub stands : RowStands key.setting w.log x (w.draws x) taken
  pub tails : (n : ℕ) → Contains h.tails n → (n ≤ v.seen) × IsWithin taken n
  pub verdicts : DrawsHold w.log x (w.draws x)

-- what a mark shows for it: s' is the list and drawn' the numbers that wait afterwards
pub record MarkShows (w : World) (id : ℕ) (v : View) (s s' : Shelf) (drawn' : List Drawn) (x : ℕ) (d : Draw) : Type 0 where
  pub thread : s'.thread ≡ s.thread
  pub fits : ShelfFits w.log w.seat id s'
  pub numbers : ShelfDraws (with_at w.draws x (d ∷ w.draws x)) drawn' s'
  pub below : AreBelow v.seen s'
  pub lows : ShelfTrims w.trims s'
  pub right : DrawsHold w.log x (d ∷ w.draws x)
  pub refusals : ShelfRefusals w.until s'
  pub carries : ShelfCarries w.values s'
  pub position : last_position s'.marked ≡ last_position s.marked
  pub repeats : (y k : ℕ) → repeats_of y k s'.marked ≡ repeats_of y k s.marked
  pub refused : (ds : List Draw) → RefusalHolds w.log (w.until x) x d ds

-- drawing a number keeps the rule, whatever it is for, where the shelf afterwards shows what is asked
pub draws_number : (key : Key) (slots id : ℕ) (v : View) (c : List (ℕ × Slot)) (s : Shelf) (h : Held) (x : ℕ) (taken : Row) (p : ℕ)
    (what : ℕ → What) (s' : ℕ → Shelf) (drawn' : ℕ → List Drawn) → v.shelves ≡ s ∷ [] → MayDraw s v h x taken p
    → ((w : World) (b : Board) → MarkFacts key w b id v s h x taken
    → MarkShows w id v s (s' (length (w.draws x))) (drawn' (length (w.draws x))) x (draw s.thread p (what (length (w.draws x)))))
    → table.Allows (Rule key) slots id (v, c) (3 * h.object) (λ n. (n + 1) % 2 ^ 64) (λ n u. (n + 1 < 2 ^ 64)
    × (u ≡ (marked v (s' n) (drawn' n) h (draw s.thread p (what n)), c)) × IsAboveDrawn x n v.drawn)
draws_number key slots id v c s h x taken p what s' drawn' one may shows st rule long here fits =
    let w = rule.0 in
    let H = rule.1 in
    let cap = capacity key in
    let k = h.object in
    let b = board cap st.words in
    let n = b.count k in
    let ds = w.draws x in
    let mine : Fits key b w id v = H.views.at id v here in
    let O = HeldOne b.turn w.holder id v.shelves in
    let S = HeldStands key.setting w b.hold in
    let T = TailsFit (length w.log) b.hold v.seen in
    let turn : O h = All-contains O v.held h mine.turns.held may.held in
    let near = turn.named in
    let is = may.object in
    let var : x < VARIABLES = omega arith in
    let shelf_fits : ShelfFits w.log w.seat id s = only_shelf (ShelfFits w.log w.seat id) v s one mine.positions.shelves in
    let shelf_draws : ShelfDraws w.draws v.drawn s = only_shelf (ShelfDraws w.draws v.drawn) v s one mine.numbers.shelves in
    let shelf_lows : ShelfTrims w.trims s = only_shelf (ShelfTrims w.trims) v s one mine.ring.lows in
    let old = row_in key.setting w b.hold k x h.taken h.drew taken may.object may.is may.first
    (All-contains S v.held h mine.values.held may.held) in
    let tails : T h = All-contains T v.held h mine.knowledge.tails may.held in
    let M : MarkShows w id v s (s' (length ds)) (drawn' (length ds)) x (draw s.thread p (what (length ds))) = shows w b (record {
      facts = record { now = w.now; allowed = H.whole.machine.allowed; one = one; shelf = shelf_fits; knowledge = mine.knowledge };
      draws = shelf_draws;
      lows = shelf_lows;
      refusals = only_shelf (ShelfRefusals w.until) v s one mine.refusals.shelves;
      carries = only_shelf (ShelfCarries w.values) v s one mine.carries.shelves;
      stands = old.0;
      tails = λ m q. let t = row_tail (length w.log) b.hold v.seen k x m h.taken taken may.object may.is (tails m q) in (t.0, t.1);
      verdicts = H.whole.verdicts x;
    }) in
    let count : n ≡ length ds = ap b.count may.object ∙ H.whole.numbers.counts x var in
    let bound : length ds ≤ 16 * (2 ^ 51 + 2) = draws_bound 16 (2 ^ 51 + 2) ds (H.whole.numbers.threads x) (H.whole.numbers.few x) in
    let small : n + 1 < 2 ^ 64 = omega arith in
    let above : IsAboveDrawn x n v.drawn = λ k look waits.
    let at = shelf_draws.numbers.in_flight (record { var = x; nth = k; look = look }) waits in
    subst (λ z. k < z) (sym count) (draw_below ds k at.0 at.1) in
    let m = (n + 1) % 2 ^ 64 in
    let next : m ≡ n + 1 = mod-eq_of_lt small in
    let b' = board cap (set st.words (3 * k) m) in
    let turns : SameTurns b b' = count_turns cap st.words H.words k near m in
    let holds : SameHolds b b' = count_holds cap st.words H.words k near m in
    let cells : SameCells b b' = count_cells cap st.words H.words k near m in
    let hit : b'.count k ≡ m = count_here cap st.words H.words k near m in
    let other : (g : ℕ) → g ≢ k → b'.count g ≡ b.count g = count_else cap st.words H.words k near m in
    let d = draw s.thread p (what (length ds)) in
    let draws' : ℕ → List Draw = with_at w.draws x (d ∷ ds) in
    let w' : World = record w { draws = draws' } in
    let after : ℕ → View = λ a. marked v (s' a) (drawn' a) h (draw s.thread p (what a)) in
    let u = after (length ds) in
    let short : (y : ℕ) → count_by s.thread (w.draws y) < 2 ^ 51 + 2 = λ y. let a = shelf_draws.few y in let q = shelf_draws.two y
    in let f = may.few in omega arith in
    let busy : b.turn k ≢ 0 = λ z. let q = turn.busy in omega arith in
    let to_suc : (g : ℕ) → g ≢ k → g ≢ suc x = λ g ne e. ne (e ∙ sym may.object) in
    let zero_near : 0 < objects = omega arith in
    let not_zero : 0 ≢ k = λ e. omega arith in
    let h' : Held = record h { drew = Some d } in
    let lift : (P Q : Held → Type 0) → ((g : Held) → g.object ≢ k → O g → P g → Q g) → All P v.held
    → All Q (without k v.held) = λ P Q step all. all_without (λ g. O g × P g) Q k v.held (λ g ne q. step g ne q.0 q.1)
    (both_map O P (λ g. O g × P g) v.held (λ g a q. (a, q)) mine.turns.held all) in
    let Q1 = HeldOne b'.turn w.holder id (s' (length ds) ∷ []) in
    let Q2 = HeldStands key.setting w' b'.hold in
    let Q3 = TailsFit (length w.log) b'.hold v.seen in
    let busy_of : (g : Held) → O g → b'.turn g.object ≡ (s' (length ds)).thread + 1 = λ g q. turns g.object q.named ∙ q.busy
    ∙ ap (λ t. t + 1) (same_thread v q.shelf s q.one one ∙ sym M.thread) in
    let own : Fits key b' w' id u = record {
      tries = tries_moved w.stopped w.takers v s (s' (length ds)) one M.thread mine.tries;
      turns = record {
        held = All-cons Q1 h' (without k v.held)
            (record { named = near; here = turn.here; shelf = s' (length ds); one = refl; busy = busy_of h turn })
            (all_without O Q1 k v.held (λ g ne q. record {
              named = q.named;
              here = q.here;
              shelf = s' (length ds);
              one = refl;
              busy = busy_of g q;
            }) mine.turns.held);
      };
      positions = record { shelves = one_shelf (ShelfFits w.log w.seat id) (s' (length ds)) M.fits };
      values = record {
        held = All-cons Q2 h' (without k v.held)
            (drew_row key.setting w x d b.hold b'.hold k h.taken taken may.object may.is (ap b'.hold (sym may.object) ∙ holds k near
            ∙ ap b.hold may.object) old) (lift S Q2 (λ g ne a q. held_next key.setting w x (d ∷ ds) b.hold b'.hold g.drew g.object g.taken
            (to_suc g.object ne) (holds g.object a.named) q) mine.values.held);
      };
      numbers = record { shelves = one_shelf (ShelfDraws draws' (drawn' (length ds))) (s' (length ds)) M.numbers };
      knowledge = record {
        seen = mine.knowledge.seen;
        own = one_shelf (AreBelow v.seen) (s' (length ds)) M.below;
        known = mine.knowledge.known;
        tails = All-cons Q3 h' (without k v.held)
            (λ a q. tail_at (length w.log) v.seen b.hold b'.hold k a h.taken (holds k near) (tails a q))
            (lift T Q3 (λ g ne a t i q. tail_at (length w.log) v.seen b.hold b'.hold g.object i g.taken (holds g.object a.named) (t i q))
            mine.knowledge.tails);
        reads = all_map (ReadFits b.hold) (ReadFits b'.hold) v.reads (read_at b.hold b'.hold (λ g q. let e = holds g q in omega arith))
            mine.knowledge.reads;
        loaded = mine.knowledge.loaded;
      };
      ring = record {
        floors = All-cons (FloorFits b'.hold) h' (without k v.held)
            (floor_moves b.hold b'.hold h (λ nz. holds k near) (All-contains (FloorFits b.hold) v.held h mine.ring.floors may.held))
            (lift (FloorFits b.hold) (FloorFits b'.hold) (λ g ne a t. floor_moves b.hold b'.hold g (λ nz. holds g.object a.named) t)
            mine.ring.floors);
        stored = λ i q. cells (length w.log) i ∙ mine.ring.stored i q;
        few = mine.ring.few;
        by_holder = elim mine.ring.by_holder [ inl z ↦ inl z | inr o ↦ inr (has_after 0 v h h' refl o) ];
        lows = one_shelf (ShelfTrims w.trims) (s' (length ds)) M.lows;
      };
      quiet = record { none_live = mine.quiet.none_live };
      carries = record { shelves = one_shelf (ShelfCarries w.values) (s' (length ds)) M.carries };
      owed = owed_moves w.draws draws' v.owed v.shelves s (s' (length ds)) one M.thread
          (λ y value c. (ap (last_write y) (next_else w.draws x d y (λ e. may.paid (y, value) c e)), M.position))
          (λ y value c q. let ne : y ≢ x = λ e. may.paid (y, value) c e in subst (IsCalm y) (sym (next_else w.draws x d y ne)) q)
          (λ y value i f c at last own. let ne : y ≢ x = λ e. may.paid (y, value) c e
          in (subst (λ l. DrawAt l i f) (next_else w.draws x d y ne) at, M.repeats y i))
          (λ y i f at own. elim (draw_cases w.draws x d y i f at) [
            | inl old ↦ inl (old, M.repeats y i)
            | inr new ↦ inr (
              ap (λ (z : Draw). z.repeats) new.2,
              M.repeats y i ∙ ap (λ z. repeats_of z i s.marked) new.0
                  ∙ ap (λ z. repeats_of x z s.marked) new.1
                  ∙ next_unrepeated w.draws s.thread s.marked v.drawn x shelf_draws.numbers shelf_fits.form,
            )
          ])
          mine.owed;
      refusals = record {
        held = All-cons (DrawsBelow draws') h' (without k v.held)
            (commits_drew w.draws draws' x d h h' may.object (next_here w.draws x d) may.first refl refl refl
            (All-contains (DrawsBelow w.draws) v.held h mine.refusals.held may.held))
            (all_without (DrawsBelow w.draws) (DrawsBelow draws') k v.held
            (λ g ne q. commits_else w.draws draws' g (λ z e. next_else w.draws x d z (λ a. ne (e ∙ ap suc a ∙ sym may.object))) q)
            mine.refusals.held);
        shelves = one_shelf (ShelfRefusals w.until) (s' (length ds)) M.refusals;
      };
    } in
    let foreign : (j : ℕ) (o : View) → j ≢ id → Fits key b w j o → (r : Shelf) → Contains o.shelves r → (s.thread ≢ r.thread)
    × Rattle.gl_draws.specs.Events.AreEvents w.log r.thread r.marked = λ j o away f r c.
    let a : ShelfFits w.log w.seat j r = All-contains (ShelfFits w.log w.seat j) o.shelves r f.positions.shelves c in
    ((λ e. away (sym a.here ∙ ap w.seat (sym e) ∙ shelf_fits.here)), a.events) in
    let tells : ℕ → table.Me Slot View = λ a. (after a, c) in (
      u,
      table.keeps,
      tt,
      (
        w',
        record {
          words = still_long cap st.words (3 * k) m H.words;
          whole = record {
            turns = turns_kept b.turn b'.turn w.holder id st.views v u here turns (λ g o. has_after g v h h' refl o) H.whole.turns;
            tries = tries_same b b' w.stopped w.takers turns (count_stop cap st.words H.words k near m) H.whole.tries;
            positions = record {
              count = other 0 not_zero
                  ∙ H.whole.positions.count;
              kept = H.whole.positions.kept;
              few = H.whole.positions.few;
            };
            machine = machine_same key.setting w _ refl refl refl refl H.whole.machine;
            numbers = numbers_hold w.draws x d b.count b'.count (ap b'.count (sym may.object) ∙ hit ∙ next ∙ omega arith)
                (λ y ne. other (suc y) (λ e. ne (let z : suc y ≡ suc x = e ∙ may.object in omega arith))) shelf_fits.named short
                H.whole.numbers;
            verdicts = verdicts_next w.draws x d w.log M.right H.whole.verdicts;
            refused = refused_next w.draws x d w.log w.until (M.refused (w.draws x)) H.whole.refused;
            ring = ring_same key b b' w.log (holds 0 zero_near) holds cells H.whole.ring;
            low = subst (λ z. LowHolds z w.trims) (sym (holds 0 zero_near)) H.whole.low;
          };
          values = record {
            home = λ g q z.
                let free : b.turn g ≡ 0 = sym (turns g q) ∙ z in
                let ne : g ≢ k = λ e. busy (ap b.turn (sym e) ∙ free) in
                let r = H.values.home g q free in
                (r.0, r.1, home_next key.setting w x (d ∷ ds) b.hold b'.hold g r.0 (to_suc g ne) (holds g q) r.2);
          };
          views = each_set id u H.views
              (λ j o away f.
              let P = HeldOne b.turn w.holder j o.shelves in
              let apart : (g : Held) → P g → g.object ≢ k = λ g q e. away (sym q.here ∙ ap w.holder e ∙ turn.here) in
              record {
                turns = turns_same b.turn b'.turn w.holder j o turns f.turns;
                tries = f.tries;
                positions = f.positions;
                values = record {
                  held = both_map P S Q2 o.held
                      (λ g a q. held_next key.setting w x (d ∷ ds) b.hold b'.hold g.drew g.object g.taken (to_suc g.object (apart g a))
                      (holds g.object a.named) q) f.turns.held f.values.held;
                };
                numbers = record {
                  shelves = both_map (ShelfFits w.log w.seat j) (ShelfDraws w.draws o.drawn) (ShelfDraws draws' o.drawn)
                      o.shelves (λ r a q. numbers_other w.draws x d r o.drawn
                      (λ e. away (sym a.here ∙ ap w.seat (sym e) ∙ shelf_fits.here)) q)
                      f.positions.shelves f.numbers.shelves;
                };
                knowledge = record {
                  seen = f.knowledge.seen;
                  own = f.knowledge.own;
                  known = f.knowledge.known;
                  tails = both_map P (TailsFit (length w.log) b.hold o.seen) (TailsFit (length w.log) b'.hold o.seen) o.held
                      (λ g a t i q. tail_at (length w.log) o.seen b.hold b'.hold g.object i g.taken (holds g.object a.named) (t i q))
                      f.turns.held f.knowledge.tails;
                  reads = all_map (ReadFits b.hold) (ReadFits b'.hold) o.reads
                      (read_at b.hold b'.hold (λ g q. let e = holds g q in omega arith)) f.knowledge.reads;
                  loaded = f.knowledge.loaded;
                };
                ring = record {
                  floors = both_map P (FloorFits b.hold) (FloorFits b'.hold) o.held
                      (λ g a t. floor_moves b.hold b'.hold g (λ nz. holds g.object a.named) t) f.turns.held f.ring.floors;
                  stored = λ i q. cells (length w.log) i ∙ f.ring.stored i q;
                  few = f.ring.few;
                  by_holder = f.ring.by_holder;
                  lows = f.ring.lows;
                };
                quiet = f.quiet;
                carries = f.carries;
                owed = owed_others w.draws draws' o.owed o.shelves
                    (λ y q. elim (ℕ_discrete y x) [
                      | yes e ↦ owed_next w.log w.draws x d o.shelves y e q (λ r c. foreign j o away f r c) M.right
                      | no ne ↦ ap (last_write y) (next_else w.draws x d y ne)
                    ])
                    (λ y q calm. elim (ℕ_discrete y x) [
                      | yes e ↦ owed_calm w.log w.draws x d o.shelves y e q (λ r c. foreign j o away f r c) M.right calm
                      | no ne ↦ subst (IsCalm y) (sym (next_else w.draws x d y ne)) calm
                    ])
                    (λ r c y i g at own. elim (draw_cases w.draws x d y i g at) [
                      | inl old ↦ old
                      | inr new ↦ absurd ((foreign j o away f r c).0 (sym (ap (λ (z : Draw). z.thread) new.2) ∙ own))
                    ])
                    f.owed;
                refusals = record {
                  held = both_map P (DrawsBelow w.draws) (DrawsBelow draws') o.held
                      (λ g a q. commits_else w.draws draws' g (λ z e. next_else w.draws x d z
                      (λ y. apart g a (e ∙ ap suc y ∙ sym may.object)))
                      q) f.turns.held f.refusals.held;
                  shelves = f.refusals.shelves;
                };
              })
              own;
        },
      ),
      (small, ap tells (sym count), above),
    )

-- a draw that a running thread makes in its last block has its place in the list of events
pub placed_at : (log : List Stamp) (s : Shelf) (p : ℕ) (w : What) → Rattle.gl_draws.specs.Events.AreEvents log s.thread s.marked
    → last_position s.marked ≡ Some p → IsNotOver s.marked → ((e : Stamp) → BlockIs w e) → IsPlaced log (draw s.thread p w)
placed_at log s p w events last goes_on is =
    let l = last_own log s.thread s.marked events p last in
    record {
      event = l.event;
      here = l.here;
      own = l.own;
      goes_on = λ over. goes_on l.index l.entry l.there (end_entry l.entry (l.is ∙ ap Some over));
      is = is l.event;
    }

module _ (key : Key) (w : World) (b : Board) (id : ℕ) (v : View) (s : Shelf) (h : Held) (x : ℕ) (taken : Row) (p : ℕ) (q : Question)
    (write : Bool) (value : ℤ) (raised : Bool) (may : MayMark key.setting s v h x taken p q write value raised) where
  record Marks (log : List Stamp) (ds : List Draw) : Type 0 where
    facts : Facts key.setting w.seat id s v b.hold log
    stands : RowStands key.setting log x ds taken
    verdicts : DrawsHold log x ds

  -- where the first events of a list are as many as the pass has seen, what is said of the draws is right over the whole list with the
  -- plain access as the last draw
  right_at : (ds : List Draw) → ((n : ℕ) → Contains h.tails n → (n ≤ v.seen) × IsWithin taken n) → (l more : List Stamp) → length l
      ≡ v.seen → Marks (l ++ more) ds → DrawsHold (l ++ more) x (draw s.thread p (Entered (Plain x (length ds) false write value raised))
      ∷ ds)
  right_at ds tails l more long f =
      let fits = front_fits key.setting w.seat id s v b.hold l more long f.facts in
      let fresh = tails may.fresh.0 may.fresh.1 in
      let le = fresh.0 in
      let within : IsWithin taken (length l) = within_seen taken may.fresh.0 (length l) (omega arith) fresh.1 in
      let last = last_own (l ++ more) s.thread s.marked f.facts.shelf.events p may.draws.block in
      let below : p < v.seen = only_shelf (AreBelow v.seen) v s f.facts.one f.facts.knowledge.own last.index p last.entry last.there
      last.position in
      mark_holds key.setting l more fits.now fits.allowed s.thread p
      (running_law key.setting l fits.now s.thread p s.marked fits.allowed fits.own may.draws.block may.draws.goes_on) (omega arith)
      last.upto x ds f.verdicts
      (λ a among own. let d = (each_at (DrawHolds (l ++ more) x) ds a f.verdicts among).1.placed
      in last.upto a.block d.event d.here (d.own ∙ own))
      taken f.stands within q may.by may.plain write raised value may.writes
      (may.judged l fits (infos_front key.setting l more x ds taken f.stands within)) may.reads
      (placed_at (l ++ more) s p (Entered (Plain x (length ds) false write value raised)) f.facts.shelf.events may.draws.block
      may.draws.goes_on (λ e. tt))

  -- what is said of the access is right, by its judgement over each fitting list
  pub mark_right : (ds : List Draw) (log : List Stamp) → ((n : ℕ) → Contains h.tails n → (n ≤ v.seen) × IsWithin taken n)
      → Facts key.setting w.seat id s v b.hold log → RowStands key.setting log x ds taken → DrawsHold log x ds
      → DrawsHold log x (draw s.thread p (Entered (Plain x (length ds) false write value raised)) ∷ ds)
  mark_right ds log tails f st verdicts =
      let is : log ≡ take v.seen log ++ drop v.seen log = sym (take-append-drop v.seen log) in
      let n = f.knowledge.seen in
      let long : length (take v.seen log) ≡ v.seen = length-take-le v.seen log n in
      subst (λ k. Marks k ds → DrawsHold k x (draw s.thread p (Entered (Plain x (length ds) false write value raised)) ∷ ds)) (sym is)
      (right_at ds tails (take v.seen log) (drop v.seen log) long) (record { facts = f; stands = st; verdicts = verdicts })

-- an uncached access has the form of an entry, if its value is zero where a read raised
plain_form : (t x n : ℕ) (write raised : Bool) (value : ℤ) → (raised ≡ true → write ≡ false → value ≡ pos 0)
    → EntryForm t (Plain x n false write value raised)
plain_form t x n write true value none = (refl, none refl)
plain_form t x n write false value none = tt

-- so a plain access may draw its number
pub marks_plain : (key : Key) (slots id : ℕ) (v : View) (c : List (ℕ × Slot)) (s : Shelf) (h : Held) (x : ℕ) (taken : Row) (p : ℕ)
    (q : Question) (write : Bool) (value : ℤ) (raised : Bool) → v.shelves ≡ s ∷ []
    → MayMark key.setting s v h x taken p q write value raised
    → table.Allows (Rule key) slots id (v, c) (3 * h.object) (λ n. (n + 1) % 2 ^ 64) (Marked s h x p write value raised v c)
marks_plain key slots id v c s h x taken p q write value raised one may =
    draws_number key slots id v c s h x taken p (λ n. Entered (Plain x n false write value raised))
    (λ n. shelf s.thread (s.marked ++ Plain x n false write value raised ∷ [])) (λ n. v.drawn) one may.draws (λ w b f.
    let e : Entry = Plain x (length (w.draws x)) false write value raised in
    record {
      thread = refl;
      fits = record {
        here = f.facts.shelf.here;
        named = f.facts.shelf.named;
        events = events_push w.log s.thread s.marked f.facts.shelf.events e refl;
        form = formed_push s.thread s.marked e (store_running s.thread p s.marked e f.facts.shelf.form may.draws.block may.draws.goes_on
            (plain_form s.thread x (length (w.draws x)) write raised value may.zero) (λ t. t) (λ t. t) (λ y k a z same. absurd (cc))
            (λ y k z same. absurd (cc))) f.facts.shelf.form;
        made = (let a = f.facts.shelf.made in let g = counted_push s.marked e (λ t. t) in omega arith);
      };
      numbers = numbers_plain w.draws v.drawn s x p write raised value may.idle may.draws.block f.draws;
      below = λ i a g at z. elim (at_cases s.marked e g i at) [
        | inl old ↦ only_shelf (AreBelow v.seen) v s one f.facts.knowledge.own i a g old z
        | inr new ↦ absurd (let y : position_of e ≡ Some a = rw new.1 at z in cc)
      ];
      lows = trims_push w.trims s.thread s.marked e (λ t. t) f.lows;
      refusals = refusals_push w.until s.marked e (λ tx z same. absurd (cc)) f.refusals;
      refused = λ ds. tt;
      carries = carries_push w.values s.thread s.marked e refl f.carries;
      position = last_push s.marked e;
      repeats = λ y k. repeats_kept y k s.marked e refl;
      right = mark_right key w b id v s h x taken p q write value raised may (w.draws x) w.log f.tails f.facts f.stands f.verdicts;
    })

-- where there is a place for a draw, at most one draw on that variable waits for its entry
place_few : (look : Option ℤ) (x : ℕ) (drawn : List Drawn) → HasPlace look x drawn → count_on x drawn ≤ 1
place_few (Some value) x drawn h = omega arith
place_few None x drawn h = h

-- so may a look, or the end of an attempt
pub marks_open : (key : Key) (slots id : ℕ) (v : View) (c : List (ℕ × Slot)) (s : Shelf) (h : Held) (x : ℕ) (taken : Row) (p : ℕ)
    (look : Option ℤ) → v.shelves ≡ s ∷ [] → MayOpen s v h x taken p look
    → table.Allows (Rule key) slots id (v, c) (3 * h.object) (λ n. (n + 1) % 2 ^ 64) (Opened s h x p look v c)
marks_open key slots id v c s h x taken p look one may =
    draws_number key slots id v c s h x taken p (λ n. what_of look) (λ n. s) (λ n. v.drawn ++ record { var = x; nth = n; look = look }
    ∷ []) one may.draws (λ w b f.
    let last = last_own w.log s.thread s.marked f.facts.shelf.events p may.draws.block in
    record {
      thread = refl;
      fits = f.facts.shelf;
      numbers = numbers_open w.draws v.drawn s x p (what_of look) look (still look) f.draws (place_few look x v.drawn may.room)
          may.draws.block may.draws.goes_on;
      below = only_shelf (AreBelow v.seen) v s one f.facts.knowledge.own;
      lows = f.lows;
      refusals = f.refusals;
      carries = f.carries;
      position = refl;
      repeats = λ y k. refl;
      refused = λ ds. unrefused look (w.until x) w.log ds;
      right = (
        record {
          placed = placed_at w.log s p (what_of look) f.facts.shelf.events may.draws.block may.draws.goes_on (λ e. block look e);
          rises = λ a among own. behind look a.block p (let d = (each_at (DrawHolds w.log x) (w.draws x) a f.verdicts among).1.placed
              in last.upto a.block d.event d.here (d.own ∙ own));
          agrees = λ a among g i. absurd (none look i);
          named = named look (length (w.draws x));
          right = right look w.log (w.draws x) f.stands (may.word);
        },
        f.verdicts,
      );
    })
  where
    unrefused : (look : Option ℤ) (until : ℕ → ℕ) (log : List Stamp) (ds : List Draw)
        → Rattle.gl_draws.specs.Refusals.RefusalRight log until x ds s.thread p (what_of look)
    unrefused (Some z) until log ds = tt
    unrefused None until log ds = tt

    still : (look : Option ℤ) → IsStill (what_of look) look
    still (Some z) = refl
    still None = refl

    block : (look : Option ℤ) (e : Stamp) → BlockIs (what_of look) e
    block (Some z) e = tt
    block None e = tt

    behind : (look : Option ℤ) (a p : ℕ) → a ≤ p → IsBehind a p (what_of look)
    behind (Some z) a p le = le
    behind None a p le = le

    none : (look : Option ℤ) → IsCommitWhat (what_of look) → ⊥
    none (Some z) i = i
    none None i = i

    named : (look : Option ℤ) (n : ℕ) → IsNamed x n (what_of look)
    named (Some z) n = tt
    named None n = tt

    right : (look : Option ℤ) (log : List Stamp) (ds : List Draw) → RowStands key.setting log x ds taken
        → ((value : ℤ) → look ≡ Some value → value ≡ taken.value) → IsRight log x ds s.thread p (what_of look)
    right (Some z) log ds st word = subst (λ a. Rattle.gl_draws.specs.Draws.IsWord x ds a) (sym (word z refl))
        (Rattle.gl_draws.proofs.Words.is_word x ds taken.value (sym st.word))
    right None log ds st word = tt
