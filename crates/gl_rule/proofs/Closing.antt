-- The table at the end, where one seat has the lists of all threads.
use Rattle.std.proofs.Common.{◌≡◌, ◌≢◌, ℕ, zero, suc, ◌+◌, ◌*◌, ◌<◌, ◌≤◌, ◌==◌, List, [], ◌∷◌, ◌++◌, length, sym, refl, ap, subst, arith, ◌∙◌, inl, inr, true, false, eq-eqb, ne_eqb}
use Rattle.std.specs.Prelude.{ℤ, Contains, ◌⊎◌, ◌^◌}
use Rattle.std.proofs.lemmas.List.Elements.{All-contains}
use native.Mathlib.Decide.{ℕ_discrete}
use mathlib.Core.Option.{some, some-injective}
use lib.ListN.{get_elem?}
use Rattle.atomic_table.specs.Table as table
use Rattle.gl_model.specs.declared.event.Act.TheVariants.{Fork}
use Rattle.gl_model.specs.declared.event.Event.TheVariants.{Act as Does}
use Rattle.gl_model.specs.declared.limits.TheConstants.{THREADS}
use Rattle.gl_model.specs.Edges.{EventAt}
use Rattle.gl_model.specs.Elements.{IsStampInRange}
use Rattle.gl_model.specs.Entries.{Entry, Sync}
use Rattle.gl_model.specs.Form.{At, ListForm, value_of}
use Rattle.gl_model.specs.Machine.{State, Step, start, NeverForked, Forked, Ended}
use Rattle.gl_model.specs.Records.{Lists, Place, EntryAt}
use Rattle.gl_laws.proofs.Trails.{Trail, stage, come, come_rises, begin_between}
use Rattle.gl_draws.specs.Cached.{repeats_of}
use Rattle.gl_draws.specs.Draws.{Draw, DrawAt}
use Rattle.gl_draws.specs.Events.{AreEvents}
use Rattle.gl_draws.specs.Ties.{AreDrawn}
use Rattle.gl_draws.proofs.ClosedNumbers.{numbered_law}
use Rattle.gl_draws.proofs.Closing.{is_list, positions_rise}
use Rattle.gl_draws.proofs.DrawCounts.{draws_bound}
use Rattle.gl_draws.proofs.DrawPlaces.{draw_among}
use Rattle.gl_draws.proofs.DrawTies.{with_here}
use Rattle.gl_draws.proofs.Forming.{log_bound}
use Rattle.gl_draws.proofs.Running.{first_stage}
use Rattle.gl_rule.specs.declared.slot.Slot.{Slot}
use Rattle.gl_rule.specs.Objects.{Key, Board, board, capacity, objects}
use Rattle.gl_state.specs.States.{IsQuiet}
use Rattle.gl_rule.specs.View.{View, Shelf, shelf}
use Rattle.gl_rule.specs.World.{World}
use Rattle.gl_rule.specs.Turns.{HeldOne}
use Rattle.gl_draws.specs.Forming.{IsFormed}
use Rattle.gl_rule.specs.Positions.{ShelfFits}
use Rattle.gl_rule.specs.Numbers.{ShelfDraws}
use Rattle.gl_rule.specs.Values.{Stands}
use Rattle.gl_rule.specs.Machine.{ShelfCarries}
use Rattle.gl_rule.specs.Refusals.{ShelfRefusals}
use Rattle.gl_rule.specs.Owed.{OwedFits}
use Rattle.gl_rule.specs.Ring.{ShelfTrims}
use Rattle.gl_rule.specs.Closed.{lists_in, IsClosed}
use Rattle.gl_rule.specs.Rule.{Fits, Holds}
use Rattle.gl_rule.proofs.HeldLists.{in_cons}
use Rattle.gl_rule.proofs.Loading.{all_at}

-- a thread's list is that of its shelf, or empty
pub shelf_at : (l : List Shelf) (t : ℕ) → ((s : Shelf) × Contains l s × (s.thread ≡ t) × (lists_in l t ≡ s.marked))
    ⊎ ((lists_in l t ≡ []) × ((s : Shelf) → Contains l s → s.thread ≢ t))
shelf_at [] t = inr (refl, λ s c. absurd (let q = c.1 in omega arith))
shelf_at (s ∷ ss) t = here (ℕ_discrete s.thread t) (shelf_at ss t)
  where
    here : Dec (s.thread ≡ t) → ((r : Shelf) × Contains ss r × (r.thread ≡ t) × (lists_in ss t ≡ r.marked))
        ⊎ ((lists_in ss t ≡ []) × ((r : Shelf) → Contains ss r → r.thread ≢ t))
        → ((r : Shelf) × Contains (s ∷ ss) r × (r.thread ≡ t) × (lists_in (s ∷ ss) t ≡ r.marked))
        ⊎ ((lists_in (s ∷ ss) t ≡ []) × ((r : Shelf) → Contains (s ∷ ss) r → r.thread ≢ t))
    here (yes e) rest = let b : (s.thread == t) ≡ true = eq-eqb s.thread t e in inl (s, (zero, omega arith, refl), e, rw b refl)
    here (no ne) (inl r) = let b : (s.thread == t) ≡ false = ne_eqb s.thread t ne in inl (r.0, in_cons s ss r.0 r.1, r.2, rw b r.3)
    here (no ne) (inr r) = let b : (s.thread == t) ≡ false = ne_eqb s.thread t ne in inr (rw b r.0, none)
      where
        none : (q : Shelf) → Contains (s ∷ ss) q → q.thread ≢ t
        none q (zero, l, e) same = let a : s ≡ q = e in ne (ap (λ (z : Shelf). z.thread) a ∙ same)
        none q (suc k, l, e) same = r.1 q (k, omega arith, e) same

-- the seat that has the lists of all threads
module _ (key : Key) (w : World) (st : table.State Slot View) (id : ℕ) (v : View) (H : Holds key w st) (here : get_elem? st.views id
    ≡ some v) (idle : v.held ≡ []) (none : v.drawn ≡ []) (all : (t : ℕ) → t < THREADS → (s : Shelf) × Contains v.shelves s × (s.thread ≡ t))
  where
    abbrev b : Board
    b = board (capacity key) st.words

    abbrev R : Lists
    R = lists_in v.shelves

    -- the seat's view fits
    mine : Fits key b w id v
    mine = H.views.at id v here

    -- each thread's list is at this seat
    seat_of : (t : ℕ) → t < THREADS → w.seat t ≡ id
    seat_of t near = let s = all t near in let f : ShelfFits w.log w.seat id s.0 =
        All-contains (ShelfFits w.log w.seat id) v.shelves s.0 mine.positions.shelves s.1 in ap w.seat (sym s.2) ∙ f.here

    -- no pass holds anything
    pub all_free : (k : ℕ) → k < objects → b.turn k ≡ 0
    all_free k near = elim (ℕ_discrete (b.turn k) 0) [ yes e ↦ e | no busy ↦ absurd (held busy) ]
      where
        held : b.turn k ≢ 0 → ⊥
        held busy =
            let q = H.whole.turns.busy k near busy in
            let o = q.0 in
            let j = w.holder k in
            let f : Fits key b w j o = H.views.at j o q.1 in
            let h : HeldOne b.turn w.holder j o.shelves q.2.0 =
            All-contains (HeldOne b.turn w.holder j o.shelves) o.held q.2.0 f.turns.held q.2.1 in
            let has : Contains o.shelves h.shelf = subst (λ l. Contains l h.shelf) (sym h.one) (zero, omega arith, refl) in
            let s : ShelfFits w.log w.seat j h.shelf = All-contains (ShelfFits w.log w.seat j) o.shelves h.shelf f.positions.shelves has in
            let same : j ≡ id = sym s.here ∙ seat_of h.shelf.thread s.named in
            let is : v ≡ o = some-injective v o (sym here ∙ ap (get_elem? st.views) (sym same) ∙ q.1) in
            let c : Contains v.held q.2.0 = subst (λ (z : View). Contains z.held q.2.0) (sym is) q.2.1 in
            let l = c.1 in let z : length v.held ≡ 0 = ap length idle in omega arith

    -- so each object is at home
    pub all_home : (k : ℕ) → k < objects → (y : Slot) × (get_elem? st.homes k ≡ some (some y)) × Stands key.setting w b.hold k y
    all_home k near = H.values.home k near (all_free k near)

    -- what holds of each list that the seat has, and of an empty list for each other thread, holds of each thread's list in the record
    by_thread : (P : ℕ → List Entry → Type 0) → ((s : Shelf) → Contains v.shelves s → P s.thread s.marked)
        → ((t : ℕ) → THREADS ≤ t → P t [])
        → (t : ℕ) → P t (R t)
    by_thread P own other t = elim (shelf_at v.shelves t) [
      | inl s ↦ subst (λ l. P t l) (sym s.3) (subst (λ z. P z s.0.marked) s.2 (own s.0 s.1))
      | inr s ↦ subst (λ l. P t l) (sym s.0) (other t (beyond t s.1))
    ]
      where
        beyond : (t : ℕ) → ((s : Shelf) → Contains v.shelves s → s.thread ≢ t) → THREADS ≤ t
        beyond t apart = elim (native.Mathlib.Decide.dec_le THREADS t) [
          | yes le ↦ le
          | no lt ↦ absurd (let s = all t (omega arith) in apart s.0 s.1 s.2)
        ]

    -- each of the seat's lists has its thread's events, in a form that it may have so far
    fits_of : (s : Shelf) → Contains v.shelves s → ShelfFits w.log w.seat id s
    fits_of s c = All-contains (ShelfFits w.log w.seat id) v.shelves s mine.positions.shelves c

    -- each draw of the thread of such a list has its entry in it, since no number waits
    draws_of : (s : Shelf) → Contains v.shelves s → ShelfDraws w.draws [] s
    draws_of s c = subst (λ d. ShelfDraws w.draws d s) none (All-contains (ShelfDraws w.draws v.drawn) v.shelves s mine.numbers.shelves c)

    -- each list has its thread's events
    pub events : (t : ℕ) → AreEvents w.log t (R t)
    events = by_thread (λ t l. AreEvents w.log t l) (λ s c. (fits_of s c).events) (λ t far. record {
      listed = λ i p e ev a q r. absurd (cc);
      made = λ p x at own. absurd (let k = (all_at w.log p x H.whole.positions.kept at).0 in omega arith);
      rise = λ i j p q e f a c lt d g. absurd (cc);
    })

    -- so the draws of each thread are tied to its list in the record, and no number waits
    drawn : (t : ℕ) → AreDrawn w.draws t (R t) []
    drawn = by_thread (λ t l. AreDrawn w.draws t l []) (λ s c. (draws_of s c).numbers) (λ t far. record {
      kept = λ x k d a own. absurd (let q = H.whole.numbers.threads x d (draw_among (w.draws x) k d a) in omega arith);
      made = λ x k i e a q. absurd (cc);
      in_flight = λ o c. absurd (let l = c.1 in omega arith);
      rise = λ x k m i j e f a c lt d g. absurd (cc);
    })

    -- each list of the record has a form that it may have so far
    shaped : (t : ℕ) → IsFormed t (R t)
    shaped = by_thread (λ t l. IsFormed t l) (λ s c. (fits_of s c).form)
        (λ t far. record {
          well_formed = λ i e a. absurd (cc);
          begins = λ i e a n q. absurd (cc);
          lows_rise = λ i j l h a c. absurd (cc);
          over_after_end = λ i e f a c. absurd (cc);
          nothing_after = λ i e a o. absurd (cc);
          cached = λ i x k z y a. absurd (cc);
          repeats = λ i x k y a. absurd (cc);
        })

    -- the entries of events in each list of the record carry the values of these events
    carries : (t : ℕ) → ShelfCarries w.values (shelf t (R t))
    carries = by_thread (λ t l. ShelfCarries w.values (shelf t l))
        (λ s c. All-contains (ShelfCarries w.values) v.shelves s mine.carries.shelves c) (λ t far i p e a q. absurd (cc))

    -- each list of the record has the form of a list, its positions and numbers rising
    formed : (t : ℕ) → ListForm t (R t)
    formed t = let f = shaped t in record {
      well_formed = f.well_formed;
      begins = f.begins;
      positions_rise = (events t).rise;
      numbers_rise = λ i j x k m e g a c lt d d'. (drawn t).rise x k m i j e g a c lt d d';
      lows_rise = f.lows_rise;
      over_after_end = f.over_after_end;
      nothing_after = f.nothing_after;
      cached = f.cached;
    }

    -- the states between the events lead from the machine's start to its state now, each event by a step
    trail : Trail key.setting (start key.setting) w.log w.now
    trail = record {
      at = w.states;
      first = H.whole.machine.first;
      last = H.whole.machine.last;
      steps = λ p x at. (w.values p, H.whole.machine.steps p x at);
    }

    -- a thread that was forked has a list
    forked_list : IsQuiet w.now → (c : Place) (p u f : ℕ) (value : ℤ) → EntryAt R c (Sync p (Fork u f) value) → R u ≢ []
    unfolding come stage trail
    forked_list quiet c p u f value at empty =
        let ev : EventAt w.log p (record { thread = c.thread; event = Does (Fork u f) }) =
        (events c.thread).listed c.index p (Sync p (Fork u f) value) (Does (Fork u f)) at refl refl in
        let near = Rattle.std.proofs.lemmas.Option.slice_get_within w.log p (record { thread = c.thread; event = Does (Fork u f) }) ev in
        let step = H.whole.machine.steps p (record { thread = c.thread; event = Does (Fork u f) }) ev in
        let is : (w.states (suc p)).threads u ≡ Forked f (w.values p) = ap (λ (z : State). z.threads u) step.effect.1
        ∙ with_here (w.states p).threads u (Forked f (w.values p)) in
        let one : come key.setting (start key.setting) w.log w.now trail u (suc p) ≡ 1 = ap stage is in
        let up = come_rises key.setting (start key.setting) w.log w.now trail u (suc p) (length w.log) (omega arith) (omega arith) in
        let end : come key.setting (start key.setting) w.log w.now trail u (length w.log)
        ≡ stage (w.now.threads u) = ap (λ (z : State). stage (z.threads u)) H.whole.machine.last in
        let high : 2 ≤ come key.setting (start key.setting) w.log w.now trail u (length w.log) = elim (quiet u) [
          | inl q ↦ absurd (let z : stage (w.now.threads u) ≡ 0 = ap stage q in omega arith)
          | inr q ↦ (let z : stage (w.now.threads u) ≡ 3 = ap stage q in omega arith)
        ] in
        let begin = begin_between key.setting (start key.setting) w.log w.now trail u 0 (length w.log) (omega arith) (omega arith)
        (first_stage key.setting w.log w.now trail u) high in
        let m = (events u).made begin.place begin.event begin.here begin.own in
        let z : At [] m.0 m.1 = subst (λ l. At l m.0 m.1) empty m.2 in absurd (cc)

    -- where no thread is live and nothing is owed, the record of the lists is closed
    pub closes : IsQuiet w.now → v.owed ≡ [] → IsClosed key.setting (b.hold 0) (lists_in v.shelves)
    closes quiet paid = record {
      log = w.log;
      draws = w.draws;
      until = w.until;
      trims = w.trims;
      few_events = (let m : length w.log ≤ 16 * 2 ^ 50 = log_bound IsStampInRange 16 (2 ^ 50) w.log (λ d k. k.0) H.whole.positions.kept
          H.whole.positions.few in omega arith);
      few_draws = λ x. (let m : length (w.draws x)
          ≤ 16 * (2 ^ 51 + 2) = draws_bound 16 (2 ^ 51 + 2) (w.draws x) (H.whole.numbers.threads x) (H.whole.numbers.few x) in omega arith);
      events = events;
      tied = record { at = drawn };
      hold = H.whole.verdicts;
      refused = H.whole.refused;
      refusals = by_thread (λ t l. ShelfRefusals w.until (shelf t l))
          (λ s c. All-contains (ShelfRefusals w.until) v.shelves s mine.refusals.shelves c) (λ t far i tx var a. absurd (cc));
      lowest = H.whole.low;
      lows = lows;
      repeats = λ t i x k value at. (shaped t).repeats i x k value at;
      written_back = written_back;
      beyond = far;
      formed = formed;
      listed = is_list R w.log events;
      rise = positions_rise R w.log events;
      numbered = numbered_law R w.draws (record { at = drawn }) (λ c e at. (formed c.thread).well_formed c.index e at);
      machine = record {
        at = w.states;
        first = H.whole.machine.first;
        steps = λ c p x e.
            let at : EventAt w.log p x = (is_list R w.log events).listed c p x e in
            let step = H.whole.machine.steps p x at in
            let same : w.values p ≡ value_of e.entry = carries c.thread c.index p e.entry e.there e.position in
            let n : suc p ≡ p + 1 = omega arith in
            subst (λ z. Step key.setting (w.states p) x (value_of e.entry) (w.states z)) n
            (subst (λ z. Step key.setting (w.states p) x z (w.states (suc p))) same step);
        lists = forked_list quiet;
        ended = λ t. subst (λ (z : State). (z.threads t ≡ NeverForked) ⊎ (z.threads t ≡ Ended)) (sym H.whole.machine.last) (quiet t);
      };
    }
      where
        far : (t : ℕ) → THREADS ≤ t → R t ≡ []
        far t le = elim (shelf_at v.shelves t) [
          | inl s ↦ absurd (let n = (fits_of s.0 s.1).named in let q = s.2 in omega arith)
          | inr s ↦ s.0
        ]

        no_owed : OwedFits w.draws [] v.shelves
        no_owed = subst (λ o. OwedFits w.draws o v.shelves) paid mine.owed

        written_back : (x k : ℕ) (d : Draw) → DrawAt (w.draws x) k d → repeats_of x k (R d.thread) ≡ d.repeats
        written_back x k d at = elim (shelf_at v.shelves d.thread) [
          | inl s ↦
              (let t = no_owed.tied s.0 s.1 x k d at (sym s.2) in
              let none : t.0 ≡ [] = elim t.2 [ inl z ↦ z | inr p ↦ absurd (let l = p.owes.1 in omega arith) ] in
              ap (repeats_of x k) s.3 ∙ t.1 ∙ ap (λ l. l ++ d.repeats) none)
          | inr s ↦ absurd (let o = all d.thread (H.whole.numbers.threads x d (draw_among (w.draws x) k d at)) in s.1 o.0 o.1 o.2)
        ]

        lows : (t : ℕ) → t < THREADS → ShelfTrims w.trims (shelf t (R t))
        lows t near = elim (shelf_at v.shelves t) [
          | inl s ↦ subst (λ l. ShelfTrims w.trims (shelf t l)) (sym s.3)
              (subst (λ z. ShelfTrims w.trims (shelf z s.0.marked)) s.2
              (All-contains (ShelfTrims w.trims) v.shelves s.0 mine.ring.lows s.1))
          | inr s ↦ absurd (let o = all t near in s.1 o.0 o.1 o.2)
        ]
