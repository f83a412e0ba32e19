-- The rule when a hold is raised, when the hold of a held row is loaded, and when the first segment is raised.
use Rattle.std.proofs.Common.{◌≡◌, ◌≢◌, ℕ, zero, suc, ◌+◌, ◌*◌, ◌<◌, ◌≤◌, List, [], ◌∷◌, ◌++◌, length, set, sym, refl, ap, subst, arith, ◌∙◌, inl, inr, Some, None}
use Rattle.std.specs.Prelude.{Contains, Option}
use Rattle.std.specs.List.{All}
use Rattle.std.proofs.lemmas.List.Elements.{All-cons, All-contains, All-push}
use native.Mathlib.Decide.{ℕ_discrete}
use Rattle.atomic_table.specs.Table as table
use Rattle.gl_model.specs.declared.event.Stamp.{Stamp}
use Rattle.gl_model.specs.declared.limits.TheConstants.{VARIABLES}
use Rattle.gl_model.specs.declared.row.Row.{Row}
use Rattle.gl_model.specs.Machine.{Setting}
use Rattle.gl_draws.specs.Draws.{Draw}
use Rattle.gl_draws.specs.RowFacts.{RowStands, IsWithin}
use Rattle.gl_draws.proofs.RowGrowth.{stands_within, row_front}
use Rattle.std.proofs.lemmas.List.{take-append-drop, length-take-le}
use Rattle.gl_rule.specs.declared.slot.Slot.{Slot}
use Rattle.gl_rule.specs.declared.slot.Slot.TheVariants as slot
use Rattle.gl_rule.specs.Objects.{Key, Board, board, capacity, objects}
use Rattle.gl_rule.specs.View.{View, Held, Shelf, Hold, raised, saw_floor, without}
use Rattle.gl_rule.specs.World.{World}
use Rattle.gl_rule.specs.Turns.{HeldOne}
use Rattle.gl_rule.specs.Positions.{ShelfFits}
use Rattle.gl_rule.specs.Values.{IsAbove, Stands, StandsHeld, HeldStands, with_draw}
use Rattle.gl_rule.specs.Knowledge.{TailFits, TailsFit, ReadFits}
use Rattle.gl_rule.specs.Ring.{RingHolds, LowHolds, ShelfTrims, FloorFits}
use Rattle.gl_rule.specs.Refusals.{DrawsBelow}
use Rattle.gl_rule.proofs.Refusing.{commits_raised, commits_same}
use Rattle.gl_rule.specs.Fitting.{MayRaise}
use Rattle.gl_rule.specs.Rule.{Fits, Rule}
use Rattle.gl_rule.specs.Told.{Raised, SawFloor}
use Rattle.gl_rule.proofs.Each.{each_set}
use Rattle.gl_rule.proofs.Words.{still_long, hold_here, hold_else, hold_turns, hold_counts, hold_cells, hold_stop, SameTurns, SameCounts, SameCells}
use Rattle.gl_rule.proofs.HeldLists.{all_map, both_map, all_without, has_after, only_shelf}
use Rattle.gl_rule.proofs.FittingLaws.{Facts, front_fits, put_stands, within_seen}
use Rattle.gl_rule.proofs.Frames.{machine_same, turns_kept, turns_same, stands_at, held_at, tail_at, read_at, reviews, loads_word, floor_moves}
use Rattle.gl_rule.proofs.Tries.{tries_same, tries_saw}

-- a held slot stands still when the holds change only where it is the list
held_at' : (setting : Setting) (w : World) (hold hold' : ℕ → ℕ) (drew : Option Draw) (k : ℕ) (y : Slot) → (k ≢ 0 → hold' k ≡ hold k)
    → StandsHeld setting w hold drew k y → StandsHeld setting w hold' drew k y
held_at' setting w hold hold' drew zero (slot.List l) e s = s
held_at' setting w hold hold' drew zero slot.Empty e s = absurd s
held_at' setting w hold hold' drew zero (slot.Row r) e s = absurd s
held_at' setting w hold hold' drew (suc x) y e s = held_at setting w hold hold' drew (suc x) y (e (λ z. omega arith)) s

-- a value at home stands by its own hold alone, and the list's by none
pub stands_at' : (setting : Setting) (w : World) (hold hold' : ℕ → ℕ) (k : ℕ) (y : Slot) → (k ≢ 0 → hold' k ≡ hold k)
    → Stands setting w hold k y → Stands setting w hold' k y
stands_at' setting w hold hold' zero (slot.List l) e s = s
stands_at' setting w hold hold' zero slot.Empty e s = absurd s
stands_at' setting w hold hold' zero (slot.Row r) e s = absurd s
stands_at' setting w hold hold' (suc x) y e s = stands_at setting w hold hold' (suc x) y (e (λ z. omega arith)) s

-- a tail fits still when the holds change only where the object is the list
tail_at' : (long seen : ℕ) (hold hold' : ℕ → ℕ) (k n : ℕ) (y : Slot) → (k ≢ 0 → hold' k ≡ hold k) → TailFits long hold seen k y n
    → TailFits long hold' seen k y n
tail_at' long seen hold hold' zero n y e s = s
tail_at' long seen hold hold' (suc x) n y e s = tail_at long seen hold hold' (suc x) n y (e (λ z. omega arith)) s

-- Trims change no held value
pub trim_held : (setting : Setting) (w : World) (trims' : List (ℕ × ℕ)) (hold : ℕ → ℕ) (drew : Option Draw) (k : ℕ) (y : Slot)
    → StandsHeld setting w hold drew k y → StandsHeld setting (record w { trims = trims' }) hold drew k y
trim_held setting w trims' hold drew zero (slot.List l) s = s
trim_held setting w trims' hold drew (suc x) (slot.Row row) s =
    (record { before = s.0.before; draws_are = s.0.draws_are; stands = s.0.stands }, s.1)
trim_held setting w trims' hold drew zero slot.Empty s = absurd s
trim_held setting w trims' hold drew zero (slot.Row r) s = absurd s
trim_held setting w trims' hold drew (suc x) slot.Empty s = absurd s
trim_held setting w trims' hold drew (suc x) (slot.List l) s = absurd s

-- a view fits still where holds rose, but none of a row that it holds
pub fits_holds : (key : Key) (b b' : Board) (w : World) (trims' : List (ℕ × ℕ)) (j : ℕ) (v : View) → SameTurns b b' → SameCells b b'
    → ((h : Held) → HeldOne b.turn w.holder j v.shelves h → h.object ≢ 0 → b'.hold h.object ≡ b.hold h.object)
    → ((k : ℕ) → k < objects → b.hold k ≤ b'.hold k)
    → ((s : Shelf) → ShelfFits w.log w.seat j s → ShelfTrims w.trims s → ShelfTrims trims' s) → Fits key b w j v
    → Fits key b' (record w { trims = trims' }) j v
fits_holds key b b' w trims' j v turns cells same up lows f =
    let w' : World = record w { trims = trims' } in
    let O = HeldOne b.turn w.holder j v.shelves in record {
      turns = turns_same b.turn b'.turn w.holder j v turns f.turns;
      tries = f.tries;
      positions = f.positions;
      values = record {
        held = both_map O (HeldStands key.setting w b.hold) (HeldStands key.setting w' b'.hold) v.held
            (λ h a s. trim_held key.setting w trims' b'.hold h.drew h.object h.taken
            (held_at' key.setting w b.hold b'.hold h.drew h.object h.taken (same h a) s)) f.turns.held f.values.held;
      };
      numbers = f.numbers;
      knowledge = record {
        seen = f.knowledge.seen;
        own = f.knowledge.own;
        known = f.knowledge.known;
        tails = both_map O (TailsFit (length w.log) b.hold v.seen) (TailsFit (length w.log) b'.hold v.seen) v.held
            (λ h a t n q. tail_at' (length w.log) v.seen b.hold b'.hold h.object n h.taken (same h a) (t n q)) f.turns.held
            f.knowledge.tails;
        reads = all_map (ReadFits b.hold) (ReadFits b'.hold) v.reads (read_at b.hold b'.hold up) f.knowledge.reads;
        loaded = f.knowledge.loaded;
      };
      ring = record {
        floors = both_map O (FloorFits b.hold) (FloorFits b'.hold) v.held (λ h a t. floor_moves b.hold b'.hold h (same h a) t) f.turns.held
            f.ring.floors;
        stored = λ i q. cells (length w.log) i ∙ f.ring.stored i q;
        few = f.ring.few;
        by_holder = f.ring.by_holder;
        lows = both_map (ShelfFits w.log w.seat j) (ShelfTrims w.trims) (ShelfTrims trims') v.shelves lows f.positions.shelves f.ring.lows;
      };
      quiet = f.quiet;
      refusals = f.refusals;
      carries = f.carries;
      owed = f.owed;
    }

-- nor one at home
pub trim_home : (setting : Setting) (w : World) (trims' : List (ℕ × ℕ)) (hold : ℕ → ℕ) (k : ℕ) (y : Slot) → Stands setting w hold k y
    → Stands setting (record w { trims = trims' }) hold k y
trim_home setting w trims' hold zero (slot.List l) s = s
trim_home setting w trims' hold (suc x) (slot.Row row) s = s
trim_home setting w trims' hold zero slot.Empty s = absurd s
trim_home setting w trims' hold zero (slot.Row r) s = absurd s
trim_home setting w trims' hold (suc x) slot.Empty s = absurd s
trim_home setting w trims' hold (suc x) (slot.List l) s = absurd s

-- a held row on which nothing was drawn stands for the draws of its variable, with no Info below its hold
pub row_in : (setting : Setting) (w : World) (hold : ℕ → ℕ) (k x : ℕ) (y : Slot) (drew : Option Draw) (row : Row) → k ≡ suc x → y
    ≡ slot.Row row → drew ≡ None → StandsHeld setting w hold drew k y → RowStands setting w.log x (w.draws x) row
    × IsAbove row (hold (suc x))
row_in setting w hold k x y drew row e is none st =
    let s : StandsHeld setting w hold None (suc x) (slot.Row row) =
    subst (λ z. StandsHeld setting w hold z (suc x) (slot.Row row)) none
    (subst (λ z. StandsHeld setting w hold drew (suc x) z) is (subst (λ z. StandsHeld setting w hold drew z y) e st)) in
    (subst (λ ds. RowStands setting w.log x ds row) (sym s.0.draws_are) s.0.stands, s.1)

-- and a row of which this is so stands as held
pub in_row : (setting : Setting) (w : World) (hold : ℕ → ℕ) (k x : ℕ) (drew : Option Draw) (row : Row) → k ≡ suc x → drew ≡ None
    → RowStands setting w.log x (w.draws x) row × IsAbove row (hold (suc x)) → StandsHeld setting w hold drew k (slot.Row row)
in_row setting w hold k x drew row e none st =
    let a : StandsHeld setting w hold None (suc x) (slot.Row row) =
    (record { before = w.draws x; draws_are = refl; stands = st.0 }, st.1) in
    subst (λ z. StandsHeld setting w hold z k (slot.Row row)) (sym none)
    (subst (λ z. StandsHeld setting w hold None z (slot.Row row)) (sym e) a)

-- a tail that was seen while a row was held is at most what was seen, and not below the row's Infos and its hold
pub row_tail : (long : ℕ) (hold : ℕ → ℕ) (seen k x n : ℕ) (y : Slot) (row : Row) → k ≡ suc x → y ≡ slot.Row row
    → TailFits long hold seen k y n → (n ≤ seen) × IsWithin row n × (hold (suc x) ≤ n)
row_tail long hold seen k x n y row e is t = let a : TailFits long hold seen (suc x) (slot.Row row) n =
    subst (λ z. TailFits long hold seen (suc x) z n) is (subst (λ z. TailFits long hold seen z y n) e t) in a

-- and one of which this is so fits the row
pub tail_row : (long : ℕ) (hold : ℕ → ℕ) (seen k x n : ℕ) (row : Row) → k ≡ suc x → (n ≤ seen) × IsWithin row n × (hold (suc x) ≤ n)
    → TailFits long hold seen k (slot.Row row) n
tail_row long hold seen k x n row e t = subst (λ z. TailFits long hold seen z (slot.Row row) n) (sym e)
    (let a : TailFits long hold seen (suc x) (slot.Row row) n = t in a)

-- the row that a hold is raised with is within what was seen
raised_within : (setting : Setting) (seat : ℕ → ℕ) (j : ℕ) (s : Shelf) (v : View) (hold : ℕ → ℕ) (h : Held) (x : ℕ) (taken row : Row)
    (log : List Stamp) (ds : List Draw) → Rattle.gl_rule.specs.Fitting.Follows setting s v h x taken row → Facts setting seat j s v hold log
    → RowStands setting log x ds taken → ((n : ℕ) → Contains h.tails n → (n ≤ v.seen) × IsWithin taken n) → IsWithin row v.seen
raised_within setting seat j s v hold h x taken row log ds right f st tails =
    let is : log ≡ Rattle.std.specs.Prelude.take v.seen log
    ++ Rattle.std.proofs.Common.drop v.seen log = sym (take-append-drop v.seen log) in
    let n = f.knowledge.seen in
    let long : length (Rattle.std.specs.Prelude.take v.seen log) ≡ v.seen = length-take-le v.seen log n in
    by (Rattle.std.specs.Prelude.take v.seen log) (Rattle.std.proofs.Common.drop v.seen log) long
    (subst (λ k. Facts setting seat j s v hold k × RowStands setting k x ds taken) is (f, st))
  where
    by : (l more : List Stamp) → length l ≡ v.seen → Facts setting seat j s v hold (l ++ more) × RowStands setting (l ++ more) x ds taken
        → IsWithin row v.seen
    by l more long p =
        let fits = front_fits setting seat j s v hold l more long p.0 in
        let fresh = tails right.fresh.0 right.fresh.1 in
        let le = fresh.0 in
        let within : IsWithin taken (length l) = within_seen taken right.fresh.0 (length l) (omega arith) fresh.1 in
        let st' = right.follows l fits ds (row_front setting l more x ds taken within p.1) in
        subst (IsWithin row) long (stands_within setting l x (with_draw h.drew ds) row st')

-- raising a row's hold keeps the rule
pub raises_hold : (key : Key) (slots id : ℕ) (v : View) (c : List (ℕ × Slot)) (s : Shelf) (h : Held) (x : ℕ) (taken row : Row) (to : ℕ)
    → v.shelves ≡ s ∷ [] → MayRaise key.setting s v h x taken row to
    → table.Allows (Rule key) slots id (v, c) (3 * h.object + 2) (λ _. to) (λ _. Raised h (slot.Row row) to v c)
raises_hold key slots id v c s h x taken row to one may st rule long here fits =
    let w = rule.0 in
    let H = rule.1 in
    let cap = capacity key in
    let k = h.object in
    let b = board cap st.words in
    let mine : Fits key b w id v = H.views.at id v here in
    let O = HeldOne b.turn w.holder id v.shelves in
    let S = HeldStands key.setting w b.hold in
    let T = TailsFit (length w.log) b.hold v.seen in
    let turn : O h = All-contains O v.held h mine.turns.held may.held in
    let near = turn.named in
    let is = may.object in
    let var : x < VARIABLES = omega arith in
    let shelf_fits : ShelfFits w.log w.seat id s = only_shelf (ShelfFits w.log w.seat id) v s one mine.positions.shelves in
    let old = row_in key.setting w b.hold k x h.taken h.drew taken may.object may.is may.first
    (All-contains S v.held h mine.values.held may.held) in
    let tails : T h = All-contains T v.held h mine.knowledge.tails may.held in
    let tails' : (n : ℕ) → Contains h.tails n → (n ≤ v.seen)
    × IsWithin taken n = λ n q. let t = row_tail (length w.log) b.hold v.seen k x n h.taken taken may.object may.is (tails n q)
    in (t.0, t.1) in
    let facts : Facts key.setting w.seat id s v b.hold w.log =
    record { now = w.now; allowed = H.whole.machine.allowed; one = one; shelf = shelf_fits; knowledge = mine.knowledge } in
    let put : RowStands key.setting w.log x (with_draw h.drew (w.draws x)) row =
    put_stands key.setting w.seat id s v b.hold h x taken row may.right (w.draws x) w.log facts old.0 tails' in
    let new : RowStands key.setting w.log x (w.draws x) row =
    subst (λ d. RowStands key.setting w.log x (with_draw d (w.draws x)) row) may.first put in
    let within : IsWithin row v.seen = raised_within key.setting w.seat id s v b.hold h x taken row w.log (w.draws x) may.right facts old.0
    tails' in
    let low : b.hold k ≤ to = elim may.from [
      | inl a ↦ (let f : FloorFits b.hold h = All-contains (FloorFits b.hold) v.held h mine.ring.floors may.held
          in let e = (f.exact a.0 a.1).0 in let le = a.2 in omega arith)
      | inr a ↦ (let q : b.hold (suc x) ≤ a.0.pos = old.1.at a.0 a.1 in let e : b.hold k ≡ b.hold (suc x) = ap b.hold may.object
          in let le = a.2 in omega arith)
    ] in
    let b' = board cap (set st.words (3 * k + 2) to) in
    let turns : SameTurns b b' = hold_turns cap st.words H.words k near to in
    let counts : SameCounts b b' = hold_counts cap st.words H.words k near to in
    let cells : SameCells b b' = hold_cells cap st.words H.words k near to in
    let hit : b'.hold k ≡ to = hold_here cap st.words H.words k near to in
    let other : (g : ℕ) → g ≢ k → b'.hold g ≡ b.hold g = hold_else cap st.words H.words k near to in
    let up : (g : ℕ) → g < objects → b.hold g ≤ b'.hold g =
    λ g q. elim (ℕ_discrete g k) [
      | yes e ↦ (let a : b'.hold g ≡ to = ap b'.hold e ∙ hit in let z : b.hold g ≡ b.hold k = ap b.hold e
          in omega arith)
      | no ne ↦ (let a = other g ne in omega arith)
    ] in
    let zero_near : 0 < objects = omega arith in
    let not_zero : 0 ≢ k = λ e. omega arith in
    let same0 : b'.hold 0 ≡ b.hold 0 = other 0 not_zero in
    let seen = mine.knowledge.seen in
    let to_seen = may.seen in
    let ring : RingHolds cap (b'.hold 0 * key.cells) b' w.log = subst (λ z. RingHolds cap (z * key.cells) b' w.log) (sym same0) (record {
      cells = λ p i r ge at few. cells p i ∙ H.whole.ring.cells p i r ge at few;
      room = H.whole.ring.room;
      holds = λ z q. let r = H.whole.ring.holds z q in let from : ℕ = b.hold 0 * key.cells in let u = up (suc z) (omega arith)
          in let f : from ≤ b.hold (suc z) = r.0 in let le : from ≤ b'.hold (suc z) = omega arith in (
            le,
            elim (ℕ_discrete (suc z) k) [
              | yes e ↦ (let a : b'.hold (suc z) ≡ to = ap b'.hold e ∙ hit in omega arith)
              | no ne ↦ (let a = other (suc z) ne in let m = r.1 in omega arith)
            ],
          );
    }) in
    let g' : Held = record h { taken = slot.Row row; tails = v.seen ∷ []; floor = Some to } in
    let u = raised v h (slot.Row row) to in
    let lift : (P : Held → Type 0) → (Q : Held → Type 0) → ((g : Held) → g.object ≢ k → O g → P g → Q g) → All P v.held
    → All Q (without k v.held) = λ P Q step all. all_without (λ g. O g × P g) Q k v.held (λ g ne p. step g ne p.0 p.1)
    (both_map O P (λ g. O g × P g) v.held (λ g a q. (a, q)) mine.turns.held all) in
    let Q2 = HeldStands key.setting w b'.hold in
    let Q3 = TailsFit (length w.log) b'.hold v.seen in
    let hit' : b'.hold (suc x) ≡ to = ap b'.hold (sym may.object) ∙ hit in
    let own : Fits key b' w id u = record {
      tries = mine.tries;
      turns = record {
        held = All-cons (HeldOne b'.turn w.holder id v.shelves) g' (without k v.held)
            (record { named = near; here = turn.here; shelf = turn.shelf; one = turn.one; busy = turns k near ∙ turn.busy })
            (all_without O (HeldOne b'.turn w.holder id v.shelves) k v.held
            (λ g ne p. record { named = p.named; here = p.here; shelf = p.shelf; one = p.one; busy = turns g.object p.named ∙ p.busy })
            mine.turns.held);
      };
      positions = record { shelves = mine.positions.shelves };
      values = record {
        held = All-cons Q2 g' (without k v.held)
            (in_row key.setting w b'.hold k x h.drew row may.object may.first
            (new, record { at = λ i q. subst (λ z. z ≤ i.pos) (sym hit') (may.above i q) }))
            (lift S Q2 (λ g ne p q. held_at key.setting w b.hold b'.hold g.drew g.object g.taken (other g.object ne) q) mine.values.held);
      };
      numbers = record { shelves = mine.numbers.shelves };
      knowledge = record {
        seen = mine.knowledge.seen;
        own = mine.knowledge.own;
        known = mine.knowledge.known;
        tails = All-cons Q3 g' (without k v.held)
            (λ n q. tail_row (length w.log) b'.hold v.seen k x n row may.object
            (one_tail v.seen n q row within (subst (λ z. z ≤ v.seen) (sym hit') to_seen)))
            (lift T Q3 (λ g ne p t n q. tail_at (length w.log) v.seen b.hold b'.hold g.object n g.taken (other g.object ne) (t n q))
            mine.knowledge.tails);
        reads = all_map (ReadFits b.hold) (ReadFits b'.hold) v.reads (read_at b.hold b'.hold up) mine.knowledge.reads;
        loaded = mine.knowledge.loaded;
      };
      ring = record {
        floors = All-cons (FloorFits b'.hold) g' (without k v.held)
            (record { exact = λ n e. (hit ∙ some_is to n e, λ z. not_zero (sym z)); named = λ r i is has none nz. absurd (cc) })
            (lift (FloorFits b.hold) (FloorFits b'.hold) (λ g ne p t. floor_moves b.hold b'.hold g (λ nz. other g.object ne) t)
            mine.ring.floors);
        stored = λ i q. cells (length w.log) i ∙ mine.ring.stored i q;
        few = mine.ring.few;
        by_holder = elim mine.ring.by_holder [ inl z ↦ inl z | inr o ↦ inr (has_after 0 v h g' refl o) ];
        lows = mine.ring.lows;
      };
      quiet = record { none_live = mine.quiet.none_live };
      carries = record { shelves = mine.carries.shelves };
      owed = mine.owed;
      refusals = record {
        held = All-cons (DrawsBelow w.draws) g' (without k v.held)
            (commits_raised w.draws v.seen h g' may.right.fresh refl refl refl (λ n q. (tails' n q).0)
            (All-contains (DrawsBelow w.draws) v.held h mine.refusals.held may.held))
            (all_without (DrawsBelow w.draws) (DrawsBelow w.draws) k v.held (λ g ne q. q) mine.refusals.held);
        shelves = mine.refusals.shelves;
      };
    } in (
      u,
      table.keeps,
      tt,
      (
        w,
        record {
          words = still_long cap st.words (3 * k + 2) to H.words;
          whole = record {
            turns = turns_kept b.turn b'.turn w.holder id st.views v u here turns (λ g o. has_after g v h g' refl o) H.whole.turns;
            tries = tries_same b b' w.stopped w.takers turns (hold_stop cap st.words H.words k near to) H.whole.tries;
            positions = record {
              count = counts 0 zero_near
                  ∙ H.whole.positions.count;
              kept = H.whole.positions.kept;
              few = H.whole.positions.few;
            };
            machine = machine_same key.setting w _ refl refl refl refl H.whole.machine;
            numbers = record {
              counts = λ z q. counts (suc z) (omega arith)
                  ∙ H.whole.numbers.counts z q;
              threads = H.whole.numbers.threads;
              few = H.whole.numbers.few;
            };
            verdicts = H.whole.verdicts;
            refused = H.whole.refused;
            ring = ring;
            low = subst (λ z. LowHolds z w.trims) (sym same0) H.whole.low;
          };
          values = record {
            home = λ g q z.
                let free : b.turn g ≡ 0 = sym (turns g q) ∙ z in
                let ne : g ≢ k = λ e. let a : b.turn k ≡ 0 = ap b.turn (sym e) ∙ free in let busy = turn.busy in omega arith in
                let r = H.values.home g q free in
                (r.0, r.1, stands_at key.setting w b.hold b'.hold g r.0 (other g ne) r.2);
          };
          views = each_set id u H.views (λ j o away f. fits_holds key b b' w w.trims j o turns cells
              (λ g p nz. other g.object (λ e. away (sym p.here ∙ ap w.holder e ∙ turn.here))) up (λ r a t. t) f) own;
        },
      ),
      refl,
    )
  where
    one_tail : (seen n : ℕ) → Contains (seen ∷ []) n → (row : Row) → IsWithin row seen → {m : ℕ} → m ≤ seen → (n ≤ seen) × IsWithin row n
        × (m ≤ n)
    one_tail seen n (zero, l, e) row w {m} le = let same : seen ≡ n = e in (omega arith, subst (IsWithin row) same w, omega arith)
    one_tail seen n (suc i, l, e) row w {m} le = absurd (omega arith)

    some_is : (a n : ℕ) → Some a ≡ Some n → a ≡ n
    some_is a n e = cc

-- so does loading the hold of a row that the pass holds
pub loads_floor : (key : Key) (slots id : ℕ) (v : View) (c : List (ℕ × Slot)) (h : Held) → Contains v.held h → h.object ≢ 0
    → table.Allows (Rule key) slots id (v, c) (3 * h.object + 2) (λ n. n) (SawFloor h v c)
loads_floor key slots id v c h has nz st rule long here fits =
    let w = rule.0 in
    let H = rule.1 in
    let b = board (capacity key) st.words in
    let k = h.object in
    let n = b.hold k in
    let mine : Fits key b w id v = H.views.at id v here in
    let O = HeldOne b.turn w.holder id v.shelves in
    let S = HeldStands key.setting w b.hold in
    let T = TailsFit (length w.log) b.hold v.seen in
    let turn : O h = All-contains O v.held h mine.turns.held has in
    let g' : Held = record h { floor = Some n } in
    let u = saw_floor v h n in
    let cons : (P : Held → Type 0) → P g' → All P v.held
    → All P (g' ∷ without k v.held) = λ P p all. All-cons P g' (without k v.held) p (all_without P P k v.held (λ g ne q. q) all) in
    let own : Fits key b w id u = record {
      tries = tries_saw w.stopped w.takers v.shelves v.reads (Hold k n) tt (λ r g by own is. absurd (cc)) mine.tries;
      turns = record {
        held = cons O (record {
          named = turn.named;
          here = turn.here;
          shelf = turn.shelf;
          one = turn.one;
          busy = turn.busy;
        }) mine.turns.held;
      };
      positions = record { shelves = mine.positions.shelves };
      values = record { held = cons S (All-contains S v.held h mine.values.held has) mine.values.held };
      numbers = record { shelves = mine.numbers.shelves };
      knowledge = record {
        seen = mine.knowledge.seen;
        own = mine.knowledge.own;
        known = mine.knowledge.known;
        tails = cons T (All-contains T v.held h mine.knowledge.tails has) mine.knowledge.tails;
        reads = All-push (ReadFits b.hold) v.reads (Hold k n) mine.knowledge.reads (turn.named, omega arith);
        loaded = mine.knowledge.loaded;
      };
      ring = record {
        floors = cons (FloorFits b.hold)
            (record { exact = λ m e. (some_is n m e, nz); named = λ r i is has none z. absurd (cc) }) mine.ring.floors;
        stored = mine.ring.stored;
        few = mine.ring.few;
        by_holder = elim mine.ring.by_holder [ inl z ↦ inl z | inr o ↦ inr (has_after 0 v h g' refl o) ];
        lows = mine.ring.lows;
      };
      quiet = record { none_live = mine.quiet.none_live };
      carries = record { shelves = mine.carries.shelves };
      owed = mine.owed;
      refusals = record {
        held = cons (DrawsBelow w.draws)
            (commits_same w.draws h g' refl refl refl (All-contains (DrawsBelow w.draws) v.held h mine.refusals.held has))
            mine.refusals.held;
        shelves = mine.refusals.shelves;
      };
    } in (
      u,
      table.keeps,
      tt,
      loads_word key st id (3 * k + 2) u (w, reviews key w st id v u here (λ g o. has_after g v h g' refl o) H own),
      (refl, λ m e. ((All-contains (FloorFits b.hold) v.held h mine.ring.floors has).exact m e).0),
    )
  where
    some_is : (a n : ℕ) → Some a ≡ Some n → a ≡ n
    some_is a n e = cc
