-- The rule when an object's turn is taken, and when the object is put back.
use Rattle.std.proofs.Common.{◌≡◌, ◌≢◌, ℕ, zero, suc, ◌+◌, ◌-◌, ◌*◌, ◌<◌, ◌≤◌, ◌==◌, List, [], ◌∷◌, length, set, sym, refl, ap, subst, arith, ◌∙◌, inl, inr, true, Bool}
use Rattle.std.specs.Prelude.{Contains, if◌then◌else◌}
use Rattle.std.proofs.lemmas.List.Elements.{All-cons, All-contains, All-push}
use native.Mathlib.Decide.{ℕ_discrete}
use mathlib.Core.Option.{some, none, some-injective}
use lib.ListN.{get_elem?}
use prog.Atomic.{either}
use Rattle.atomic_table.specs.Table as table
use Rattle.atomic_table.proofs.Lists.{set_here, set_else, exchanged}
use Rattle.gl_model.specs.declared.limits.TheConstants.{THREADS}
use Rattle.gl_model.specs.declared.row.Info.{Info}
use Rattle.gl_model.specs.declared.row.Row.{Row}
use Rattle.gl_model.specs.Machine.{Setting, with_at}
use Rattle.gl_draws.proofs.DrawTies.{with_here, with_else}
use Rattle.gl_rule.specs.declared.slot.Slot.{Slot}
use Rattle.gl_rule.specs.Objects.{Key, Board, board, capacity, objects}
use Rattle.gl_rule.specs.View.{View, Held, Shelf, HasObject, Busy, Taken, new_held, took, refused, left, without}
use Rattle.gl_rule.specs.Turns.{HeldOne}
use Rattle.gl_rule.specs.Tries.{TriesFit}
use Rattle.gl_rule.specs.Positions.{ShelfFits}
use Rattle.gl_rule.specs.Values.{InRow, Stands, HeldStands}
use Rattle.gl_rule.specs.Knowledge.{TailsFit, ReadFits}
use Rattle.gl_rule.specs.Ring.{FloorFits}
use Rattle.gl_rule.specs.Fitting.{MayLeave, SaysQuiet}
use Rattle.gl_rule.specs.Rule.{Fits, Rule, Whole}
use Rattle.gl_rule.specs.World.{World}
use Rattle.gl_rule.specs.Taken.{TakenTold}
use Rattle.gl_rule.specs.declared.slot.Slot.TheVariants as slot
use Rattle.gl_rule.specs.Told.{Took, Left}
use Rattle.gl_rule.proofs.Each.{each_set}
use Rattle.gl_rule.proofs.Words.{still_long, turn_here, turn_else, turn_counts, turn_holds, turn_cells, turn_stop}
use Rattle.gl_rule.proofs.HeldLists.{all_map, in_cons, in_without, only_shelf}
use Rattle.gl_rule.proofs.Frames.{machine_same, turns_step, stands_at, stands_same, stands_held, held_same, fits_board, fits_saw, reviews, loads_word}
use Rattle.gl_rule.proofs.Tries.{taker, taker_more, taker_here, taker_cases, tries_grow, tries_saw, tries_took}
use Rattle.gl_rule.proofs.FittingLaws.{leave_stands}

-- no Info of a row at home lies below its hold
home_above : (setting : Setting) (w : World) (hold : ℕ → ℕ) (k : ℕ) (y : Slot) (row : Row) (i : Info) → y ≡ slot.Row row → k ≢ 0
    → Stands setting w hold k y → InRow row i → hold k ≤ i.pos
home_above setting w hold zero y row i is nz st has = absurd (nz refl)
home_above setting w hold (suc x) (slot.Row r) row i is nz st has = let same : r ≡ row = cc
    in st.1.at i (subst (λ z. InRow z i) (sym same) has)
home_above setting w hold (suc x) (slot.List l) row i is nz st has = absurd st
home_above setting w hold (suc x) slot.Empty row i is nz st has = absurd st

-- the object that was at home is what is told
taken_told : (key : Key) (w : World) (id : ℕ) (v : View) (s : Shelf) (hold : ℕ → ℕ) (b : Board) {views : List View} → Whole key b w views
    → v.shelves ≡ s ∷ [] → ShelfFits w.log w.seat id s → Fits key b w id v → (k : ℕ) (y : Slot) → Stands key.setting w hold k y
    → TakenTold key.setting v k y
taken_told key w id v s hold b whole one f mine zero (slot.List l) st =
    record {
      log = w.log;
      now = w.now;
      allowed = whole.machine.allowed;
      is = st;
      shelf = s;
      one = one;
      named = f.named;
      own = f.events;
      later = mine.knowledge.seen;
      known = mine.knowledge.known;
      few = whole.positions.few;
    }
taken_told key w id v s hold b whole one f mine zero slot.Empty st = absurd st
taken_told key w id v s hold b whole one f mine zero (slot.Row row) st = absurd st
taken_told key w id v s hold b whole one f mine (suc x) (slot.Row row) st = tt
taken_told key w id v s hold b whole one f mine (suc x) slot.Empty st = absurd st
taken_told key w id v s hold b whole one f mine (suc x) (slot.List l) st = absurd st

-- taking a turn keeps the rule
pub takes_turn : (key : Key) (slots id k : ℕ) (v : View) (c : List (ℕ × Slot)) (s : Shelf) → k < objects → v.shelves ≡ s ∷ []
    → (HasObject v k → ⊥)
    → table.Allows (Rule key) slots id (v, c) (3 * k + 1) (λ n. either (n == 0) (s.thread + 1) n) (Took key.setting k v c)
takes_turn key slots id k v c s near one unheld st rule long here fits =
    let w = rule.0 in
    let H = rule.1 in
    let cap = capacity key in
    let b = board cap st.words in
    let n = b.turn k in
    let mine : Fits key b w id v = H.views.at id v here in
    let shelf : ShelfFits w.log w.seat id s = only_shelf (ShelfFits w.log w.seat id) v s one mine.positions.shelves in
    let F : ℕ → Type 0 = λ m. (u : View) × (a : table.Act Slot) × table.Valid st.homes c a
    × Rule key (table.stepped st (3 * k + 1) m id c u a) × Took key.setting k v c n (u, table.carried_after c a) in
    exchanged n 0 (s.thread + 1) F
    (λ free.
    let y = (H.values.home k near free).0 in
    let at_home = (H.values.home k near free).1 in
    let stands : Stands key.setting w b.hold k y = (H.values.home k near free).2 in
    let u = took v k y in
    let words' = set st.words (3 * k + 1) (s.thread + 1) in
    let b' = board cap words' in
    let holder' : ℕ → ℕ = with_at w.holder k id in
    let takers' : ℕ → List ℕ = taker w.takers k s.thread in
    let w1 : World = record w { holder = holder' } in
    let w' : World = record w { holder = holder'; takers = takers' } in
    let few = H.whole.tries.least in
    let hh : b'.turn k ≡ s.thread + 1 = turn_here cap st.words H.words k near (s.thread + 1) in
    let other : (y : ℕ) → y ≢ k → b'.turn y ≡ b.turn y = turn_else cap st.words H.words k near (s.thread + 1) in
    let holds = turn_holds cap st.words H.words k near (s.thread + 1) in
    let cells = turn_cells cap st.words H.words k near (s.thread + 1) in
    let busy_not : (g : ℕ) (m : ℕ) → b.turn g ≡ m + 1 → g ≢ k = λ g m p e. let z : b.turn g ≡ 0 = ap b.turn e ∙ free
    in absurd (omega arith) in
    let moves : (j : ℕ) (l : List Shelf) (g : Held) → HeldOne b.turn w.holder j l g → HeldOne b'.turn holder' j l g = λ j l g p.
    let ne = busy_not g.object p.shelf.thread p.busy in
    record {
      named = p.named;
      here = with_else w.holder k g.object id ne ∙ p.here;
      shelf = p.shelf;
      one = p.one;
      busy = other g.object ne
          ∙ p.busy;
    } in
    let still : Fits key b' w1 id v = fits_board key b b' w holder' w.takers w.stopped id v holds cells
    (record {
      held = all_map (HeldOne b.turn w.holder id v.shelves) (HeldOne b'.turn holder' id v.shelves) v.held (moves id v.shelves)
          mine.turns.held;
    }) mine.tries mine in
    let others : (j : ℕ) (o : View) → j ≢ id → Fits key b w j o → TriesFit w.stopped takers' o.shelves o.reads = λ j o apart f.
    tries_grow w.stopped w.stopped w.takers takers' o.shelves o.reads (omega arith) few (taker_more w.takers k s.thread)
    (λ r has g c. elim (taker_cases w.takers k s.thread g r.thread c) [
      | inl old ↦ old
      | inr hit ↦ absurd (let a : ShelfFits w.log w.seat j r = All-contains (ShelfFits w.log w.seat j) o.shelves r f.positions.shelves has
          in apart (sym a.here ∙ ap w.seat (sym hit.1) ∙ shelf.here))
    ]) f.tries in
    let h = new_held k y in (
      u,
      table.takes k y,
      at_home,
      (
        w',
        record {
          words = still_long cap st.words (3 * k + 1) (s.thread + 1) H.words;
          whole = record {
            turns = turns_step b.turn b'.turn w.holder holder' id st.views v u here
                (λ g m. elim (ℕ_discrete g k) [
                  | yes e ↦ subst (λ z. z ≤ THREADS) (sym (ap b'.turn e ∙ hh)) (let t = shelf.named in omega arith)
                  | no ne ↦ subst (λ z. z ≤ THREADS) (sym (other g ne)) (H.whole.turns.named g m)
                ])
                (λ g m nz. elim (ℕ_discrete g k) [
                  | yes e ↦ inl (ap holder' e ∙ with_here w.holder k id, (h, (zero, omega arith, refl), sym e))
                  | no ne ↦ inr (with_else w.holder k g id ne, (λ z. nz (other g ne ∙ z)), λ o. (o.0, in_cons h v.held o.0 o.1, o.2))
                ])
                H.whole.turns;
            tries = record {
              named = λ g t q e. elim (ℕ_discrete g k) [
                | yes is ↦ (let a : suc t ≡ s.thread + 1 = sym e ∙ ap b'.turn is ∙ hh in let same : s.thread ≡ t = omega arith
                    in subst (λ z. Contains (takers' z) t) (sym is)
                    (subst (λ z. Contains (takers' k) z) same (taker_here w.takers k s.thread)))
                | no ne ↦ taker_more w.takers k s.thread g t (H.whole.tries.named g t q (sym (other g ne) ∙ e))
              ];
              word = turn_stop cap st.words H.words k near (s.thread + 1) ∙ H.whole.tries.word;
              least = few;
            };
            positions = record {
              count = turn_counts cap st.words H.words k near (s.thread + 1) 0 (omega arith)
                  ∙ H.whole.positions.count;
              kept = H.whole.positions.kept;
              few = H.whole.positions.few;
            };
            machine = machine_same key.setting w _ refl refl refl refl H.whole.machine;
            numbers = record {
              counts = λ x m. turn_counts cap st.words H.words k near (s.thread + 1) (suc x) (omega arith)
                  ∙ H.whole.numbers.counts x m;
              threads = H.whole.numbers.threads;
              few = H.whole.numbers.few;
            };
            verdicts = H.whole.verdicts;
            refused = H.whole.refused;
            ring = Rattle.gl_rule.proofs.RingFrames.ring_same key b b' w.log (holds 0 (omega arith)) holds cells H.whole.ring;
            low = subst (λ z. Rattle.gl_rule.specs.Ring.LowHolds z w.trims) (sym (holds 0 (omega arith))) H.whole.low;
          };
          values = record {
            home = λ g m z.
                let ne : g ≢ k = λ e. let q : b'.turn g ≡ s.thread + 1 = ap b'.turn e ∙ hh in absurd (omega arith) in
                let q = H.values.home g m (sym (other g ne) ∙ z) in (
                  q.0,
                  set_else st.homes k g none ne ∙ q.1,
                  stands_same key.setting w holder' takers' w.stopped b.hold b'.hold g q.0
                      (holds g m) q.2,
                );
          };
          views = each_set id u H.views
              (λ j o apart f. fits_board key b b' w holder' takers' w.stopped j o holds cells
              (record {
                held = all_map (HeldOne b.turn w.holder j o.shelves) (HeldOne b'.turn holder' j o.shelves) o.held
                    (moves j o.shelves) f.turns.held;
              }) (others j o apart f) f)
              (record {
                tries = tries_took w.stopped w.takers v s k y one few mine.tries;
                turns = record {
                  held = All-cons (HeldOne b'.turn holder' id v.shelves) h v.held
                      (record { named = near; here = with_here w.holder k id; shelf = s; one = one; busy = hh }) still.turns.held;
                };
                positions = record { shelves = still.positions.shelves };
                values = record {
                  held = All-cons (HeldStands key.setting w' b'.hold) h v.held
                      (stands_held key.setting w' b'.hold k y (stands_same key.setting w holder' takers' w.stopped b.hold b'.hold k y
                      (holds k near) stands))
                      (all_map (HeldStands key.setting w1 b'.hold) (HeldStands key.setting w' b'.hold) v.held
                      (λ g q. held_same key.setting w1 holder' takers' w.stopped b'.hold b'.hold g.drew g.object g.taken refl q)
                      still.values.held);
                };
                numbers = record { shelves = still.numbers.shelves };
                knowledge = record {
                  seen = still.knowledge.seen;
                  own = still.knowledge.own;
                  known = still.knowledge.known;
                  tails = All-cons (TailsFit (length w.log) b'.hold v.seen) h v.held (λ m d. absurd (let l = d.1 in omega arith))
                      still.knowledge.tails;
                  reads = All-push (ReadFits b'.hold) v.reads (Taken k y) still.knowledge.reads tt;
                  loaded = still.knowledge.loaded;
                };
                ring = record {
                  floors = All-cons (FloorFits b'.hold) h v.held
                      (record {
                        exact = λ m e. absurd (cc);
                        named =
                            λ row i is has none nz. subst (λ m. m ≤ i.pos) (sym (holds k near))
                            (home_above key.setting w b.hold k y row i is nz stands has);
                      }) still.ring.floors;
                  stored = still.ring.stored;
                  few = still.ring.few;
                  by_holder = elim still.ring.by_holder [ inl e ↦ inl e | inr o ↦ inr (o.0, in_cons h v.held o.0 o.1, o.2) ];
                  lows = still.ring.lows;
                };
                quiet = record { none_live = still.quiet.none_live };
                carries = record { shelves = still.carries.shelves };
                owed = still.owed;
                refusals = record {
                  held = All-cons (Rattle.gl_rule.specs.Refusals.DrawsBelow w.draws) h v.held
                      (Rattle.gl_rule.proofs.Refusing.commits_new w.draws k y) still.refusals.held;
                  shelves = still.refusals.shelves;
                };
              });
        },
      ),
      inl (free, (y, refl, taken_told key w id v s b.hold b H.whole one shelf mine k y stands)),
    ))
    (λ busy.
    let who = H.whole.turns.busy k near busy in
    let theirs : Fits key b w (w.holder k) who.0 = H.views.at (w.holder k) who.0 who.1 in
    let has : HasObject who.0 k = who.2 in
    let P : Held → Type 0 = HeldOne b.turn w.holder (w.holder k) who.0.shelves in
    let p : P has.0 = All-contains P who.0.held has.0 theirs.turns.held has.1 in
    let its : ShelfFits w.log w.seat (w.holder k) p.shelf =
    only_shelf (ShelfFits w.log w.seat (w.holder k)) who.0 p.shelf p.one theirs.positions.shelves in
    let at : n ≡ p.shelf.thread + 1 = ap b.turn (sym has.2) ∙ p.busy in
    let by : n - 1 ≡ p.shelf.thread = omega arith in
    let next : n ≡ suc (n - 1) = omega arith in
    let taken : Contains (w.takers k) (n - 1) = H.whole.tries.named k (n - 1) near next in
    let not_own : (r : Shelf) → v.shelves ≡ r ∷ [] → n - 1 ≢ r.thread = λ r is same.
    let mine_r : ShelfFits w.log w.seat id r = only_shelf (ShelfFits w.log w.seat id) v r is mine.positions.shelves in
    let e : w.holder k ≡ id = sym its.here ∙ ap w.seat (sym by ∙ same) ∙ mine_r.here in
    unheld (subst (λ o. HasObject o k) (sym (some-injective v who.0 (sym here ∙ ap (get_elem? st.views) (sym e) ∙ who.1))) has) in
    let r : Rule key (record { words = st.words; homes = st.homes; views = set st.views id (refused v k (n - 1)) }) = (
      w,
      reviews key w st id v (refused v k (n - 1)) here (λ g o. o) H
          (fits_saw key b w id v (Busy k (n - 1)) tt
          (tries_saw w.stopped w.takers v.shelves v.reads (Busy k (n - 1)) taken
          (λ r g by is e. (let a : n - 1 ≡ by = busy_by k (n - 1) g by e in subst (λ z. z ≢ r.thread) a (not_own r is))) mine.tries) mine),
    ) in (
      refused v k (n - 1),
      table.keeps,
      tt,
      loads_word key st id (3 * k + 1) (refused v k (n - 1)) r,
      inr
          (busy, H.whole.turns.named k near, refl, not_own),
    ))
  where
    busy_by : (k a g c : ℕ) → Busy k a ≡ Busy g c → a ≡ c
    busy_by k a g c e = cc

-- putting an object back keeps the rule
pub leaves_turn : (key : Key) (slots id : ℕ) (v : View) (c : List (ℕ × Slot)) (s : Shelf) (h : Held) (y : Slot) (q : Bool)
    → objects ≤ slots → v.shelves ≡ s ∷ [] → Contains v.held h → MayLeave key.setting s v h y → (q ≡ true → SaysQuiet h.object h.taken)
    → table.Allows (Rule key) slots id (v, (h.object, y) ∷ c) (3 * h.object + 1) (λ _. 0) (λ _. Left h.object q v ((h.object, y) ∷ c))
leaves_turn key slots id v c s h y q many one has may quiet st rule long here fits =
    let w = rule.0 in
    let H = rule.1 in
    let cap = capacity key in
    let k = h.object in
    let b = board cap st.words in
    let mine : Fits key b w id v = H.views.at id v here in
    let turn : HeldOne b.turn w.holder id v.shelves h = All-contains (HeldOne b.turn w.holder id v.shelves) v.held h mine.turns.held has in
    let near = turn.named in
    let shelf : ShelfFits w.log w.seat id s = only_shelf (ShelfFits w.log w.seat id) v s one mine.positions.shelves in
    let held : HeldStands key.setting w b.hold h = All-contains (HeldStands key.setting w b.hold) v.held h mine.values.held has in
    let tails : TailsFit (length w.log) b.hold v.seen h =
    All-contains (TailsFit (length w.log) b.hold v.seen) v.held h mine.knowledge.tails has in
    let stands : Stands key.setting w b.hold k y =
    leave_stands key.setting w w.seat id s v b.hold h k h.taken y
    (record { now = w.now; allowed = H.whole.machine.allowed; one = one; shelf = shelf; knowledge = mine.knowledge }) may held tails in
    let u = left v k q in
    let words' = set st.words (3 * k + 1) 0 in
    let b' = board cap words' in
    let homes' = set st.homes k (some y) in
    let other : (g : ℕ) → g ≢ k → b'.turn g ≡ b.turn g = turn_else cap st.words H.words k near 0 in
    let hh : b'.turn k ≡ 0 = turn_here cap st.words H.words k near 0 in
    let holds = turn_holds cap st.words H.words k near 0 in
    let cells = turn_cells cap st.words H.words k near 0 in
    let moves : (j : ℕ) (l : List Shelf) (g : Held) → g.object ≢ k → HeldOne b.turn w.holder j l g
    → HeldOne b'.turn w.holder j l g = λ j l g ne p. record {
      named = p.named;
      here = p.here;
      shelf = p.shelf;
      one = p.one;
      busy = other g.object ne ∙ p.busy;
    } in
    let still : Fits key b' w id (record v { held = without k v.held; stored = if k == 0 then [] else v.stored }) =
    Rattle.gl_rule.proofs.RingFrames.fits_without key b b' w id k v holds cells (moves id v.shelves) mine in
    let home : (g : ℕ) → g < objects → b'.turn g ≡ 0 → Dec (g ≡ k) → (r : Slot) × (get_elem? homes' g ≡ some (some r))
    × Stands key.setting w b'.hold g r = λ g m z d. elim d [
      | yes e ↦ (
        y,
        ap (get_elem? homes') e ∙ set_here st.homes k (some y) (omega arith),
        subst (λ i. Stands key.setting w b'.hold i y)
            (sym e) (stands_at key.setting w b.hold b'.hold k y (holds k near) stands),
      )
      | no ne ↦ (let r = H.values.home g m (sym (other g ne) ∙ z)
          in (r.0, set_else st.homes k g (some y) ne ∙ r.1, stands_at key.setting w b.hold b'.hold g r.0 (holds g m) r.2))
    ] in (
      u,
      table.gives,
      tt,
      (
        w,
        record {
          words = still_long cap st.words (3 * k + 1) 0 H.words;
          whole = record {
            turns = turns_step b.turn b'.turn w.holder w.holder id st.views v u here
                (λ g m. elim (ℕ_discrete g k) [
                  | yes e ↦ subst (λ z. z ≤ THREADS) (sym (ap b'.turn e ∙ hh)) (omega arith)
                  | no ne ↦ subst (λ z. z ≤ THREADS) (sym (other g ne)) (H.whole.turns.named g m)
                ])
                (λ g m nz. elim (ℕ_discrete g k) [
                  | yes e ↦ absurd (nz (ap b'.turn e ∙ hh))
                  | no ne ↦ inr (refl, (λ z. nz (other g ne ∙ z)), λ o. (o.0, in_without k v.held o.0 (λ e. ne (sym o.2 ∙ e)) o.1, o.2))
                ])
                H.whole.turns;
            tries = record {
              named = λ g t q e. elim (ℕ_discrete g k) [
                | yes is ↦ absurd (let a : suc t ≡ 0 = sym e ∙ ap b'.turn is ∙ hh in omega arith)
                | no ne ↦ H.whole.tries.named g t q (sym (other g ne) ∙ e)
              ];
              word = turn_stop cap st.words H.words k near 0 ∙ H.whole.tries.word;
              least = H.whole.tries.least;
            };
            positions = record {
              count = turn_counts cap st.words H.words k near 0 0 (omega arith)
                  ∙ H.whole.positions.count;
              kept = H.whole.positions.kept;
              few = H.whole.positions.few;
            };
            machine = machine_same key.setting w _ refl refl refl refl H.whole.machine;
            numbers = record {
              counts = λ x m. turn_counts cap st.words H.words k near 0 (suc x) (omega arith)
                  ∙ H.whole.numbers.counts x m;
              threads = H.whole.numbers.threads;
              few = H.whole.numbers.few;
            };
            verdicts = H.whole.verdicts;
            refused = H.whole.refused;
            ring = Rattle.gl_rule.proofs.RingFrames.ring_same key b b' w.log (holds 0 (omega arith)) holds cells H.whole.ring;
            low = subst (λ z. Rattle.gl_rule.specs.Ring.LowHolds z w.trims) (sym (holds 0 (omega arith))) H.whole.low;
          };
          values = record { home = λ g m z. home g m z (ℕ_discrete g k) };
          views = each_set id u H.views
              (λ j o apart f. fits_board key b b' w w.holder w.takers w.stopped j o holds cells
              (record {
                held = all_map (HeldOne b.turn w.holder j o.shelves) (HeldOne b'.turn w.holder j o.shelves) o.held
                    (λ g p. moves j o.shelves g (λ e. apart (sym p.here ∙ ap w.holder e ∙ turn.here)) p) f.turns.held;
              }) f.tries f)
              (record {
                turns = record { held = still.turns.held };
                tries = still.tries;
                positions = record { shelves = still.positions.shelves };
                values = record { held = still.values.held };
                numbers = record { shelves = still.numbers.shelves };
                knowledge = record {
                  seen = still.knowledge.seen;
                  own = still.knowledge.own;
                  known = still.knowledge.known;
                  tails = still.knowledge.tails;
                  reads = still.knowledge.reads;
                  loaded = still.knowledge.loaded;
                };
                ring = Rattle.gl_rule.proofs.RingFrames.ring_left b' w.log w.trims v k q still.ring;
                quiet = Rattle.gl_rule.proofs.RingFrames.quiet_left key.setting w b.hold h v q
                    (λ e. Rattle.gl_rule.proofs.RingFrames.says_quiet key.setting w b.hold h.drew h.object h.taken (quiet e) held)
                    mine.quiet;
                carries = record { shelves = still.carries.shelves };
                owed = still.owed;
                refusals = record { held = still.refusals.held; shelves = still.refusals.shelves };
              });
        },
      ),
      refl,
    )
