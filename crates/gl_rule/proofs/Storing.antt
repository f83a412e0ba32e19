-- The rule when a word of a cell is stored, a hold or the first segment is raised, and when the stop word is set.
use Rattle.std.proofs.Common.{◌≡◌, ◌≢◌, ℕ, zero, suc, ◌+◌, ◌*◌, ◌%◌, ◌<◌, ◌≤◌, List, [], ◌∷◌, ◌++◌, length, set, sym, refl, ap, subst, arith, ◌∙◌, inl, inr, length-append, mul-le-mul_right}
use Rattle.std.specs.Prelude.{slice_index}
use Rattle.std.proofs.lemmas.List.Elements.{All-contains}
use Rattle.std.proofs.lemmas.Option.{slice_get_within}
use native.Mathlib.Decide.{ℕ_discrete}
use Rattle.atomic_table.specs.Table as table
use Rattle.atomic_table.proofs.Lists.{one_turn}
use Rattle.gl_model.specs.declared.limits.TheConstants.{THREADS, VARIABLES}
use Rattle.gl_rule.specs.declared.slot.Slot.{Slot}
use Rattle.gl_rule.specs.Objects.{Key, Board, board, capacity, objects, cell_at}
use Rattle.gl_rule.specs.View.{View, Held, Shelf, Read, Hold, SetStop, saw, put_word}
use Rattle.gl_rule.specs.World.{World}
use Rattle.gl_rule.specs.Turns.{HeldOne}
use Rattle.gl_rule.specs.Values.{HeldStands}
use Rattle.gl_rule.specs.Knowledge.{TailsFit, ReadFits}
use Rattle.gl_rule.specs.Ring.{RingHolds, FloorFits}
use Rattle.gl_rule.specs.Fitting.{MayStoreWord}
use Rattle.gl_rule.specs.Rule.{Fits, Holds, Rule}
use Rattle.gl_rule.specs.Told.{PutWord, Saw}
use Rattle.gl_rule.proofs.Each.{each_set}
use Rattle.gl_rule.proofs.Loading.{tail_zero}
use Rattle.gl_rule.proofs.Words.{still_long, stop_turns, stop_counts, stop_holds, stop_cells, cell_turns, cell_counts, cell_holds, cell_here, cell_else, cell_stop, stop_here, SameTurns, SameHolds}
use Rattle.gl_rule.proofs.HeldLists.{all_map, both_map}
use Rattle.gl_rule.proofs.Frames.{machine_same, turns_kept, turns_same, stands_at, stands_same, held_at, tail_at, read_at, fits_board, floor_moves, fits_saw, reviews}
use Rattle.gl_rule.proofs.RingFrames.{ring_same}
use Rattle.gl_rule.specs.Tries.{TriesFit}
use Rattle.gl_rule.proofs.Tries.{tries_same, tries_saw, tries_grow}

-- setting the stop word keeps the rule
pub sets_stop : (key : Key) (slots id : ℕ) (v : View) (c : List (ℕ × Slot))
    → table.Allows (Rule key) slots id (v, c) 3075 (λ _. 1) (λ _. Saw SetStop v c)
sets_stop key slots id v c st rule long here fits =
    let n : ℕ = 1 in
    let w = rule.0 in
    let H = rule.1 in
    let cap = capacity key in
    let b = board cap st.words in
    let b' = board cap (set st.words 3075 n) in
    let turns = stop_turns cap st.words H.words n in
    let counts = stop_counts cap st.words H.words n in
    let holds = stop_holds cap st.words H.words n in
    let cells = stop_cells cap st.words H.words n in
    let zero_near : 0 < objects = omega arith in
    let set_to : table.State Slot View = record { words = set st.words 3075 n; homes = st.homes; views = st.views } in
    let u = saw v SetStop in
    let w' : World = record w { stopped = 1 } in
    let least = H.whole.tries.least in
    let up : (shelves : List Shelf) (reads : List Read) → TriesFit w.stopped w.takers shelves reads
    → TriesFit 1 w.takers shelves reads = λ shelves reads f. tries_grow w.stopped 1 w.takers w.takers shelves reads least (omega arith)
    (λ g t q. q) (λ r a g q. q) f in
    let done : Holds key w' set_to = record {
      words = still_long cap st.words 3075 n H.words;
      whole = record {
        tries = record {
          named = λ g t q e. H.whole.tries.named g t q (sym (turns g q) ∙ e);
          word = stop_here cap st.words H.words n;
          least = omega arith;
        };
        turns = record {
          named = λ k q. subst (λ z. z ≤ THREADS) (sym (turns k q)) (H.whole.turns.named k q);
          busy = λ k q nz. H.whole.turns.busy k q (λ z. nz (turns k q ∙ z));
        };
        positions = record {
          count = counts 0 zero_near
              ∙ H.whole.positions.count;
          kept = H.whole.positions.kept;
          few = H.whole.positions.few;
        };
        machine = machine_same key.setting w _ refl refl refl refl H.whole.machine;
        numbers = record {
          counts = λ z q. counts (suc z) (omega arith)
              ∙ H.whole.numbers.counts z q;
          threads = H.whole.numbers.threads;
          few = H.whole.numbers.few;
        };
        verdicts = H.whole.verdicts;
        refused = H.whole.refused;
        ring = ring_same key b b' w.log (holds 0 zero_near) holds cells H.whole.ring;
        low = subst (λ z. Rattle.gl_rule.specs.Ring.LowHolds z w.trims) (sym (holds 0 zero_near)) H.whole.low;
      };
      values = record {
        home = λ k q z. let r = H.values.home k q (sym (turns k q) ∙ z)
            in (r.0, r.1, stands_same key.setting w w.holder w.takers 1 b.hold b'.hold k r.0 (holds k q) r.2);
      };
      views = record {
        at = λ j o e. let f = H.views.at j o e
            in fits_board key b b' w w.holder w.takers 1 j o holds cells (turns_same b.turn b'.turn w.holder j o turns f.turns)
            (up o.shelves o.reads f.tries) f;
      };
    } in (
      u,
      table.keeps,
      tt,
      (
        w',
        reviews key w' set_to id v u here (λ g o. o) done
            (fits_saw key b' w' id v SetStop tt (tries_saw 1 w.takers v.shelves v.reads SetStop refl (λ r g by one is. absurd (cc))
            (done.views.at id v here).tries) (done.views.at id v here)),
      ),
      refl,
    )

-- the element that is put last stands at the old length
last_here : (xs : List ℕ) (x : ℕ) → slice_index (xs ++ x ∷ []) (length xs) ≡ x
last_here [] x = refl
last_here (y ∷ xs) x = last_here xs x

-- what stands in the first of two lists stands there in both together
front_here : (xs ys : List ℕ) (i : ℕ) → i < length xs → slice_index (xs ++ ys) i ≡ slice_index xs i
front_here [] ys i h = absurd (omega arith)
front_here (x ∷ xs) ys zero h = refl
front_here (x ∷ xs) ys (suc i) h = front_here xs ys i (omega arith)

-- a view fits still where no cells change but those of which it says nothing
fits_cells : (key : Key) (b b' : Board) (w : World) (j : ℕ) (v : View) → SameTurns b b' → SameHolds b b'
    → ((i : ℕ) → i < length v.stored → b'.cell (length w.log) i ≡ b.cell (length w.log) i) → Fits key b w j v → Fits key b' w j v
fits_cells key b b' w j v turns holds cells f =
    let O = HeldOne b.turn w.holder j v.shelves in record {
      turns = turns_same b.turn b'.turn w.holder j v turns f.turns;
      tries = f.tries;
      positions = f.positions;
      values = record {
        held = both_map O (HeldStands key.setting w b.hold) (HeldStands key.setting w b'.hold) v.held
            (λ h a s. held_at key.setting w b.hold b'.hold h.drew h.object h.taken (holds h.object a.named) s) f.turns.held f.values.held;
      };
      numbers = f.numbers;
      knowledge = record {
        seen = f.knowledge.seen;
        own = f.knowledge.own;
        known = f.knowledge.known;
        tails = both_map O (TailsFit (length w.log) b.hold v.seen) (TailsFit (length w.log) b'.hold v.seen) v.held
            (λ h a t n q. tail_at (length w.log) v.seen b.hold b'.hold h.object n h.taken (holds h.object a.named) (t n q)) f.turns.held
            f.knowledge.tails;
        reads = all_map (ReadFits b.hold) (ReadFits b'.hold) v.reads (read_at b.hold b'.hold (λ k q. let e = holds k q in omega arith))
            f.knowledge.reads;
        loaded = f.knowledge.loaded;
      };
      ring = record {
        floors = both_map O (FloorFits b.hold) (FloorFits b'.hold) v.held
            (λ h a t. floor_moves b.hold b'.hold h (λ nz. holds h.object a.named) t) f.turns.held f.ring.floors;
        stored = λ i q. cells i q
            ∙ f.ring.stored i q;
        few = f.ring.few;
        by_holder = f.ring.by_holder;
        lows = f.ring.lows;
      };
      quiet = f.quiet;
      refusals = f.refusals;
      carries = f.carries;
      owed = f.owed;
    }

-- storing the next word in the cell of the tail keeps the rule
pub puts_word : (key : Key) (slots id n : ℕ) (v : View) (c : List (ℕ × Slot)) (h : Held) (tail : ℕ) → MayStoreWord key v h tail
    → table.Allows (Rule key) slots id (v, c) (cell_at (capacity key) tail (length v.stored)) (λ _. n) (λ _. PutWord n v c)
puts_word key slots id n v c h tail may st rule long here fits =
    let w = rule.0 in
    let H = rule.1 in
    let cap = capacity key in
    let b = board cap st.words in
    let mine : Fits key b w id v = H.views.at id v here in
    let O = HeldOne b.turn w.holder id v.shelves in
    let T = TailsFit (length w.log) b.hold v.seen in
    let turn : O h = All-contains O v.held h mine.turns.held may.held in
    let tails : T h = All-contains T v.held h mine.knowledge.tails may.held in
    let exact : tail ≡ length w.log = tail_zero (length w.log) v.seen b.hold h.object tail h.taken may.list (tails tail may.saw) in
    let from : ℕ = b.hold 0 * key.cells in
    let low_now : may.low ≤ b.hold 0 = (All-contains (ReadFits b.hold) v.reads (Hold 0 may.low) mine.knowledge.reads may.read).1 in
    let low_from : may.low * key.cells ≤ from = mul-le-mul_right key.cells low_now in
    let room : tail < from + cap = (let a : ℕ = may.low * key.cells in let r : tail < a + cap = may.room in let q : a ≤ from = low_from
    in omega arith) in
    let first : 0 < VARIABLES = omega arith in
    let bottom : from ≤ tail = (let a : from ≤ b.hold 1 = (H.whole.ring.holds 0 first).0 in let q = (H.whole.ring.holds 0 first).1
    in omega arith) in
    let some_cells : 0 < cap = omega arith in
    let i = length v.stored in
    let few : i < 5 = may.few in
    let b' = board cap (set st.words (cell_at cap tail i) n) in
    let turns = cell_turns cap st.words H.words tail i n in
    let counts = cell_counts cap st.words H.words tail i n in
    let holds = cell_holds cap st.words H.words tail i n in
    let zero_near : 0 < objects = omega arith in
    let other : (p j : ℕ) → j < 5 → (p % cap ≡ tail % cap → j ≡ i → ⊥) → b'.cell p j
    ≡ b.cell p j = λ p j q apart. cell_else cap st.words H.words tail i n p j few q apart in
    let hit : b'.cell tail i ≡ n = cell_here cap st.words H.words tail i n some_cells few in
    let ring : RingHolds cap (b'.hold 0 * key.cells) b' w.log =
    subst (λ z. RingHolds cap (z * key.cells) b' w.log) (sym (holds 0 zero_near)) (record {
      cells = λ p j r ge at q.
          let p_in = slice_get_within w.log p r at in
          let ge' : from ≤ p = ge in
          other p j q (λ same _. let z : p ≡ tail = one_turn p tail cap (omega arith) (omega arith) same in omega arith)
          ∙ H.whole.ring.cells p j r ge at q;
      room = H.whole.ring.room;
      holds = λ z q. let r = H.whole.ring.holds z q in let sm = holds (suc z) (omega arith)
          in (subst (λ k. from ≤ k) (sym sm) r.0, subst (λ k. k ≤ length w.log) (sym sm) r.1);
    }) in
    let u = put_word v n in
    let none : (j : ℕ) (o : View) → j ≢ id → Fits key b w j o → (k : ℕ) → k < length o.stored → (Q : Type 0)
    → Q = λ j o away f k q Q. elim f.ring.by_holder [
      | inl z ↦ absurd (let y : length o.stored ≡ 0 = ap length z in omega arith)
      | inr g ↦ absurd (let p : HeldOne b.turn w.holder j o.shelves g.0 =
          All-contains (HeldOne b.turn w.holder j o.shelves) o.held g.0 f.turns.held g.1
          in away (sym p.here ∙ ap w.holder (g.2 ∙ sym may.list) ∙ turn.here))
    ] in
    let stored : (k : ℕ) → k < length (v.stored ++ n ∷ []) → b'.cell (length w.log) k
    ≡ slice_index (v.stored ++ n ∷ []) k = λ k q. elim (ℕ_discrete k i) [
      | yes e ↦ ap (λ z. b'.cell z k) (sym exact) ∙ ap (b'.cell tail) e ∙ hit
          ∙ sym (ap (slice_index (v.stored ++ n ∷ [])) e ∙ last_here v.stored n)
      | no ne ↦
          (let l = length-append v.stored (n ∷ []) in
          let near : k < i = omega arith in
          let five : k < 5 = omega arith in
          other (length w.log) k five (λ _ e. ne e) ∙ mine.ring.stored k near ∙ sym (front_here v.stored (n ∷ []) k near))
    ] in
    let still : Fits key b' w id (record v { stored = [] }) =
    fits_cells key b b' w id (record v { stored = [] }) turns holds (λ k q. absurd (omega arith)) (record {
      turns = record { held = mine.turns.held };
      tries = mine.tries;
      positions = record { shelves = mine.positions.shelves };
      values = record { held = mine.values.held };
      numbers = record { shelves = mine.numbers.shelves };
      knowledge = record {
        seen = mine.knowledge.seen;
        own = mine.knowledge.own;
        known = mine.knowledge.known;
        tails = mine.knowledge.tails;
        reads = mine.knowledge.reads;
        loaded = mine.knowledge.loaded;
      };
      ring = record {
        floors = mine.ring.floors;
        stored = λ k q. absurd (omega arith);
        few = omega arith;
        by_holder = inl refl;
        lows = mine.ring.lows;
      };
      quiet = record { none_live = mine.quiet.none_live };
      refusals = record { held = mine.refusals.held; shelves = mine.refusals.shelves };
      carries = record { shelves = mine.carries.shelves };
      owed = mine.owed;
    }) in
    let own : Fits key b' w id u = record {
      turns = record { held = still.turns.held };
      tries = still.tries;
      positions = record { shelves = still.positions.shelves };
      values = record { held = still.values.held };
      numbers = record { shelves = still.numbers.shelves };
      knowledge = record {
        seen = still.knowledge.seen;
        own = still.knowledge.own;
        known = still.knowledge.known;
        tails = still.knowledge.tails;
        reads = still.knowledge.reads;
        loaded = still.knowledge.loaded;
      };
      ring = record {
        floors = still.ring.floors;
        stored = stored;
        few = (let l = length-append v.stored (n ∷ []) in omega arith);
        by_holder = inr (h, may.held, may.list);
        lows = still.ring.lows;
      };
      quiet = record { none_live = still.quiet.none_live };
      refusals = record { held = still.refusals.held; shelves = still.refusals.shelves };
      carries = record { shelves = still.carries.shelves };
      owed = still.owed;
    } in (
      u,
      table.keeps,
      tt,
      (
        w,
        record {
          words = still_long cap st.words (cell_at cap tail i) n H.words;
          whole = record {
            turns = turns_kept b.turn b'.turn w.holder id st.views v u here turns (λ k o. o) H.whole.turns;
            tries = tries_same b b' w.stopped w.takers turns (cell_stop cap st.words H.words tail i n) H.whole.tries;
            positions = record {
              count = counts 0 zero_near
                  ∙ H.whole.positions.count;
              kept = H.whole.positions.kept;
              few = H.whole.positions.few;
            };
            machine = machine_same key.setting w _ refl refl refl refl H.whole.machine;
            numbers = record {
              counts = λ z q. counts (suc z) (omega arith)
                  ∙ H.whole.numbers.counts z q;
              threads = H.whole.numbers.threads;
              few = H.whole.numbers.few;
            };
            verdicts = H.whole.verdicts;
            refused = H.whole.refused;
            ring = ring;
            low = subst (λ z. Rattle.gl_rule.specs.Ring.LowHolds z w.trims) (sym (holds 0 zero_near)) H.whole.low;
          };
          values = record {
            home = λ k q z. let r = H.values.home k q (sym (turns k q) ∙ z)
                in (r.0, r.1, stands_at key.setting w b.hold b'.hold k r.0 (holds k q) r.2);
          };
          views = each_set id u H.views (λ j o away f. fits_cells key b b' w j o turns holds
              (λ k q. none j o away f k q (b'.cell (length w.log) k ≡ b.cell (length w.log) k)) f) own;
        },
      ),
      refl,
    )
