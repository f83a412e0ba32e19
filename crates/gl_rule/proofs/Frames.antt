-- What a step leaves as it is.
use Rattle.std.proofs.Common.{◌≡◌, ◌≢◌, ℕ, zero, suc, ◌<◌, ◌≤◌, List, [], ◌∷◌, ◌++◌, length, set, sym, refl, ap, subst, arith, ◌∙◌, inl, inr, None}
use Rattle.std.specs.Prelude.{◌⊎◌, Option}
use Rattle.std.specs.List.{All}
use Rattle.std.proofs.lemmas.List.Elements.{All-push}
use native.Mathlib.Decide.{ℕ_discrete}
use mathlib.Core.Option.{some, some-injective}
use lib.ListN.{get_elem?}
use Rattle.atomic_table.specs.Table as table
use Rattle.atomic_table.proofs.Lists.{set_here, set_else}
use Rattle.gl_model.specs.declared.limits.TheConstants.{THREADS}
use Rattle.gl_model.specs.Machine.{Setting, State}
use Rattle.gl_draws.specs.Draws.{Draw}
use Rattle.gl_rule.specs.declared.slot.Slot.{Slot}
use Rattle.gl_rule.specs.declared.slot.Slot.TheVariants as slot
use Rattle.gl_rule.specs.Objects.{Key, Board, board, capacity, objects}
use Rattle.gl_rule.specs.View.{View, Held, HasObject, Read, Busy, Taken, Hold, Stop, SetStop, saw}
use Rattle.gl_rule.specs.World.{World}
use Rattle.gl_rule.specs.Turns.{HeldOne, TurnsFit, TurnsHold}
use Rattle.gl_rule.specs.Tries.{TriesFit}
use Rattle.gl_rule.specs.Values.{IsAbove, Stands, StandsHeld, HeldStands}
use Rattle.gl_rule.specs.Knowledge.{TailFits, TailsFit, ReadFits}
use Rattle.gl_rule.specs.Ring.{FloorFits}
use Rattle.gl_rule.specs.Machine.{MachineHolds}
use Rattle.gl_rule.specs.Rule.{Fits, Holds, Rule}
use Rattle.gl_rule.proofs.Each.{each_set, at_within}
use Rattle.gl_rule.proofs.Words.{SameHolds, SameCells, set_same}
use Rattle.gl_rule.proofs.HeldLists.{all_map, both_map}

-- what is said of the machine holds still where the events, their values and the states stay
pub machine_same : (setting : Setting) (w w' : World) → w'.log ≡ w.log → w'.now ≡ w.now → w'.values ≡ w.values → w'.states ≡ w.states
    → MachineHolds setting w → MachineHolds setting w'
machine_same setting w w' a b c d m = record {
  allowed = subst (λ l. Rattle.gl_model.specs.Machine.Allows setting l w'.now) (sym a)
      (subst (λ n. Rattle.gl_model.specs.Machine.Allows setting w.log n) (sym b) m.allowed);
  first = ap (λ f. f 0) d ∙ m.first;
  last = ap (λ f. f (length w'.log)) d ∙ ap (λ l. w.states (length l)) a ∙ m.last ∙ sym b;
  steps = λ p x at. let s = m.steps p x (subst (λ l. Rattle.gl_model.specs.Edges.EventAt l p x) a at)
      in subst (λ f. Rattle.gl_model.specs.Machine.Step setting (f p) x (w'.values p) (f (suc p))) (sym d)
      (subst (λ f. Rattle.gl_model.specs.Machine.Step setting (w.states p) x (f p) (w.states (suc p))) (sym c) s);
}

-- the turns of the whole table hold when one seat's view changes, where each busy turn is held by that seat, or by whom it was
pub turns_step : (turn turn' holder holder' : ℕ → ℕ) (id : ℕ) (views : List View) (v u : View) → get_elem? views id ≡ some v
    → ((k : ℕ) → k < objects → turn' k ≤ THREADS)
    → ((k : ℕ) → k < objects → turn' k ≢ 0 → ((holder' k ≡ id) × HasObject u k)
    ⊎ ((holder' k ≡ holder k) × (turn k ≢ 0) × (HasObject v k → HasObject u k)))
    → TurnsHold turn holder views → TurnsHold turn' holder' (set views id u)
turns_step turn turn' holder holder' id views v u here named step p =
    record { named = named; busy = λ k near nz. by k near (step k near nz) }
  where
    at_id : (k : ℕ) → holder' k ≡ id → HasObject u k → (o : View) × (get_elem? (set views id u) (holder' k) ≡ some o) × HasObject o k
    at_id k e has = (u, ap (get_elem? (set views id u)) e ∙ set_here views id u (at_within views id v here), has)

    by : (k : ℕ) → k < objects → ((holder' k ≡ id) × HasObject u k)
        ⊎ ((holder' k ≡ holder k) × (turn k ≢ 0) × (HasObject v k → HasObject u k)) → (o : View)
        × (get_elem? (set views id u) (holder' k) ≡ some o) × HasObject o k
    by k near (inl a) = at_id k a.0 a.1
    by k near (inr a) =
        let b = p.busy k near a.1 in elim (ℕ_discrete (holder k) id) [
          | yes e ↦ (let same : v ≡ b.0 = some-injective v b.0 (sym here ∙ ap (get_elem? views) (sym e) ∙ b.1)
              in at_id k (a.0 ∙ e) (a.2 (subst (λ o. HasObject o k) (sym same) b.2)))
          | no ne ↦ (b.0, ap (get_elem? (set views id u)) a.0 ∙ set_else views id (holder k) u ne ∙ b.1, b.2)
        ]

-- turns of the whole table stay where the new view holds what the old one did
pub turns_kept : (turn turn' holder : ℕ → ℕ) (id : ℕ) (views : List View) (v u : View) → get_elem? views id ≡ some v
    → ((k : ℕ) → k < objects → turn' k ≡ turn k) → ((k : ℕ) → HasObject v k → HasObject u k) → TurnsHold turn holder views
    → TurnsHold turn' holder (set views id u)
turns_kept turn turn' holder id views v u here same keeps p =
    turns_step turn turn' holder holder id views v u here (λ k near. subst (λ n. n ≤ THREADS) (sym (same k near)) (p.named k near))
    (λ k near nz. inr (refl, (λ z. nz (same k near ∙ z)), keeps k)) p

-- an object's value at home stands by its own hold alone
pub stands_at : (setting : Setting) (w : World) (hold hold' : ℕ → ℕ) (k : ℕ) (y : Slot) → hold' k ≡ hold k → Stands setting w hold k y
    → Stands setting w hold' k y
stands_at setting w hold hold' zero (slot.List l) e s = s
stands_at setting w hold hold' (suc x) (slot.Row row) e s = (s.0, subst (IsAbove row) (sym e) s.1)
stands_at setting w hold hold' zero slot.Empty e s = absurd s
stands_at setting w hold hold' zero (slot.Row r) e s = absurd s
stands_at setting w hold hold' (suc x) slot.Empty e s = absurd s
stands_at setting w hold hold' (suc x) (slot.List l) e s = absurd s

-- a held object's value stands by its own hold alone
pub held_at : (setting : Setting) (w : World) (hold hold' : ℕ → ℕ) (drew : Option Draw) (k : ℕ) (y : Slot) → hold' k ≡ hold k
    → StandsHeld setting w hold drew k y → StandsHeld setting w hold' drew k y
held_at setting w hold hold' drew zero (slot.List l) e s = s
held_at setting w hold hold' drew (suc x) (slot.Row row) e s = (s.0, subst (IsAbove row) (sym e) s.1)
held_at setting w hold hold' drew zero slot.Empty e s = absurd s
held_at setting w hold hold' drew zero (slot.Row r) e s = absurd s
held_at setting w hold hold' drew (suc x) slot.Empty e s = absurd s
held_at setting w hold hold' drew (suc x) (slot.List l) e s = absurd s

-- so does what its tails say
pub tail_at : (long seen : ℕ) (hold hold' : ℕ → ℕ) (k n : ℕ) (y : Slot) → hold' k ≡ hold k → TailFits long hold seen k y n
    → TailFits long hold' seen k y n
tail_at long seen hold hold' zero n y e s = s
tail_at long seen hold hold' (suc x) n (slot.Row row) e s = (s.0, s.1, subst (λ m. m ≤ n) (sym e) s.2)
tail_at long seen hold hold' (suc x) n slot.Empty e s = absurd s
tail_at long seen hold hold' (suc x) n (slot.List l) e s = absurd s

-- a hold that was read fits still, since holds rise only
pub read_at : (hold hold' : ℕ → ℕ) → ((k : ℕ) → k < objects → hold k ≤ hold' k) → (r : Read) → ReadFits hold r → ReadFits hold' r
read_at hold hold' up (Hold k n) f = let a = up k f.0 in let b = f.1 in (f.0, omega arith)
read_at hold hold' up (Busy k by) f = tt
read_at hold hold' up (Taken k y) f = tt
read_at hold hold' up (Stop n) f = tt
read_at hold hold' up SetStop f = tt

-- a value that stands at home stands as a held one on which nothing was drawn
pub stands_held : (setting : Setting) (w : World) (hold : ℕ → ℕ) (k : ℕ) (y : Slot) → Stands setting w hold k y
    → StandsHeld setting w hold None k y
stands_held setting w hold zero (slot.List l) s = s
stands_held setting w hold (suc x) (slot.Row row) s = (record { before = w.draws x; draws_are = refl; stands = s.0 }, s.1)
stands_held setting w hold zero slot.Empty s = absurd s
stands_held setting w hold zero (slot.Row r) s = absurd s
stands_held setting w hold (suc x) slot.Empty s = absurd s
stands_held setting w hold (suc x) (slot.List l) s = absurd s

-- what is said of a held object's hold goes on where the hold stays
pub floor_moves : (hold hold' : ℕ → ℕ) (h : Held) → (h.object ≢ 0 → hold' h.object ≡ hold h.object) → FloorFits hold h → FloorFits hold' h
floor_moves hold hold' h same f = record {
  exact = λ n e. let q = f.exact n e in (same q.1 ∙ q.0, q.1);
  named = λ row i is has none nz. subst (λ m. m ≤ i.pos) (sym (same nz)) (f.named row i is has none nz);
}

-- a held object's value stands whoever holds what, by its own hold alone
pub held_same : (setting : Setting) (w : World) (holder' : ℕ → ℕ) (takers' : ℕ → List ℕ) (stopped' : ℕ) (hold hold' : ℕ → ℕ)
    (drew : Option Draw) (k : ℕ) (y : Slot) → hold' k ≡ hold k → StandsHeld setting w hold drew k y
    → StandsHeld setting (record w { holder = holder'; takers = takers'; stopped = stopped' }) hold' drew k y
held_same setting w holder' takers' stopped' hold hold' drew zero (slot.List l) e s = s
held_same setting w holder' takers' stopped' hold hold' drew (suc x) (slot.Row row) e s =
    (record { before = s.0.before; draws_are = s.0.draws_are; stands = s.0.stands }, subst (IsAbove row) (sym e) s.1)
held_same setting w holder' takers' stopped' hold hold' drew zero slot.Empty e s = absurd s
held_same setting w holder' takers' stopped' hold hold' drew zero (slot.Row r) e s = absurd s
held_same setting w holder' takers' stopped' hold hold' drew (suc x) slot.Empty e s = absurd s
held_same setting w holder' takers' stopped' hold hold' drew (suc x) (slot.List l) e s = absurd s

-- a word that is no hold and no cell changes: of a view only its turns can change
pub fits_board : (key : Key) (b b' : Board) (w : World) (holder' : ℕ → ℕ) (takers' : ℕ → List ℕ) (stopped' : ℕ) (j : ℕ) (v : View)
    → SameHolds b b' → SameCells b b' → TurnsFit b'.turn holder' j v → TriesFit stopped' takers' v.shelves v.reads → Fits key b w j v
    → Fits key b' (record w { holder = holder'; takers = takers'; stopped = stopped' }) j v
fits_board key b b' w holder' takers' stopped' j v holds cells turns tries f =
    let w' : World = record w { holder = holder'; takers = takers'; stopped = stopped' } in
    let named : (h : Held) → HeldOne b'.turn holder' j v.shelves h → b'.hold h.object ≡ b.hold h.object = λ h a. holds h.object a.named in
    let O = HeldOne b'.turn holder' j v.shelves in record {
      turns = turns;
      tries = tries;
      positions = f.positions;
      values = record {
        held = both_map O (HeldStands key.setting w b.hold) (HeldStands key.setting w' b'.hold) v.held
            (λ h a s. held_same key.setting w holder' takers' stopped' b.hold b'.hold h.drew h.object h.taken (named h a) s) turns.held
            f.values.held;
      };
      numbers = f.numbers;
      knowledge = record {
        seen = f.knowledge.seen;
        own = f.knowledge.own;
        known = f.knowledge.known;
        tails = both_map O (TailsFit (length w.log) b.hold v.seen) (TailsFit (length w.log) b'.hold v.seen) v.held
            (λ h a t n c. tail_at (length w.log) v.seen b.hold b'.hold h.object n h.taken (named h a) (t n c)) turns.held f.knowledge.tails;
        reads = all_map (ReadFits b.hold) (ReadFits b'.hold) v.reads
            (read_at b.hold b'.hold (λ k near. let e = holds k near in omega arith)) f.knowledge.reads;
        loaded = f.knowledge.loaded;
      };
      ring = record {
        floors = both_map O (FloorFits b.hold) (FloorFits b'.hold) v.held (λ h a t. floor_moves b.hold b'.hold h (λ nz. named h a) t)
            turns.held f.ring.floors;
        stored = λ i near. cells (length w.log) i ∙ f.ring.stored i near;
        few = f.ring.few;
        by_holder = f.ring.by_holder;
        lows = f.ring.lows;
      };
      quiet = f.quiet;
      refusals = f.refusals;
      carries = f.carries;
      owed = f.owed;
    }

-- a value at home stands whoever holds what, by its own hold alone
pub stands_same : (setting : Setting) (w : World) (holder' : ℕ → ℕ) (takers' : ℕ → List ℕ) (stopped' : ℕ) (hold hold' : ℕ → ℕ) (k : ℕ)
    (y : Slot) → hold' k ≡ hold k → Stands setting w hold k y
    → Stands setting (record w { holder = holder'; takers = takers'; stopped = stopped' }) hold' k y
stands_same setting w holder' takers' stopped' hold hold' zero (slot.List l) e s = s
stands_same setting w holder' takers' stopped' hold hold' (suc x) (slot.Row row) e s = (s.0, subst (IsAbove row) (sym e) s.1)
stands_same setting w holder' takers' stopped' hold hold' zero slot.Empty e s = absurd s
stands_same setting w holder' takers' stopped' hold hold' zero (slot.Row r) e s = absurd s
stands_same setting w holder' takers' stopped' hold hold' (suc x) slot.Empty e s = absurd s
stands_same setting w holder' takers' stopped' hold hold' (suc x) (slot.List l) e s = absurd s

-- a view's turns stay where the turns do
pub turns_same : (turn turn' holder : ℕ → ℕ) (j : ℕ) (v : View) → ((k : ℕ) → k < objects → turn' k ≡ turn k) → TurnsFit turn holder j v
    → TurnsFit turn' holder j v
turns_same turn turn' holder j v same f =
    record {
      held = all_map (HeldOne turn holder j v.shelves) (HeldOne turn' holder j v.shelves) v.held
          (λ h a. record { named = a.named; here = a.here; shelf = a.shelf; one = a.one; busy = same h.object a.named ∙ a.busy }) f.held;
    }

-- the rule holds where one seat's view becomes one that fits and holds no less, and no word changes
pub reviews : (key : Key) (w : World) (s : table.State Slot View) (id : ℕ) (v u : View) → get_elem? s.views id ≡ some v
    → ((k : ℕ) → HasObject v k → HasObject u k) → Holds key w s → Fits key (board (capacity key) s.words) w id u
    → Holds key w (record { words = s.words; homes = s.homes; views = set s.views id u })
reviews key w s id v u here keeps H f =
    let b = board (capacity key) s.words in record {
      words = H.words;
      whole = record {
        tries = H.whole.tries;
        turns = turns_kept b.turn b.turn w.holder id s.views v u here (λ k near. refl) keeps H.whole.turns;
        positions = H.whole.positions;
        machine = machine_same key.setting w _ refl refl refl refl H.whole.machine;
        numbers = H.whole.numbers;
        verdicts = H.whole.verdicts;
        refused = H.whole.refused;
        ring = H.whole.ring;
        low = H.whole.low;
      };
      values = H.values;
      views = each_set id u H.views (λ j o apart g. g) f;
    }

-- where the rule holds with the new view, it holds with a word set to what it was
pub loads_word : (key : Key) (s : table.State Slot View) (id i : ℕ) (u : View)
    → Rule key (record { words = s.words; homes = s.homes; views = set s.views id u })
    → Rule key (record {
      words = set s.words i (Rattle.std.specs.Prelude.slice_index s.words i);
      homes = s.homes;
      views = set s.views id u;
    })
loads_word key s id i u r = subst (λ ws. Rule key (record { words = ws; homes = s.homes; views = set s.views id u }))
    (sym (set_same s.words i)) r

-- a view that fits, fits with one thing more read, where that fits
pub fits_saw : (key : Key) (b : Board) (w : World) (j : ℕ) (v : View) (r : Read) → ReadFits b.hold r
    → TriesFit w.stopped w.takers v.shelves (v.reads ++ r ∷ []) → Fits key b w j v → Fits key b w j (saw v r)
fits_saw key b w j v r fit tries f = record {
  turns = record { held = f.turns.held };
  tries = tries;
  positions = record { shelves = f.positions.shelves };
  values = record { held = f.values.held };
  numbers = record { shelves = f.numbers.shelves };
  knowledge = record {
    seen = f.knowledge.seen;
    own = f.knowledge.own;
    known = f.knowledge.known;
    tails = f.knowledge.tails;
    reads = All-push (ReadFits b.hold) v.reads r f.knowledge.reads fit;
    loaded = f.knowledge.loaded;
  };
  ring = record { floors = f.ring.floors; stored = f.ring.stored; few = f.ring.few; by_holder = f.ring.by_holder; lows = f.ring.lows };
  quiet = record { none_live = f.quiet.none_live };
  refusals = record { held = f.refusals.held; shelves = f.refusals.shelves };
  carries = record { shelves = f.carries.shelves };
  owed = f.owed;
}
