-- The rule when a word is loaded.
use Rattle.std.proofs.Common.{◌≡◌, ℕ, zero, suc, ◌+◌, ◌*◌, ◌<◌, ◌≤◌, List, [], ◌∷◌, length, sym, refl, ap, subst, arith, ◌∙◌, inl, inr, Some}
use Rattle.std.specs.Prelude.{slice_get, Contains}
use Rattle.gl_model.specs.declared.row.Row.{Row}
use Rattle.std.specs.List.{All}
use Rattle.std.proofs.lemmas.List.Elements.{All-contains, All-push, All-head, All-tail}
use mathlib.Core.Option.{some}
use lib.ListN.{get_elem?}
use Rattle.atomic_table.specs.Table as table
use Rattle.gl_model.specs.declared.event.Stamp.{Stamp}
use Rattle.gl_model.specs.declared.limits.TheConstants.{VARIABLES}
use Rattle.gl_model.specs.declared.event.Act.TheVariants.{Fail}
use Rattle.gl_model.specs.declared.event.Event.TheVariants.{Act as Does}
use Rattle.gl_model.specs.Machine.{Setting, State, Step, Effect, Refuses, not_owner, heap_full, threads_full, input_end, bad_thread}
use Rattle.gl_rule.specs.Cells.{HasSmallCode}
use Rattle.gl_draws.specs.RowFacts.{IsWithin}
use Rattle.gl_draws.proofs.RowGrowth.{stands_within}
use Rattle.gl_rule.specs.declared.slot.Slot.{Slot}
use Rattle.gl_rule.specs.declared.slot.Slot.TheVariants as slot
use Rattle.gl_rule.specs.Objects.{Key, Board, board, capacity, objects, cell_at}
use Rattle.gl_rule.specs.View.{View, Held, Shelf, Hold, Stop, SetStop, CellWord, with_tail, saw_tail, saw, saw_cell, knows}
use Rattle.gl_rule.specs.World.{World}
use Rattle.gl_model.specs.Elements.{IsStampInRange}
use Rattle.gl_rule.specs.Turns.{HeldOne}
use Rattle.gl_rule.specs.Values.{StandsHeld, HeldStands}
use Rattle.gl_rule.specs.Knowledge.{AreBelow, TailFits, TailsFit, ReadFits, WordFits}
use Rattle.gl_rule.specs.Ring.{FloorFits}
use Rattle.gl_draws.specs.Verdicts.{DrawsHold}
use Rattle.gl_rule.specs.Refusals.{DrawsBelow}
use Rattle.gl_rule.proofs.Refusing.{commits_tail}
use Rattle.gl_rule.specs.Fitting.{MayWalk}
use Rattle.gl_rule.specs.Rule.{Fits, Holds, Rule}
use Rattle.gl_rule.specs.Told.{SawTail, SawStop, SawHold, SawCell, SawEvent}
use Rattle.gl_rule.proofs.HeldLists.{all_map, both_map, all_mapped, in_mapped}
use Rattle.gl_rule.proofs.Frames.{reviews, loads_word, fits_saw}
use Rattle.gl_rule.specs.Tries.{TryFits}
use Rattle.gl_rule.proofs.Tries.{tries_saw}

-- events below n are below what is at least n
pub below_more : (n m : ℕ) (s : Shelf) → n ≤ m → AreBelow n s → AreBelow m s
below_more n m s le b i p e a q = let r = b i p e a q in omega arith

-- the tail, as it is now, fits a held object
tail_new : (setting : Setting) (w : World) (hold : ℕ → ℕ) (k : ℕ) (y : Slot) (drew : _) (m : ℕ) → m ≡ length w.log → k < objects
    → ((x : ℕ) → x < VARIABLES → hold (suc x) ≤ m) → StandsHeld setting w hold drew k y → TailFits (length w.log) hold m k y m
tail_new setting w hold zero y drew m is near up st = is
tail_new setting w hold (suc x) (slot.Row row) drew m is near up st =
    (omega arith, subst (IsWithin row) (sym is) (stands_within setting w.log x st.0.before row st.0.stands), up x (omega arith))
tail_new setting w hold (suc x) slot.Empty drew m is near up st = absurd st
tail_new setting w hold (suc x) (slot.List l) drew m is near up st = absurd st

-- a tail that the list's holder has seen since it took the list is the tail
pub tail_zero : (long seen : ℕ) (hold : ℕ → ℕ) (k n : ℕ) (y : Slot) → k ≡ 0 → TailFits long hold seen k y n → n ≡ long
tail_zero long seen hold k n y e t = let a : TailFits long hold seen 0 y n = subst (λ z. TailFits long hold seen z y n) e t in a

-- what a tail says stays where more was seen
pub tail_later : (long : ℕ) (hold : ℕ → ℕ) (seen m k n : ℕ) (y : Slot) → seen ≤ m → TailFits long hold seen k y n
    → TailFits long hold m k y n
tail_later long hold seen m zero n y le t = t
tail_later long hold seen m (suc x) n (slot.Row row) le t = let a = t.0 in (omega arith, t.1, t.2)
tail_later long hold seen m (suc x) n slot.Empty le t = absurd t
tail_later long hold seen m (suc x) n (slot.List l) le t = absurd t

-- a view that has seen the tail fits
pub fits_tail : (key : Key) (b : Board) (w : World) (j : ℕ) (v : View) (n : ℕ) → n ≡ length w.log
    → ((x : ℕ) → x < VARIABLES → b.hold (suc x) ≤ n) → ((x : ℕ) → DrawsHold w.log x (w.draws x)) → Fits key b w j v
    → Fits key b w j (saw_tail v n)
fits_tail key b w j v n is up all f =
    let seen = f.knowledge.seen in
    let le : v.seen ≤ n = omega arith in
    let O = HeldOne b.turn w.holder j v.shelves in
    let S = HeldStands key.setting w b.hold in
    let T = TailsFit (length w.log) b.hold v.seen in record {
      tries = f.tries;
      turns = record {
        held = all_mapped (with_tail n) O O v.held
            (λ h a. record { named = a.named; here = a.here; shelf = a.shelf; one = a.one; busy = a.busy }) f.turns.held;
      };
      positions = record { shelves = f.positions.shelves };
      values = record { held = all_mapped (with_tail n) S S v.held (λ h a. a) f.values.held };
      numbers = record { shelves = f.numbers.shelves };
      knowledge = record {
        seen = omega arith;
        own = all_map (AreBelow v.seen) (AreBelow n) v.shelves (λ s a. below_more v.seen n s le a) f.knowledge.own;
        known = f.knowledge.known;
        tails = all_mapped (with_tail n) (λ h. O h × S h × T h) (TailsFit (length w.log) b.hold n) v.held (λ h p. more h p.0 p.1 p.2)
            (both_map O (λ h. S h × T h) (λ h. O h × S h × T h) v.held (λ h a c. (a, c.0, c.1)) f.turns.held
            (both_map S T (λ h. S h × T h) v.held (λ h a c. (a, c)) f.values.held f.knowledge.tails));
        reads = f.knowledge.reads;
        loaded = f.knowledge.loaded;
      };
      ring = record {
        floors = all_mapped (with_tail n) (FloorFits b.hold) (FloorFits b.hold) v.held (λ h a. a) f.ring.floors;
        stored = f.ring.stored;
        few = f.ring.few;
        by_holder = elim f.ring.by_holder [ inl e ↦ inl e | inr o ↦ inr (with_tail n o.0, in_mapped (with_tail n) v.held o.0 o.1, o.2) ];
        lows = f.ring.lows;
      };
      quiet = record { none_live = f.quiet.none_live };
      carries = record { shelves = f.carries.shelves };
      owed = f.owed;
      refusals = record {
        held = all_mapped (with_tail n) (DrawsBelow w.draws) (DrawsBelow w.draws) v.held
            (λ h a. commits_tail w.log w.draws h (with_tail n h) all refl refl (ap (λ z. z ∷ h.tails) is) a) f.refusals.held;
        shelves = f.refusals.shelves;
      };
    }
  where
    more : (h : Held) → HeldOne b.turn w.holder j v.shelves h → HeldStands key.setting w b.hold h → TailsFit (length w.log) b.hold v.seen h
        → TailsFit (length w.log) b.hold n (with_tail n h)
    more h a st t m (zero, l, e) = let same : n ≡ m = e
        in subst (λ z. TailFits (length w.log) b.hold n h.object h.taken z) same
        (tail_new key.setting w b.hold h.object h.taken h.drew n is a.named up st)
    more h a st t m (suc k, l, e) = tail_later (length w.log) b.hold v.seen n h.object m h.taken (let s = f.knowledge.seen in omega arith)
        (t m (k, omega arith, e))

-- a row that stands in a held slot has no place beyond the log
held_within : (setting : Setting) (w : World) (hold : ℕ → ℕ) (drew : _) (row : Row) (k : ℕ)
    → StandsHeld setting w hold drew k (slot.Row row) → IsWithin row (length w.log)
held_within setting w hold drew row zero st = absurd st
held_within setting w hold drew row (suc x) st = stands_within setting w.log x st.0.before row st.0.stands

-- loading the tail keeps the rule
pub loads_tail : (key : Key) (slots id : ℕ) (v : View) (c : List (ℕ × Slot))
    → table.Allows (Rule key) slots id (v, c) 0 (λ n. n) (SawTail v c)
loads_tail key slots id v c s rule long here fits =
    let w = rule.0 in
    let H = rule.1 in
    let b = board (capacity key) s.words in
    let n = b.count 0 in
    let is = H.whole.positions.count in
    let mine = H.views.at id v here in
    let u = saw_tail v n in
    let f = fits_tail key b w id v n is (λ x near. let r = (H.whole.ring.holds x near).1 in omega arith) H.whole.verdicts mine in
    let seen = mine.knowledge.seen in (
      u,
      table.keeps,
      tt,
      loads_word key s id 0 u
          (w, reviews key w s id v u here (λ k o. (with_tail n o.0, in_mapped (with_tail n) v.held o.0 o.1, o.2)) H f),
      (refl, omega arith, within),
    )
  where
    within : (h : Held) (row : Row) → Contains v.held h → h.taken ≡ slot.Row row → IsWithin row ((board (capacity key) s.words).count 0)
    within h row has e =
        let w = rule.0 in
        let b = board (capacity key) s.words in
        let st : HeldStands key.setting w b.hold h =
        All-contains (HeldStands key.setting w b.hold) v.held h (rule.1.views.at id v here).values.held has in
        subst (IsWithin row) (sym rule.1.whole.positions.count)
        (held_within key.setting w b.hold h.drew row h.object (subst (λ z. StandsHeld key.setting w b.hold h.drew h.object z) e st))

-- so does loading a hold
pub loads_hold : (key : Key) (slots id k : ℕ) (v : View) (c : List (ℕ × Slot)) → k < objects
    → table.Allows (Rule key) slots id (v, c) (3 * k + 2) (λ n. n) (SawHold k v c)
loads_hold key slots id k v c near s rule long here fits =
    let w = rule.0 in
    let H = rule.1 in
    let b = board (capacity key) s.words in
    let u = saw v (Hold k (b.hold k)) in (
      u,
      table.keeps,
      tt,
      loads_word key s id (3 * k + 2) u (
        w,
        reviews key w s id v u here (λ g o. o) H
            (fits_saw key b w id v (Hold k (b.hold k)) (near, omega arith)
            (tries_saw w.stopped w.takers v.shelves v.reads (Hold k (b.hold k)) tt (λ r g by one is. absurd (cc))
            (H.views.at id v here).tries)
            (H.views.at id v here)),
      ),
      (refl, risen),
    )
  where
    risen : (m : ℕ) → Contains v.reads (Hold k m) → m ≤ (board (capacity key) s.words).hold k
    risen m has = (All-contains (ReadFits (board (capacity key) s.words).hold) v.reads (Hold k m)
        (rule.1.views.at id v here).knowledge.reads has).1

-- and the stop word
pub loads_stop : (key : Key) (slots id : ℕ) (v : View) (c : List (ℕ × Slot))
    → table.Allows (Rule key) slots id (v, c) 3075 (λ n. n) (SawStop v c)
loads_stop key slots id v c s rule long here fits =
    let w = rule.0 in
    let H = rule.1 in
    let b = board (capacity key) s.words in
    let u = saw v (Stop b.stop) in
    let word : b.stop ≡ w.stopped = H.whole.tries.word in
    let least = H.whole.tries.least in
    let tries = (H.views.at id v here).tries in
    let fits' = fits_saw key b w id v (Stop b.stop) tt
    (tries_saw w.stopped w.takers v.shelves v.reads (Stop b.stop) (omega arith) (λ r g by one is. absurd (cc)) tries)
    (H.views.at id v here) in
    let P = TryFits w.stopped w.takers in
    let risen : (m : ℕ) → Contains v.reads (Stop m)
    → m ≤ b.stop = λ m has. (let a : m ≤ w.stopped = All-contains P v.reads (Stop m) tries.each has in omega arith) in
    let own : Contains v.reads SetStop → b.stop ≡ 1 = λ has. word ∙ All-contains P v.reads SetStop tries.each has in
    (u, table.keeps, tt, loads_word key s id 3075 u (w, reviews key w s id v u here (λ g o. o) H fits'), (refl, omega arith, risen, own))

-- a row that stands in a held slot lies above the hold of its object
above_in : (setting : Setting) (w : World) (hold : ℕ → ℕ) (drew : _) (k x : ℕ) (y : Slot) → k ≡ suc x → StandsHeld setting w hold drew k y
    → (row : _) → y ≡ slot.Row row → Rattle.gl_rule.specs.Values.IsAbove row (hold (suc x))
above_in setting w hold drew k x y e st row is = let s : StandsHeld setting w hold drew (suc x) (slot.Row row) =
    subst (λ z. StandsHeld setting w hold drew (suc x) z) is (subst (λ z. StandsHeld setting w hold drew z y) e st) in s.1

-- a position that the pass may walk from is not below the first kept segment
walked : (key : Key) (w : World) (s : table.State Slot View) (id p : ℕ) (v : View) → Holds key w s → get_elem? s.views id ≡ some v
    → MayWalk v p → (board (capacity key) s.words).hold 0 * key.cells ≤ p
walked key w s id p v H here may =
    let b = board (capacity key) s.words in
    let mine : Fits key b w id v = H.views.at id v here in
    let h = may.0 in
    let x = may.2.0 in
    let turn : HeldOne b.turn w.holder id v.shelves h =
    All-contains (HeldOne b.turn w.holder id v.shelves) v.held h mine.turns.held may.1 in
    let n1 = turn.named in
    let is = may.2.1 in
    let near : x < VARIABLES = omega arith in
    let low = (H.whole.ring.holds x near).0 in
    let m : ℕ = b.hold 0 * key.cells in
    let low' : m ≤ b.hold (suc x) = low in
    let done : b.hold (suc x) ≤ p = elim may.3 [
      | inl a ↦ (let f : FloorFits b.hold h = All-contains (FloorFits b.hold) v.held h mine.ring.floors may.1 in let e : b.hold (suc x)
          ≡ a.0 = ap b.hold (sym may.2.1) ∙ (f.exact a.0 a.1).0 in let le = a.2 in omega arith)
      | inr a ↦ (let st : HeldStands key.setting w b.hold h =
          All-contains (HeldStands key.setting w b.hold) v.held h mine.values.held may.1
          in let q = (above_in key.setting w b.hold h.drew h.object x h.taken may.2.1 st a.0 a.2).at a.1 a.3 in let le = a.4 in omega arith)
    ] in
    let r : m ≤ p = omega arith in r

-- a word that is in a cell fits the event there, where the pass may walk to it
word_fits : (key : Key) (w : World) (s : table.State Slot View) (id p i : ℕ) (v : View) → Holds key w s → get_elem? s.views id ≡ some v
    → MayWalk v p → i < 5 → WordFits w.log (record { position = p; index = i; word = (board (capacity key) s.words).cell p i })
word_fits key w s id p i v H here may few x at = H.whole.ring.cells p i x (walked key w s id p v H here may) at few

-- a pass that fits, fits still once it has seen a word that fits
fits_cell : (key : Key) (b : Board) (w : World) (j : ℕ) (v : View) (q : CellWord) → (q.position < length w.log) × WordFits w.log q
    → Fits key b w j v → Fits key b w j (saw_cell v q)
fits_cell key b w j v q fit f = record {
  turns = record { held = f.turns.held };
  tries = f.tries;
  positions = record { shelves = f.positions.shelves };
  values = record { held = f.values.held };
  numbers = record { shelves = f.numbers.shelves };
  knowledge = record {
    seen = f.knowledge.seen;
    own = f.knowledge.own;
    known = f.knowledge.known;
    tails = f.knowledge.tails;
    reads = f.knowledge.reads;
    loaded = All-push (λ (c : CellWord). (c.position < length w.log) × WordFits w.log c) v.loaded q f.knowledge.loaded
        fit;
  };
  ring = record { floors = f.ring.floors; stored = f.ring.stored; few = f.ring.few; by_holder = f.ring.by_holder; lows = f.ring.lows };
  quiet = record { none_live = f.quiet.none_live };
  refusals = record { held = f.refusals.held; shelves = f.refusals.shelves };
  carries = record { shelves = f.carries.shelves };
  owed = f.owed;
}

-- a view that fits, fits when it knows the event at p
pub fits_knows : (key : Key) (b : Board) (w : World) (j p : ℕ) (v : View) (x : Stamp) → slice_get w.log p ≡ Some x → Fits key b w j v
    → Fits key b w j (knows v p x)
fits_knows key b w j p v x is f = record {
  turns = record { held = f.turns.held };
  tries = f.tries;
  positions = record { shelves = f.positions.shelves };
  values = record { held = f.values.held };
  numbers = record { shelves = f.numbers.shelves };
  knowledge = record {
    seen = f.knowledge.seen;
    own = f.knowledge.own;
    known = All-push (λ (k : ℕ × Stamp). slice_get w.log k.0 ≡ Some k.1) v.known (p, x) f.knowledge.known is;
    tails = f.knowledge.tails;
    reads = f.knowledge.reads;
    loaded = f.knowledge.loaded;
  };
  ring = record { floors = f.ring.floors; stored = f.ring.stored; few = f.ring.few; by_holder = f.ring.by_holder; lows = f.ring.lows };
  quiet = record { none_live = f.quiet.none_live };
  refusals = record { held = f.refusals.held; shelves = f.refusals.shelves };
  carries = record { shelves = f.carries.shelves };
  owed = f.owed;
}

-- the ring still has all that was seen behind p
seen_within : (key : Key) (w : World) (s : table.State Slot View) (id p : ℕ) (v : View) → Holds key w s → get_elem? s.views id ≡ some v
    → MayWalk v p → v.seen ≤ p + capacity key
seen_within key w s id p v H here may =
    let from : ℕ = (board (capacity key) s.words).hold 0 * key.cells in
    let cap : ℕ = capacity key in
    let a : from ≤ p = walked key w s id p v H here may in
    let r : length w.log ≤ from + cap = H.whole.ring.room in
    let q = (H.views.at id v here).knowledge.seen in
    let done : v.seen ≤ p + cap = omega arith in done

-- and a word of an event that the pass may walk from
pub loads_cell : (key : Key) (slots id p i : ℕ) (v : View) (c : List (ℕ × Slot)) → i < 5 → p < v.seen → MayWalk v p
    → table.Allows (Rule key) slots id (v, c) (cell_at (capacity key) p i) (λ n. n) (SawCell (capacity key) p i v c)
loads_cell key slots id p i v c few below may s rule long here fits =
    let w = rule.0 in
    let H = rule.1 in
    let b = board (capacity key) s.words in
    let mine = H.views.at id v here in
    let seen = mine.knowledge.seen in
    let q : CellWord = record { position = p; index = i; word = b.cell p i } in
    let u = saw_cell v q in (
      u,
      table.keeps,
      tt,
      loads_word key s id (cell_at (capacity key) p i) u (
        w,
        reviews key w s id v u here (λ g o. o) H
            (fits_cell key b w id v q (omega arith, word_fits key w s id p i v H here may few) mine),
      ),
      (seen_within key w s id p v H here may, refl),
    )

-- below the length of a log there is an event
get_there : (xs : List Stamp) (p : ℕ) → p < length xs → (x : Stamp) × (slice_get xs p ≡ Some x)
get_there [] p near = absurd (omega arith)
get_there (x ∷ xs) zero near = (x, refl)
get_there (x ∷ xs) (suc p) near = get_there xs p (omega arith)

-- what holds of each stamp holds of that at a place
pub all_at : (xs : List Stamp) (p : ℕ) (x : Stamp) → All IsStampInRange xs → slice_get xs p ≡ Some x → IsStampInRange x
all_at [] p x all e = absurd (cc)
all_at (y ∷ xs) zero x all e = let same : y ≡ x = cc in subst IsStampInRange same (All-head IsStampInRange y xs all)
all_at (y ∷ xs) (suc p) x all e = all_at xs p x (All-tail IsStampInRange y xs all) e

-- the code of a refusal that the machine allows is below 256
refused_small : (setting : Setting) (s : State) (t code : ℕ) (value : _) → Refuses setting s t code value → code < 256
refused_small setting s t code value (not_owner is o a b c) = omega arith
refused_small setting s t code value (heap_full is c a f b d) = omega arith
refused_small setting s t code value (threads_full is a) = omega arith
refused_small setting s t code value (input_end is a) = omega arith
refused_small setting s t code value (bad_thread is u a b c) = omega arith

-- the code of a refusal that the machine allows fits in its byte
small_code : (setting : Setting) (old new : State) (x : Stamp) (value : _) → Step setting old x value new → HasSmallCode x
small_code setting old new x value step code is =
    let e : Effect setting old x.thread (Does (Fail code)) value new =
    subst (λ z. Effect setting old x.thread z value new) is step.effect in
    refused_small setting old x.thread code value e.0

-- loading the last word of an event that the pass has seen and may walk from tells the event
pub loads_event : (key : Key) (slots id p : ℕ) (v : View) (c : List (ℕ × Slot)) → p < v.seen → MayWalk v p
    → table.Allows (Rule key) slots id (v, c) (cell_at (capacity key) p 4) (λ n. n) (SawEvent (capacity key) p v c)
loads_event key slots id p v c below may s rule long here fits =
    let w = rule.0 in
    let H = rule.1 in
    let b = board (capacity key) s.words in
    let mine = H.views.at id v here in
    let seen = mine.knowledge.seen in
    let q : CellWord = record { position = p; index = 4; word = b.cell p 4 } in
    let at = get_there w.log p (omega arith) in
    let near : 4 < 5 = omega arith in
    let f = fits_cell key b w id v q (omega arith, word_fits key w s id p 4 v H here may near) mine in
    let u = knows (saw_cell v q) p at.0 in
    let P : CellWord → Type 0 = λ r. (r.position < length w.log) × WordFits w.log r in (
      u,
      table.keeps,
      tt,
      loads_word key s id (cell_at (capacity key) p 4) u
          (w, reviews key w s id v u here (λ g o. o) H (fits_knows key b w id p (saw_cell v q) at.0 at.1 f)),
      (
        at.0,
        all_at w.log p at.0 H.whole.positions.kept at.1,
        small_code key.setting (w.states p) (w.states (suc p)) at.0 (w.values p)
            (H.whole.machine.steps p at.0 at.1),
        (λ r has same. (All-contains P (saw_cell v q).loaded r f.knowledge.loaded has).1 at.0
            (ap (slice_get w.log) same ∙ at.1)),
        seen_within key w s id p v H here may,
        refl,
      ),
    )
