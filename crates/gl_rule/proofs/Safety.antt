-- The table is safe.
use Rattle.std.proofs.Common.{◌≡◌, ◌≢◌, ℕ, zero, suc, ◌+◌, ◌-◌, ◌*◌, ◌/◌, ◌<◌, ◌≤◌, List, length, sym, refl, subst, arith, ◌∙◌, Some, None}
use Rattle.std.specs.Prelude.{Option}
use Rattle.std.proofs.lemmas.List.Elements.{All-contains}
use Rattle.std.proofs.Math.Nat.{le-div_iff_mul-le, div-lt_iff_lt-mul, mul-le-mul_right}
use mathlib.Core.Option as home
use lib.ListN.{get_elem?}
use Rattle.atomic_table.specs.Table as table
use Rattle.gl_model.specs.declared.limits.TheConstants.{VARIABLES}
use Rattle.gl_model.specs.Machine.{Setting}
use Rattle.gl_draws.specs.Draws.{Draw}
use Rattle.gl_rule.specs.declared.slot.Slot.{Slot}
use Rattle.gl_rule.specs.declared.slot.Slot.TheVariants as slot
use Rattle.gl_rule.specs.Fitting.{MayStoreWord}
use Rattle.gl_rule.specs.Knowledge.{TailsFit, ReadFits}
use Rattle.gl_rule.specs.Objects.{Key, Board, board, capacity, objects}
use Rattle.gl_rule.specs.Ring.{IsFloor, FloorFits}
use Rattle.gl_rule.specs.Rule.{Fits, Rule}
use Rattle.gl_rule.specs.Safe.{HasInfoAt, IsNamed, at_home, as_held, as_taken, IsSafe}
use Rattle.gl_rule.specs.Values.{Stands, StandsHeld, HeldStands}
use Rattle.gl_rule.specs.View.{View, Held, Hold}
use Rattle.gl_rule.specs.World.{World}
use Rattle.gl_rule.proofs.Loading.{tail_zero}

-- no Info of a row at home lies below its hold
home_named : (setting : Setting) (w : World) (hold : ℕ → ℕ) (x p : ℕ) (y : Slot) → Stands setting w hold (suc x) y → HasInfoAt y p
    → hold (suc x) ≤ p
home_named setting w hold x p (slot.Row row) st i = let a = st.1.at i.0 i.1 in let e = i.2 in omega arith
home_named setting w hold x p (slot.List l) st i = absurd st
home_named setting w hold x p slot.Empty st i = absurd st

-- nor of a row that is held
held_named : (setting : Setting) (w : World) (hold : ℕ → ℕ) (drew : Option Draw) (k x p : ℕ) (y : Slot) → k ≡ suc x
    → StandsHeld setting w hold drew k y → HasInfoAt y p → hold k ≤ p
held_named setting w hold drew zero x p y is st i = absurd (omega arith)
held_named setting w hold drew (suc z) x p (slot.Row row) is st i = let a = st.1.at i.0 i.1 in let e = i.2 in omega arith
held_named setting w hold drew (suc z) x p (slot.List l) is st i = absurd st
held_named setting w hold drew (suc z) x p slot.Empty is st i = absurd st

-- nor of a row as it was taken, where the pass did not raise the hold above it
first_named : (hold : ℕ → ℕ) (object p : ℕ) (y : Slot) (floor : Option ℕ) → object ≢ 0 → IsFloor hold object y floor → HasInfoAt y p
    → ((n : ℕ) → floor ≡ Some n → n ≤ p) → hold object ≤ p
first_named hold object p (slot.Row row) None nz f i above = let a = f.named row i.0 refl i.1 refl nz in let e = i.2 in omega arith
first_named hold object p (slot.Row row) (Some n) nz f i above = let a = (f.exact n refl).0 in let b = above n refl in omega arith
first_named hold object p (slot.List l) floor nz f i above = absurd i
first_named hold object p slot.Empty floor nz f i above = absurd i

module _ (key : Key) (s : table.State Slot View) (rule : Rule key s) where
  abbrev b : Board
  b = board (capacity key) s.words

  -- what is named is at or above the hold
  named : (x p : ℕ) → x < VARIABLES → IsNamed b s (suc x) p → b.hold (suc x) ≤ p
  named x p near (at_home y free there i) =
      let near' : suc x < objects = omega arith in
      let q = rule.1.values.home (suc x) near' free in
      let same : home.some (home.some q.0) ≡ home.some (home.some y) = sym q.1 ∙ there in
      let is : q.0 ≡ y = cc in
      home_named key.setting rule.0 b.hold x p y (subst (Stands key.setting rule.0 b.hold (suc x)) is q.2) i
  named x p near (as_held id v h at has is i) =
      let f = rule.1.views.at id v at in
      let st = All-contains (HeldStands key.setting rule.0 b.hold) v.held h f.values.held has in
      subst (λ k. b.hold k ≤ p) is (held_named key.setting rule.0 b.hold h.drew h.object x p h.taken is st i)
  named x p near (as_taken id v h at has is i above) =
      let f = rule.1.views.at id v at in
      let fl = All-contains (FloorFits b.hold) v.held h f.ring.floors has in
      subst (λ k. b.hold k ≤ p) is (first_named b.hold h.object p h.first h.floor (λ z. let q : suc x ≡ 0 = sym is ∙ z
      in absurd (omega arith)) fl i above)

  -- the table's words keep its events safely
  pub safe : (log : List _) × IsSafe key b s log
  safe = (
    rule.0.log,
    record {
      tail = rule.1.whole.positions.count;
      low = λ x near. (rule.1.whole.ring.holds x near).0;
      holds = λ x near. (rule.1.whole.ring.holds x near).1;
      named = named;
      cells = rule.1.whole.ring.cells;
      room = rule.1.whole.ring.room;
    },
  )

  -- the event whose cell is taken lies in a segment below all that is named
  pub overwrites : (id : ℕ) (v : View) (h : Held) (tail : ℕ) → 0 < key.cells → get_elem? s.views id ≡ home.some v
      → MayStoreWord key v h tail → capacity key ≤ tail → (x p : ℕ) → x < VARIABLES → IsNamed b s (suc x) p
      → (b.count 0 ≡ tail) × ((tail - capacity key) / key.cells < p / key.cells)
  overwrites id v h tail pos at may round x p near n =
      let w = rule.0 in
      let mine : Fits key b w id v = rule.1.views.at id v at in
      let T = TailsFit (length w.log) b.hold v.seen in
      let tails : T h = All-contains T v.held h mine.knowledge.tails may.held in
      let exact : tail ≡ length w.log = tail_zero (length w.log) v.seen b.hold h.object tail h.taken may.list (tails tail may.saw) in
      let from : ℕ = b.hold 0 * key.cells in
      let low_now : may.low ≤ b.hold 0 = (All-contains (ReadFits b.hold) v.reads (Hold 0 may.low) mine.knowledge.reads may.read).1 in
      let low_from : may.low * key.cells ≤ from = mul-le-mul_right key.cells low_now in
      let cap : ℕ = capacity key in
      let before : tail - cap < from = (let a : ℕ = may.low * key.cells in let r : tail < a + cap = may.room in let q : a ≤ from = low_from
      in let c : cap ≤ tail = round in omega arith) in
      let above : from ≤ p = (let a : from ≤ b.hold (suc x) = (rule.1.whole.ring.holds x near).0 in let q = named x p near n
      in omega arith) in
      let below : (tail - cap) / key.cells < b.hold 0 = (div-lt_iff_lt-mul pos).1 before in
      let upon : b.hold 0 ≤ p / key.cells = (le-div_iff_mul-le pos).1 above in (
        rule.1.whole.positions.count ∙ sym exact,
        (let q : ℕ = (tail - cap) / key.cells in let r : ℕ = p / key.cells
            in let m : q < b.hold 0 = below in let z : b.hold 0 ≤ r = upon in omega arith),
      )
