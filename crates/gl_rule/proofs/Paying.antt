-- The rule when a value that is owed is written back: no word changes, and the draws have the repeats.
use Rattle.std.proofs.Common.{◌≡◌, ◌≢◌, ℕ, zero, suc, ◌+◌, ◌^◌, ◌<◌, ◌≤◌, List, [], ◌∷◌, ◌++◌, length, set, sym, refl, ap, subst, arith, ◌∙◌, inl, inr, Some, ◌*◌, false, true}
use Rattle.std.specs.Prelude.{ℤ, slice_index, Contains, ◌⊎◌, Option}
use Rattle.std.specs.List.{All}
use Rattle.std.proofs.lemmas.List.Elements.{All-cons, All-contains}
use native.Mathlib.Decide.{ℕ_discrete}
use mathlib.Core.Option.{some}
use lib.ListN.{get_elem?}
use Rattle.atomic_table.specs.Table as table
use Rattle.atomic_table.proofs.Lists.{set_here}
use Rattle.gl_model.specs.declared.limits.TheConstants.{THREADS}
use Rattle.gl_model.specs.declared.row.Row.{Row}
use Rattle.gl_model.specs.Machine.{Setting, with_at}
use Rattle.gl_draws.specs.Draws.{Draw, DrawAt, Among, last_write}
use Rattle.gl_draws.specs.Repeated.{repeated, IsCalm}
use Rattle.gl_draws.specs.RowFacts.{RowStands}
use Rattle.gl_draws.specs.Verdicts.{DrawsHold}
use Rattle.gl_draws.proofs.Repeating.{draws_repeated, row_repeated}
use Rattle.gl_rule.specs.declared.slot.Slot.{Slot}
use Rattle.gl_rule.specs.declared.slot.Slot.TheVariants as slot
use Rattle.gl_rule.specs.Objects.{Key, Board, board, capacity, objects}
use Rattle.gl_rule.specs.View.{View, Held, Shelf, without}
use Rattle.gl_rule.specs.World.{World}
use Rattle.gl_rule.specs.Turns.{HeldOne}
use Rattle.gl_rule.specs.Positions.{ShelfFits}
use Rattle.gl_rule.specs.Numbers.{ShelfDraws}
use Rattle.gl_rule.specs.Values.{IsAbove, Stands, StandsHeld, HeldStands, with_draw}
use Rattle.gl_rule.specs.Knowledge.{TailsFit}
use Rattle.gl_rule.specs.Ring.{FloorFits}
use Rattle.gl_draws.specs.Refusals.{RefusalsHold}
use Rattle.gl_rule.specs.Refusals.{DrawsBelow}
use Rattle.gl_rule.specs.Owed.{repeats_of, OwedOne, IsPending, OwedFits}
use Rattle.gl_rule.specs.Commits.{MayPay, paid}
use Rattle.gl_rule.specs.Fitting.{MayPut, MayLeaveAt}
use Rattle.gl_rule.specs.Told.{Left}
use Rattle.gl_rule.proofs.Turning.{leaves_turn}
use Rattle.gl_rule.specs.Rule.{Fits, Holds, Rule}
use Rattle.gl_rule.proofs.Each.{each_set, at_within, set_twice}
use Rattle.gl_rule.proofs.HeldLists.{both_map, all_without, has_after, only_shelf}
use Rattle.gl_rule.proofs.Frames.{machine_same, turns_kept}
use Rattle.gl_rule.proofs.Caching.{rest_in, in_rest, number_is}
use Rattle.gl_rule.proofs.Owing.{owed_others}
use Rattle.gl_rule.proofs.Raising.{row_in, in_row, row_tail, tail_row}
use Rattle.gl_rule.proofs.Refusing.{commits_else}
use Rattle.gl_draws.proofs.Repeats.{draw_back, again_here, again_else, again_count, again_long, again_all, again_among, again_drawn, refusals_repeated}

module _ (key : Key) (w : World) (st : table.State Slot View) (id : ℕ) (v : View) (s : Shelf) (h : Held) (x : ℕ) (taken : Row) (value : ℤ)
    (one : v.shelves ≡ s ∷ []) (may : MayPay v h x taken value) (H : Holds key w st) (here : get_elem? st.views id ≡ some v) where
  abbrev b : Board
  b = board (capacity key) st.words

  -- the pass's view fits
  pub mine : Fits key b w id v
  mine = H.views.at id v here

  -- its one list has its thread's events, in a form that it may have so far
  fits : ShelfFits w.log w.seat id s
  fits = only_shelf (ShelfFits w.log w.seat id) v s one mine.positions.shelves

  -- each draw of its thread has its entry in the list, or waits for it
  draws : ShelfDraws w.draws v.drawn s
  draws = only_shelf (ShelfDraws w.draws v.drawn) v s one mine.numbers.shelves

  -- the variable's last write is the thread's own
  pub its : OwedOne w.draws v.shelves x
  its = mine.owed.owes x value may.owes

  -- two lists of one shelf each that are equal have the same shelf
  head_is : (a c : Shelf) → a ∷ [] ≡ c ∷ [] → a ≡ c
  head_is a c e = cc

  -- its thread is the shelf's
  pub own : its.draw.thread ≡ s.thread
  own = its.own ∙ ap (λ (z : Shelf). z.thread) (head_is its.shelf s (sym its.one ∙ one))

  -- the shelf is the view's
  pub has_shelf : Contains v.shelves s
  has_shelf = subst (λ l. Contains l s) (sym one) (zero, omega arith, refl)

  -- draws that are equal as options are equal
  some_draw : (a c : Draw) → Some a ≡ Some c → a ≡ c
  some_draw a c e = cc

  -- a number of the last write's draw is the one that its entry has
  number_once : (n : ℕ) → DrawAt (w.draws x) n its.draw → n ≡ its.number
  number_once n at = number_is w.draws s.thread s.marked v.drawn x its.number n its.value its.draw draws.numbers at own its.plain

  -- it has a number
  pub number : (n : ℕ) × DrawAt (w.draws x) n its.draw
  number = Rattle.gl_draws.proofs.Repeats.last_number x [] (w.draws x) its.draw its.last

  -- its repeats that are not written back begin with the value that is owed
  pub late : (rest : List ℤ) × (repeats_of x number.0 s.marked ≡ (value ∷ rest) ++ its.draw.repeats)
  late = mine.owed.late x value may.owes s has_shelf number.0 its.draw number.1 its.last own

  abbrev vs : List ℤ
  vs = value ∷ late.0

  abbrev after : ℕ → List Draw
  after = with_at w.draws x (repeated x vs (w.draws x))

  -- afterwards the draws of x have the owed repeats added to the last write
  after_here : after x ≡ repeated x vs (w.draws x)
  after_here = again_here x vs w.draws

  -- the draws of any other variable stay
  after_else : (y : ℕ) → y ≢ x → after y ≡ w.draws y
  after_else y ne = again_else x vs w.draws y ne

  -- behind the last write of x no access was performed
  calm : IsCalm x (w.draws x)
  calm = mine.owed.calm x value may.owes

  abbrev w' : World
  w' = record w { draws = after }

  abbrev row : Row
  row = record taken { value = value }

  abbrev g' : Held
  g' = record h { taken = slot.Row row }

  abbrev u : View
  u = paid v h x (slot.Row row)

  -- a draw of another thread is as it was
  foreign : (t y k : ℕ) (a : Draw) → t ≢ s.thread → a.thread ≡ t → DrawAt (after y) k a → DrawAt (w.draws y) k a
  foreign t y k a apart of at = elim (ℕ_discrete y x) [
    | yes e ↦
        (let r = draw_back x vs (w.draws x) k a (subst (λ l. DrawAt l k a) (ap after e ∙ after_here) at) in
        elim r.1.how [
          | inl z ↦ subst (λ q. DrawAt (w.draws q) k a) (sym e) (subst (λ c. DrawAt (w.draws x) k c) (sym z.0) r.1.at)
          | inr z ↦ absurd (let is : r.0 ≡ its.draw = some_draw r.0 its.draw (sym z.1 ∙ its.last)
              in apart (sym of ∙ r.1.same.thread ∙ ap (λ (c : Draw). c.thread) is ∙ own))
        ])
    | no ne ↦ subst (λ l. DrawAt l k a) (after_else y ne) at
  ]

  -- an object that is as it has to be at home is so afterwards, where it is not the row of x
  home_at : (k : ℕ) (y : Slot) → k ≢ suc x → Stands key.setting w b.hold k y → Stands key.setting w' b.hold k y
  home_at zero (slot.List l) ne q = q
  home_at (suc y) (slot.Row r) ne q = (subst (λ ds. RowStands key.setting w.log y ds r) (sym (after_else y (λ e. ne (ap suc e)))) q.0, q.1)
  home_at zero slot.Empty ne q = absurd q
  home_at zero (slot.Row r) ne q = absurd q
  home_at (suc y) slot.Empty ne q = absurd q
  home_at (suc y) (slot.List l) ne q = absurd q

  -- and so is one that is as it has to be while it is held
  held_at : (drew : Option Draw) (k : ℕ) (y : Slot) → k ≢ suc x → StandsHeld key.setting w b.hold drew k y
      → StandsHeld key.setting w' b.hold drew k y
  held_at drew zero (slot.List l) ne q = q
  held_at drew (suc y) (slot.Row r) ne q = (
    record {
      before = q.0.before;
      draws_are = after_else y (λ e. ne (ap suc e))
          ∙ q.0.draws_are;
      stands = q.0.stands;
    },
    q.1,
  )
  held_at drew zero slot.Empty ne q = absurd q
  held_at drew zero (slot.Row r) ne q = absurd q
  held_at drew (suc y) slot.Empty ne q = absurd q
  held_at drew (suc y) (slot.List l) ne q = absurd q

  -- what the pass still owes fits the draws as they are afterwards
  owed_own : OwedFits after u.owed v.shelves
  owed_own = record {
    calm = calms;
    late = lates;
    once = λ y a c p q. mine.owed.once y a c (rest_in x y a v.owed p).0 (rest_in x y c v.owed q).0;
    owes = owe;
    tied = ties;
  }
    where
      old : OwedFits w.draws v.owed v.shelves
      old = mine.owed

      calms : (y : ℕ) (c : ℤ) → Contains u.owed (y, c) → IsCalm y (after y)
      calms y c has = let r = rest_in x y c v.owed has in subst (IsCalm y) (sym (after_else y r.1)) (old.calm y c r.0)

      lates : (y : ℕ) (c : ℤ) → Contains u.owed (y, c) → (r : Shelf) → Contains v.shelves r → (k : ℕ) (d : Draw) → DrawAt (after y) k d
          → last_write y (after y) ≡ Some d → d.thread ≡ r.thread → (rest : List ℤ) × (repeats_of y k r.marked ≡ (c ∷ rest) ++ d.repeats)
      lates y c has r in' k d at last of = let q = rest_in x y c v.owed has in let e = after_else y q.1
          in old.late y c q.0 r in' k d (subst (λ l. DrawAt l k d) e at) (sym (ap (last_write y) e) ∙ last) of

      owe : (y : ℕ) (c : ℤ) → Contains u.owed (y, c) → OwedOne after v.shelves y
      owe y c has =
          let q = rest_in x y c v.owed has in
          let o = old.owes y c q.0 in
          record {
            shelf = o.shelf;
            one = o.one;
            draw = o.draw;
            last = ap (last_write y) (after_else y q.1)
                ∙ o.last;
            own = o.own;
            block = o.block;
            number = o.number;
            value = o.value;
            plain = o.plain;
          }

      ties_x : (r : Shelf) → Contains v.shelves r → (k : ℕ) (d : Draw) → DrawAt (repeated x vs (w.draws x)) k d → d.thread ≡ r.thread
          → (pending : List ℤ) × (repeats_of x k r.marked ≡ pending ++ d.repeats) × (pending ≡ [])
      ties_x r in' k d at of =
          let q = draw_back x vs (w.draws x) k d at in
          let t = old.tied r in' x k q.0 q.1.at (sym q.1.same.thread ∙ of) in
          elim q.1.how [
            | inl z ↦
                elim t.2 [
                  | inl none ↦ (t.0, t.1 ∙ ap (λ (c : Draw). t.0 ++ c.repeats) (sym z.0), none)
                  | inr p ↦
                      absurd
                      (let is : q.0 ≡ its.draw = some_draw q.0 its.draw (sym p.last ∙ its.last) in
                      let n : k ≡ its.number = number_once k (subst (λ c. DrawAt (w.draws x) k c) is q.1.at) in
                      let m : number.0 ≡ its.number = number_once number.0 number.1 in
                      z.1 number.0 its.draw its.last number.1 (λ i a. number_once i a ∙ sym m) (n ∙ sym m))
                ]
            | inr z ↦
                (let is : q.0 ≡ its.draw = some_draw q.0 its.draw (sym z.1 ∙ its.last) in
                let n : k ≡ number.0 = number_once k (subst (λ c. DrawAt (w.draws x) k c) is q.1.at)
                ∙ sym (number_once number.0 number.1) in
                let same : s ≡ r = only r in' in (
                  [],
                  ap (λ (c : Shelf). repeats_of x k c.marked) (sym same) ∙ ap (λ m. repeats_of x m s.marked) n ∙ late.1
                      ∙ ap (λ (c : Draw). vs ++ c.repeats) (sym is) ∙ sym (ap (λ (c : Draw). c.repeats) z.0),
                  refl,
                ))
          ]
        where
          only : (r : Shelf) → Contains v.shelves r → s ≡ r
          only r c = by (subst (λ l. Contains l r) one c)
            where
              by : Contains (s ∷ []) r → s ≡ r
              by (zero, l, e) = e
              by (suc k, l, e) = absurd (omega arith)

      ties : (r : Shelf) → Contains v.shelves r → (y k : ℕ) (d : Draw) → DrawAt (after y) k d → d.thread ≡ r.thread → (pending : List ℤ)
          × (repeats_of y k r.marked ≡ pending ++ d.repeats) × ((pending ≡ []) ⊎ IsPending after u.owed y d pending)
      ties r in' y k d at of = elim (ℕ_discrete y x) [
        | yes e ↦ (let t = ties_x r in' k d (subst (λ l. DrawAt l k d) (ap after e ∙ after_here) at) of
            in (t.0, subst (λ z. repeats_of z k r.marked ≡ t.0 ++ d.repeats) (sym e) t.1, inl t.2))
        | no ne ↦
            (let q = after_else y ne in
            let t = old.tied r in' y k d (subst (λ l. DrawAt l k d) q at) of in (
              t.0,
              t.1,
              elim t.2 [
                | inl z ↦ inl z
                | inr p ↦
                    inr (record {
                      value = p.value;
                      rest = p.rest;
                      is = p.is;
                      owes = in_rest x y p.value v.owed ne p.owes;
                      last = ap (last_write y) q ∙ p.last;
                    })
              ],
            ))
      ]

  -- the value is written back
  pub pays_held : Holds key w' (record { words = st.words; homes = st.homes; views = set st.views id u })
  pays_held =
      let O = HeldOne b.turn w.holder id v.shelves in
      let S = HeldStands key.setting w b.hold in
      let S' = HeldStands key.setting w' b.hold in
      let T = TailsFit (length w.log) b.hold v.seen in
      let turn : O h = All-contains O v.held h mine.turns.held may.held in
      let k = h.object in
      let old = row_in key.setting w b.hold k x h.taken h.drew taken may.object may.is may.first
      (All-contains S v.held h mine.values.held may.held) in
      let stands : RowStands key.setting w.log x (after x) row =
      subst (λ l. RowStands key.setting w.log x l row) (sym after_here)
      (row_repeated key.setting w.log x value late.0 (w.draws x) taken calm old.0) in
      let above : IsAbove row (b.hold (suc x)) = record { at = λ i q. old.1.at i q } in
      let tails : T h = All-contains T v.held h mine.knowledge.tails may.held in
      let tails' : T g' = λ n q. let t = row_tail (length w.log) b.hold v.seen k x n h.taken taken may.object may.is (tails n q)
      in tail_row (length w.log) b.hold v.seen k x n row may.object (t.0, record { last_write = t.1.last_write; reads = t.1.reads }, t.2)
      in
      let below : DrawsBelow w.draws h = All-contains (DrawsBelow w.draws) v.held h mine.refusals.held may.held in
      let below' : DrawsBelow after g' = record {
        at = λ y before a n o is among q. elim (ℕ_discrete y x) [
          | yes e ↦
              (let is' : after y ≡ before = is ∙ ap (λ z. with_draw z before) may.first in
              let r = again_among x vs w.draws y a (subst (λ l. Among l a) (sym is') among) in
              subst (λ z. z < n) (sym r.2.block) (below.at y (w.draws y) r.0 n o (sym (ap (λ z. with_draw z (w.draws y)) may.first)) r.1 q))
          | no ne ↦ absurd (ne (let a : suc y ≡ suc x = sym o ∙ may.object in omega arith))
        ];
      } in
      let cons : (P Q : Held → Type 0) → Q g' → ((g : Held) → g.object ≢ k → P g → Q g) → All P v.held
      → All Q (g' ∷ without k v.held) = λ P Q p step all. All-cons Q g' (without k v.held) p (all_without P Q k v.held step all) in
      let not_x : (g : Held) → g.object ≢ k → g.object ≢ suc x = λ g ne e. ne (e ∙ sym may.object) in record {
        words = H.words;
        whole = record {
          tries = H.whole.tries;
          turns = turns_kept b.turn b.turn w.holder id st.views v u here (λ n near. refl) (λ n o. has_after n v h g' refl o) H.whole.turns;
          positions = H.whole.positions;
          machine = machine_same key.setting w _ refl refl refl refl H.whole.machine;
          numbers = record {
            counts = λ y near. H.whole.numbers.counts y near ∙ sym (again_long x vs w.draws y);
            threads = λ y a among. let r = again_among x vs w.draws y a among
                in subst (λ t. t < THREADS) (sym r.2.thread) (H.whole.numbers.threads y r.0 r.1);
            few = λ y t. subst (λ z. z ≤ 2 ^ 51 + 2) (sym (again_count x vs w.draws t y)) (H.whole.numbers.few y t);
          };
          verdicts = again_all x vs w.draws (λ y ds. DrawsHold w.log y ds)
              (draws_repeated x vs w.log (w.draws x) calm (H.whole.verdicts x)) H.whole.verdicts;
          refused = again_all x vs w.draws (λ y ds. RefusalsHold w.log (w.until y) y ds)
              (refusals_repeated x vs w.log (w.until x) (w.draws x) calm (H.whole.refused x)) H.whole.refused;
          ring = H.whole.ring;
          low = H.whole.low;
        };
        values = record {
          home = λ g near z.
              let r = H.values.home g near z in (
                r.0,
                r.1,
                home_at g r.0 (λ e. let busy = turn.busy in let a : b.turn k ≡ 0 = ap b.turn (may.object ∙ sym e) ∙ z
                    in omega arith) r.2,
              );
        };
        views = each_set id u H.views
            (λ j o away f.
            let P = HeldOne b.turn w.holder j o.shelves in
            let not_it : (g : Held) → P g → g.object ≢ suc x = λ g q e. away (sym q.here ∙ ap w.holder (e ∙ sym may.object) ∙ turn.here) in
            let apart : (r : Shelf) → ShelfFits w.log w.seat j r
            → r.thread ≢ s.thread = λ r q z. away (sym q.here ∙ ap w.seat z ∙ fits.here) in
            let theirs : (y : ℕ) → OwedOne w.draws o.shelves y → y ≢ x = λ y q e.
            let r : ShelfFits w.log w.seat j q.shelf =
            All-contains (ShelfFits w.log w.seat j) o.shelves q.shelf f.positions.shelves
            (subst (λ l. Contains l q.shelf) (sym q.one) (zero, omega arith, refl)) in
            let is : q.draw ≡ its.draw = some_draw q.draw its.draw (sym q.last ∙ ap (λ z. last_write z (w.draws z)) e ∙ its.last) in
            apart q.shelf r (sym q.own ∙ ap (λ (c : Draw). c.thread) is ∙ own) in
            record {
              turns = f.turns;
              tries = f.tries;
              positions = f.positions;
              values = record {
                held = both_map P (HeldStands key.setting w b.hold) S' o.held
                    (λ g q z. held_at g.drew g.object g.taken (not_it g q) z) f.turns.held f.values.held;
              };
              numbers = record {
                shelves = Rattle.gl_rule.proofs.HeldLists.all_map (ShelfDraws w.draws o.drawn) (ShelfDraws after o.drawn)
                    o.shelves (λ r q. record {
                      numbers = again_drawn x vs w.draws r.thread r.marked o.drawn q.numbers;
                      few = λ y. let a =
                          q.few y in let g = again_count x vs w.draws r.thread y in omega arith;
                      two = q.two;
                      above = q.above;
                      runs = q.runs;
                    })
                    f.numbers.shelves;
              };
              knowledge = f.knowledge;
              ring = f.ring;
              quiet = f.quiet;
              refusals = record {
                held = both_map P (DrawsBelow w.draws) (DrawsBelow after) o.held
                    (λ g q z. commits_else w.draws after g (λ y e. after_else y (λ z'. not_it g q (e ∙ ap suc z'))) z) f.turns.held
                    f.refusals.held;
                shelves = f.refusals.shelves;
              };
              carries = f.carries;
              owed = owed_others w.draws after o.owed o.shelves (λ y q. ap (last_write y) (after_else y (theirs y q)))
                  (λ y q c. subst (IsCalm y) (sym (after_else y (theirs y q))) c)
                  (λ r c y n a at of. foreign r.thread y n a
                  (apart r (All-contains (ShelfFits w.log w.seat j) o.shelves r f.positions.shelves c)) of at)
                  f.owed;
            })
            (record {
              tries = mine.tries;
              turns = record {
                held = cons O O (record {
                  named = turn.named;
                  here = turn.here;
                  shelf = turn.shelf;
                  one = turn.one;
                  busy = turn.busy;
                }) (λ g ne q. q) mine.turns.held;
              };
              positions = record { shelves = mine.positions.shelves };
              values = record {
                held = cons S S' (in_row key.setting w' b.hold k x h.drew row may.object may.first (stands, above))
                    (λ g ne q. held_at g.drew g.object g.taken (not_x g ne) q) mine.values.held;
              };
              numbers = record {
                shelves = Rattle.gl_rule.proofs.HeldLists.all_map (ShelfDraws w.draws v.drawn) (ShelfDraws after v.drawn)
                    v.shelves (λ r q. record {
                      numbers = again_drawn x vs w.draws r.thread r.marked v.drawn q.numbers;
                      few = λ y. let a =
                          q.few y in let g = again_count x vs w.draws r.thread y in omega arith;
                      two = q.two;
                      above = q.above;
                      runs = q.runs;
                    })
                    mine.numbers.shelves;
              };
              knowledge = record {
                seen = mine.knowledge.seen;
                own = mine.knowledge.own;
                known = mine.knowledge.known;
                tails = cons T T tails' (λ g ne q. q) mine.knowledge.tails;
                reads = mine.knowledge.reads;
                loaded = mine.knowledge.loaded;
              };
              ring = record {
                floors = cons (FloorFits b.hold) (FloorFits b.hold)
                    (All-contains (FloorFits b.hold) v.held h mine.ring.floors may.held) (λ g ne q. q) mine.ring.floors;
                stored = mine.ring.stored;
                few = mine.ring.few;
                by_holder = elim mine.ring.by_holder [ inl z ↦ inl z | inr o ↦ inr (has_after 0 v h g' refl o) ];
                lows = mine.ring.lows;
              };
              quiet = record { none_live = mine.quiet.none_live };
              refusals = record {
                held = cons (DrawsBelow w.draws) (DrawsBelow after) below'
                    (λ g ne q. commits_else w.draws after g (λ y e. after_else y (λ z. not_x g ne (e ∙ ap suc z))) q) mine.refusals.held;
                shelves = mine.refusals.shelves;
              };
              carries = record { shelves = mine.carries.shelves };
              owed = owed_own;
            });
      }

-- the write-back is no step of the table: whatever step comes next may do it first
pub pays : (key : Key) (slots id : ℕ) (v : View) (c : List (ℕ × Slot)) (s : Shelf) (h : Held) (x : ℕ) (taken : Row) (value : ℤ) (i : ℕ)
    (f : ℕ → ℕ) (tells : ℕ → table.Me Slot View → Type 0) → v.shelves ≡ s ∷ [] → MayPay v h x taken value
    → table.Allows (Rule key) slots id (paid v h x (slot.Row (record taken { value = value })), c) i f tells
    → table.Allows (Rule key) slots id (v, c) i f tells
pays key slots id v c s h x taken value i f tells one may allows st rule long here fits =
    let near = at_within st.views id v here in
    let u = paid v h x (slot.Row (record taken { value = value })) in
    let st' : table.State Slot View = record { words = st.words; homes = st.homes; views = set st.views id u } in
    let r = allows st' (_, pays_held key rule.0 st id v s h x taken value one may rule.1 here) long (set_here st.views id u near) fits in (
      r.0,
      r.1,
      r.2,
      subst (λ vs. Rule key (record
          { words = set st.words i (f (slice_index st.words i)); homes = table.homes_after st.homes c r.1; views = vs }))
          (set_twice st.views id u r.0) r.3,
      r.4,
    )

-- a write-back: the value is put into the row, and the row is put back
pub writes_back : (key : Key) (slots id : ℕ) (v : View) (c : List (ℕ × Slot)) (s : Shelf) (h : Held) (x : ℕ) (taken : Row) (value : ℤ)
    → objects ≤ slots → v.shelves ≡ s ∷ [] → MayPay v h x taken value
    → table.Allows (Rule key) slots id (v, (h.object, slot.Row (record taken { value = value })) ∷ c) (3 * h.object + 1) (λ _. 0)
    (λ _. Left h.object false (paid v h x (slot.Row (record taken { value = value })))
    ((h.object, slot.Row (record taken { value = value })) ∷ c))
writes_back key slots id v c s h x taken value many one may =
    let row : Row = record taken { value = value } in
    let g : Held = record h { taken = slot.Row row } in
    let u : View = paid v h x (slot.Row row) in
    let put : MayPut key.setting s u g x row row = record {
      right = inr (record { stays = λ l ds st. subst (λ d. RowStands key.setting l x (with_draw d ds) row) (sym may.first) st });
      above = λ i q. inr (i, q, omega arith);
    } in
    pays key slots id v ((h.object, slot.Row row) ∷ c) s h x taken value (3 * h.object + 1) (λ _. 0)
    (λ _. Left h.object false u ((h.object, slot.Row row) ∷ c)) one may
    (leaves_turn key slots id u c s g (slot.Row row) false many one (zero, omega arith, refl)
    (leave_at key.setting s u g h.object x row may.object put) (λ e. absurd (let z : false ≡ true = e in cc)))
  where
    leave_at : (setting : Setting) (s : Shelf) (u : View) (g : Held) (k x : ℕ) (row : Row) → k ≡ suc x → MayPut setting s u g x row row
        → MayLeaveAt setting s u g k (slot.Row row) (slot.Row row)
    leave_at setting s u g k x row e put = subst (λ n. MayLeaveAt setting s u g n (slot.Row row) (slot.Row row)) (sym e)
        (let z : MayLeaveAt setting s u g (suc x) (slot.Row row) (slot.Row row) = put in z)
