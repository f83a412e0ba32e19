-- The rule where a seat comes, is cut in two, or is joined to another.
use Rattle.std.proofs.Common.{◌≡◌, ◌≢◌, ℕ, zero, suc, ◌<◌, ◌≤◌, ◌==◌, List, [], ◌∷◌, ◌++◌, length, max, set, sym, refl, ap, subst, arith, ◌∙◌, inl, ⊎_elim, Some, true, false, Bool, eq-eqb, ne_eqb, length-set}
use Rattle.std.specs.Prelude.{Contains, ◌||◌, if◌then◌else◌, slice_get}
use Rattle.std.specs.List.{All}
use Rattle.std.proofs.lemmas.List.Elements.{All-head, All-tail, All-nil, All-cons, All-append}
use mathlib.Core.Option.{some}
use lib.ListN.{get_elem?}
use Rattle.atomic_table.specs.Table as table
use Rattle.atomic_table.proofs.Lists.{at_set, at_longer}
use Rattle.gl_model.specs.declared.event.Stamp.{Stamp}
use Rattle.gl_model.specs.Machine.{Setting, State}
use Rattle.gl_rule.specs.declared.slot.Slot.{Slot}
use Rattle.gl_rule.specs.declared.slot.Slot.TheVariants as slot
use Rattle.gl_rule.specs.Each.{Each}
use Rattle.gl_rule.specs.Objects.{Key, Board, board, capacity}
use Rattle.gl_state.specs.States.{IsQuiet}
use Rattle.gl_rule.specs.View.{View, Shelf, HasObject, CellWord, shelf, blank, both}
use Rattle.gl_rule.specs.World.{World}
use Rattle.gl_rule.specs.Turns.{HeldOne, TurnsHold}
use Rattle.gl_rule.specs.Positions.{ShelfFits}
use Rattle.gl_rule.specs.Numbers.{ShelfDraws}
use Rattle.gl_rule.specs.Values.{Stands, StandsHeld, HeldStands}
use Rattle.gl_rule.specs.Knowledge.{AreBelow, TailsFit, ReadFits, WordFits}
use Rattle.gl_rule.specs.Ring.{ShelfTrims, FloorFits}
use Rattle.gl_rule.specs.Refusals.{DrawsBelow, ShelfRefusals}
use Rattle.gl_rule.specs.Machine.{ShelfCarries}
use Rattle.gl_rule.proofs.Frames.{machine_same}
use Rattle.gl_rule.specs.Owed.{OwedFits}
use Rattle.gl_rule.proofs.Owing.{owed_none, owed_sub, owed_both}
use Rattle.gl_rule.specs.Rule.{Fits, Holds, Rule}
use Rattle.gl_rule.proofs.Each.{each_set, each_add}
use Rattle.gl_rule.proofs.HeldLists.{all_map, both_map, in_cons}
use Rattle.gl_rule.proofs.Frames.{turns_kept}
use Rattle.gl_rule.proofs.Loading.{below_more}
use Rattle.gl_rule.specs.Tries.{TellsTaken}
use Rattle.gl_rule.proofs.Tries.{tries_none, tries_both}

-- a view with nothing but shelves fits, where each of them does and nothing is owed
pub blank_fits : (key : Key) (b : Board) (w : World) (j : ℕ) (l : List Shelf) → All (ShelfFits w.log w.seat j) l
    → All (ShelfDraws w.draws []) l → All (AreBelow 0) l → All (ShelfTrims w.trims) l → All (ShelfRefusals w.until) l
    → All (ShelfCarries w.values) l → OwedFits w.draws [] l → All (TellsTaken w.takers []) l → Fits key b w j (blank l)
blank_fits key b w j l positions numbers own lows refusals carries owed taken = record {
  tries = tries_none w.stopped w.takers l taken;
  owed = owed;
  carries = record { shelves = carries };
  refusals = record { held = All-nil (DrawsBelow w.draws); shelves = refusals };
  turns = record { held = All-nil (HeldOne b.turn w.holder j l) };
  positions = record { shelves = positions };
  values = record { held = All-nil (HeldStands key.setting w b.hold) };
  numbers = record { shelves = numbers };
  knowledge = record {
    seen = omega arith;
    own = own;
    known = All-nil (λ (k : ℕ × Stamp). slice_get w.log k.0 ≡ Some k.1);
    tails = All-nil (TailsFit (length w.log) b.hold 0);
    reads = All-nil (ReadFits b.hold);
    loaded = All-nil (λ (c : CellWord). (c.position < length w.log) × WordFits w.log c);
  };
  ring = record {
    floors = All-nil (FloorFits b.hold);
    stored = λ i near. absurd (omega arith);
    few = omega arith;
    by_holder = inl refl;
    lows = lows;
  };
  quiet = record { none_live = λ e. absurd (cc) };
}

-- a view that knows nothing fits
pub nothing_fits : (key : Key) (b : Board) (w : World) (j : ℕ) → Fits key b w j (blank [])
nothing_fits key b w j = blank_fits key b w j [] (All-nil (ShelfFits w.log w.seat j)) (All-nil (ShelfDraws w.draws []))
    (All-nil (AreBelow 0)) (All-nil (ShelfTrims w.trims)) (All-nil (ShelfRefusals w.until)) (All-nil (ShelfCarries w.values))
    (owed_none w.draws) (All-nil (TellsTaken w.takers []))

-- a value at home stands whatever the seats are
stands_seat : (setting : Setting) (w : World) (seat' hold : ℕ → ℕ) (k : ℕ) (y : Slot) → Stands setting w hold k y
    → Stands setting (record w { seat = seat' }) hold k y
stands_seat setting w seat' hold zero (slot.List l) s = s
stands_seat setting w seat' hold (suc x) (slot.Row row) s = s
stands_seat setting w seat' hold zero slot.Empty s = absurd s
stands_seat setting w seat' hold zero (slot.Row r) s = absurd s
stands_seat setting w seat' hold (suc x) slot.Empty s = absurd s
stands_seat setting w seat' hold (suc x) (slot.List l) s = absurd s

-- a held slot stands whatever the seats are
held_seat : (setting : Setting) (w : World) (seat' hold : ℕ → ℕ) (drew : _) (k : ℕ) (y : Slot) → StandsHeld setting w hold drew k y
    → StandsHeld setting (record w { seat = seat' }) hold drew k y
held_seat setting w seat' hold drew zero (slot.List l) s = s
held_seat setting w seat' hold drew (suc x) (slot.Row row) s =
    (record { before = s.0.before; draws_are = s.0.draws_are; stands = s.0.stands }, s.1)
held_seat setting w seat' hold drew zero slot.Empty s = absurd s
held_seat setting w seat' hold drew zero (slot.Row r) s = absurd s
held_seat setting w seat' hold drew (suc x) slot.Empty s = absurd s
held_seat setting w seat' hold drew (suc x) (slot.List l) s = absurd s

-- a pass fits after seats change, if each list of it does
fits_seat : (key : Key) (b : Board) (w : World) (seat' : ℕ → ℕ) (j : ℕ) (v : View)
    → ((s : Shelf) → ShelfFits w.log w.seat j s → ShelfFits w.log seat' j s) → Fits key b w j v → Fits key b (record w { seat = seat' }) j v
fits_seat key b w seat' j v moves f =
    let w' : World = record w { seat = seat' } in record {
      turns = f.turns;
      tries = f.tries;
      positions = record { shelves = all_map (ShelfFits w.log w.seat j) (ShelfFits w.log seat' j) v.shelves moves f.positions.shelves };
      values = record {
        held = all_map (HeldStands key.setting w b.hold) (HeldStands key.setting w' b.hold) v.held
            (λ h s. held_seat key.setting w seat' b.hold h.drew h.object h.taken s) f.values.held;
      };
      numbers = f.numbers;
      knowledge = f.knowledge;
      ring = f.ring;
      quiet = f.quiet;
      refusals = f.refusals;
      carries = f.carries;
      owed = f.owed;
    }

-- turns hold still when passes are added at the end
turns_longer : (turn holder : ℕ → ℕ) (views more : List View) → TurnsHold turn holder views → TurnsHold turn holder (views ++ more)
turns_longer turn holder views more p = record {
  named = p.named;
  busy = λ k near nz. let q = p.busy k near nz
      in (q.0, at_longer views more (holder k) q.0 q.1, q.2);
}

-- the table holds with other views and other seats of threads, where each of the views fits and the turns are held
with_views : (key : Key) (w : World) (s : table.State Slot View) (seat' : ℕ → ℕ) (views : List View) → Holds key w s
    → TurnsHold (board (capacity key) s.words).turn w.holder views
    → Each (Fits key (board (capacity key) s.words) (record w { seat = seat' })) views
    → Holds key (record w { seat = seat' }) (record { words = s.words; homes = s.homes; views = views })
with_views key w s seat' views H turns each =
    let b = board (capacity key) s.words in record {
      words = H.words;
      whole = record {
        turns = turns;
        tries = H.whole.tries;
        positions = H.whole.positions;
        machine = machine_same key.setting w _ refl refl refl refl H.whole.machine;
        numbers = H.whole.numbers;
        verdicts = H.whole.verdicts;
        refused = H.whole.refused;
        ring = H.whole.ring;
        low = H.whole.low;
      };
      values = record { home = λ k near z. let r = H.values.home k near z in (r.0, r.1, stands_seat key.setting w seat' b.hold k r.0 r.2) };
      views = each;
    }

-- a new seat with nothing may come in
pub enters : (key : Key) (slots i : ℕ) → table.Enters (Rule key) slots i (λ n u. u ≡ blank [])
enters key slots i s rule long fits =
    let w = rule.0 in
    let H = rule.1 in
    let b = board (capacity key) s.words in
    let same : (s : Shelf) (j : ℕ) → ShelfFits w.log w.seat j s → ShelfFits w.log w.seat j s = λ s j f. f in (
      blank [],
      (
        w,
        record {
          words = H.words;
          whole =
              record {
                tries = H.whole.tries;
                turns = turns_longer b.turn w.holder s.views (blank [] ∷ []) H.whole.turns;
                positions = H.whole.positions;
                machine = machine_same key.setting w _ refl refl refl refl H.whole.machine;
                numbers = H.whole.numbers;
                verdicts = H.whole.verdicts;
                refused = H.whole.refused;
                ring = H.whole.ring;
                low = H.whole.low;
              };
          values = H.values;
          views = each_add (blank []) H.views (λ j o near f. f) (nothing_fits key b w (length s.views));
        },
      ),
      refl,
    )

-- what is in a one-element list is in a list that begins with that element
in_first : (s : Shelf) (l : List Shelf) (r : Shelf) → Contains (s ∷ []) r → Contains (s ∷ l) r
in_first s l r (zero, q, e) = (zero, omega arith, e)
in_first s l r (suc k, q, e) = absurd (omega arith)

-- the seat of each thread, where one thread's changes
abbrev moved : (ℕ → ℕ) → ℕ → ℕ → ℕ → ℕ
moved seat t j k = if k == t then j else seat k

-- a thread that is moved to a seat sits there
moved_here : (seat : ℕ → ℕ) (t j : ℕ) → moved seat t j t ≡ j
moved_here seat t j = let b : (t == t) ≡ true = eq-eqb t t refl in rw b refl

-- moving a thread leaves the seats of the others
moved_other : (seat : ℕ → ℕ) (t j k : ℕ) → k ≢ t → moved seat t j k ≡ seat k
moved_other seat t j k ne = let b : (k == t) ≡ false = ne_eqb k t ne in rw b refl

-- a list of another thread fits still when a thread is moved
shelf_moves : (log : List Stamp) (seat : ℕ → ℕ) (t i j : ℕ) (s : Shelf) → s.thread ≢ t → ShelfFits log seat j s
    → ShelfFits log (moved seat t i) j s
shelf_moves log seat t i j s ne f = record {
  here = moved_other seat t i s.thread ne
      ∙ f.here;
  named = f.named;
  events = f.events;
  form = f.form;
  made = f.made;
}

-- a seat is cut: the first thread goes to a new one
pub splits : (key : Key) (id t : ℕ) (v : View) (l : List Shelf) → v ≡ blank (shelf t [] ∷ l) → All (λ (r : Shelf). r.thread ≢ t) l
    → table.Splits (Rule key) id v (blank l) (blank (shelf t [] ∷ []))
splits key id t v l is apart s rule at =
    let w = rule.0 in
    let H = rule.1 in
    let b = board (capacity key) s.words in
    let sh = shelf t [] in
    let mine : Fits key b w id (blank (sh ∷ l)) = subst (Fits key b w id) is (H.views.at id v at) in
    let new = length s.views in
    let seat' : ℕ → ℕ = moved w.seat t new in
    let w' : World = record w { seat = seat' } in
    let P = ShelfFits w.log w.seat id in
    let own : P sh = All-head P sh l mine.positions.shelves in
    let left : Fits key b w' id (blank l) = blank_fits key b w' id l
    (both_map P (λ (r : Shelf). r.thread ≢ t) (ShelfFits w.log seat' id) l (λ r p q. shelf_moves w.log w.seat t new id r q p)
    (All-tail P sh l mine.positions.shelves) apart)
    (All-tail (ShelfDraws w.draws []) sh l mine.numbers.shelves) (All-tail (AreBelow 0) sh l mine.knowledge.own)
    (All-tail (ShelfTrims w.trims) sh l mine.ring.lows) (All-tail (ShelfRefusals w.until) sh l mine.refusals.shelves)
    (All-tail (ShelfCarries w.values) sh l mine.carries.shelves) (owed_sub w.draws (sh ∷ l) l (λ r c. in_cons sh l r c) mine.owed)
    (All-tail (TellsTaken w.takers []) sh l mine.tries.taken) in
    let one : (Q : Shelf → Type 0) → Q sh → All Q (sh ∷ []) = λ Q q. All-cons Q sh [] q (All-nil Q) in
    let right : Fits key b w' new (blank (sh ∷ [])) = blank_fits key b w' new (sh ∷ [])
    (one (ShelfFits w.log seat' new) (record {
      here = moved_here w.seat t new;
      named = own.named;
      events = own.events;
      form = own.form;
      made = own.made;
    }))
    (one (ShelfDraws w.draws []) (All-head (ShelfDraws w.draws []) sh l mine.numbers.shelves))
    (one (AreBelow 0) (All-head (AreBelow 0) sh l mine.knowledge.own))
    (one (ShelfTrims w.trims) (All-head (ShelfTrims w.trims) sh l mine.ring.lows))
    (one (ShelfRefusals w.until) (All-head (ShelfRefusals w.until) sh l mine.refusals.shelves))
    (one (ShelfCarries w.values) (All-head (ShelfCarries w.values) sh l mine.carries.shelves))
    (owed_sub w.draws (sh ∷ l) (sh ∷ []) (λ r c. in_first sh l r c) mine.owed)
    (one (TellsTaken w.takers []) (All-head (TellsTaken w.takers []) sh l mine.tries.taken)) in
    let cut : Each (Fits key b w') (set s.views id (blank l)) =
    each_set id (blank l) H.views (λ j o away f. fits_seat key b w seat' j o
    (λ r p. shelf_moves w.log w.seat t new j r (λ same. away (sym p.here ∙ ap w.seat same ∙ own.here)) p) f) left in
    let size : length (set s.views id (blank l)) ≡ new = length-set s.views id (blank l) in
    let keeps : (k : ℕ) → HasObject v k → HasObject (blank l) k =
    λ k o. absurd (let c = o.1.1 in let e : length v.held ≡ 0 = ap (λ (x : View). length x.held) is in omega arith) in (
      w',
      with_views key w s seat' (set s.views id (blank l) ++ blank (sh ∷ []) ∷ []) H
          (turns_longer b.turn w.holder (set s.views id (blank l)) (blank (sh ∷ []) ∷ [])
          (turns_kept b.turn b.turn w.holder id s.views v (blank l) at (λ k near. refl) keeps H.whole.turns))
          (each_add (blank (sh ∷ [])) cut (λ j o near f. f) (subst (λ n. Fits key b w' n (blank (sh ∷ []))) (sym size) right)),
    )

-- the seat of each thread, where all threads of one go to another
abbrev joined : (ℕ → ℕ) → ℕ → ℕ → ℕ → ℕ
joined seat from to k = if seat k == from then to else seat k

-- who sat at a seat that is joined to another sits at the other
joined_from : (seat : ℕ → ℕ) (from to k : ℕ) → seat k ≡ from → joined seat from to k ≡ to
joined_from seat from to k e = let b : (seat k == from) ≡ true = eq-eqb (seat k) from e in rw b refl

-- who sat elsewhere than at the joined seat sits where he sat
joined_other : (seat : ℕ → ℕ) (from to k : ℕ) → seat k ≢ from → joined seat from to k ≡ seat k
joined_other seat from to k ne = let b : (seat k == from) ≡ false = ne_eqb (seat k) from ne in rw b refl

-- a list of a pass that is not joined fits still after the seats are joined
shelf_joined : (log : List Stamp) (seat : ℕ → ℕ) (from to j : ℕ) (s : Shelf) → j ≢ from → ShelfFits log seat j s
    → ShelfFits log (joined seat from to) j s
shelf_joined log seat from to j s far p =
    record {
      here = joined_other seat from to s.thread (λ e. far (sym p.here ∙ e))
          ∙ p.here;
      named = p.named;
      events = p.events;
      form = p.form;
      made = p.made;
    }

-- either of two quiet flags means that the machine is quiet, if each does
quiet_both : (now : State) (a c : Bool) → (a ≡ true → IsQuiet now) → (c ≡ true → IsQuiet now) → (a || c) ≡ true → IsQuiet now
quiet_both now true c f g e = f refl
quiet_both now false true f g e = g refl
quiet_both now false false f g e = absurd (cc)

-- a seat takes in another's shelves
pub joins : (key : Key) (id other : ℕ) (v u : View) (r : Shelf) → (v.shelves ≡ [] → v.reads ≡ []) → Contains u.shelves r → u.held ≡ []
    → v.held ≡ [] → u.drawn ≡ [] → v.drawn ≡ [] → v.stored ≡ [] → u.owed ≡ [] → v.owed ≡ []
    → table.Joins (Rule key) id v other u (both v u) (blank [])
joins key id other v u r unread has free idle none empty bare paid clear s rule at apart there =
    let w = rule.0 in
    let H = rule.1 in
    let b = board (capacity key) s.words in
    let there' : get_elem? s.views other ≡ some u =
    ⊎_elim (λ (t : (other ≡ id) × (both v u ≡ u)). absurd (apart t.0)) (λ (t : (other ≢ id) × (get_elem? s.views other ≡ some u)). t.1)
    (at_set s.views id other (both v u) u there) in
    let mine : Fits key b w id v = H.views.at id v at in
    let theirs : Fits key b w other u = H.views.at other u there' in
    let seat' : ℕ → ℕ = joined w.seat other id in
    let w' : World = record w { seat = seat' } in
    let S : ℕ → Shelf → Type 0 = ShelfFits w.log w.seat in
    let S' : ℕ → Shelf → Type 0 = ShelfFits w.log seat' in
    let m = max v.seen u.seen in
    let vm : v.seen ≤ m = omega arith in
    let um : u.seen ≤ m = omega arith in
    let a = mine.knowledge.seen in
    let q = theirs.knowledge.seen in
    let apart' : id ≢ other = λ e. apart (sym e) in
    let own : Fits key b w' id (both v u) = record {
      tries = tries_both w.stopped w.takers v u r unread has mine.tries theirs.tries;
      turns = record {
        held = subst (λ l. All (HeldOne b.turn w.holder id (v.shelves ++ u.shelves)) l) (sym idle)
            (All-nil (HeldOne b.turn w.holder id (v.shelves ++ u.shelves)));
      };
      positions = record {
        shelves = All-append (S' id) v.shelves u.shelves
            (all_map (S id) (S' id) v.shelves (λ r p. shelf_joined w.log w.seat other id id r apart' p) mine.positions.shelves)
            (all_map (S other) (S' id) u.shelves (λ r p. record {
              here = joined_from w.seat other id r.thread p.here;
              named = p.named;
              events = p.events;
              form = p.form;
              made = p.made;
            }) theirs.positions.shelves);
      };
      values = record {
        held = subst (λ l. All (HeldStands key.setting w' b.hold) l) (sym idle)
            (All-nil (HeldStands key.setting w' b.hold));
      };
      numbers = record {
        shelves = All-append (ShelfDraws w.draws v.drawn) v.shelves u.shelves mine.numbers.shelves
            (subst (λ d. All (ShelfDraws w.draws d) u.shelves) (none ∙ sym empty) theirs.numbers.shelves);
      };
      knowledge = record {
        seen = omega arith;
        own = All-append (AreBelow m) v.shelves u.shelves
            (all_map (AreBelow v.seen) (AreBelow m) v.shelves (λ r p. below_more v.seen m r vm p) mine.knowledge.own)
            (all_map (AreBelow u.seen) (AreBelow m) u.shelves (λ r p. below_more u.seen m r um p) theirs.knowledge.own);
        known = mine.knowledge.known;
        tails = subst (λ l. All (TailsFit (length w.log) b.hold m) l) (sym idle) (All-nil (TailsFit (length w.log) b.hold m));
        reads = All-append (ReadFits b.hold) v.reads u.reads mine.knowledge.reads theirs.knowledge.reads;
        loaded = mine.knowledge.loaded;
      };
      ring = record {
        floors = mine.ring.floors;
        stored = mine.ring.stored;
        few = mine.ring.few;
        by_holder = inl bare;
        lows = All-append (ShelfTrims w.trims) v.shelves u.shelves mine.ring.lows theirs.ring.lows;
      };
      owed = owed_both w.draws v.owed v.shelves u.shelves clear mine.owed (subst (λ l. OwedFits w.draws l u.shelves) paid theirs.owed);
      carries = record { shelves = All-append (ShelfCarries w.values) v.shelves u.shelves mine.carries.shelves theirs.carries.shelves };
      refusals = record {
        held = subst (λ l. All (DrawsBelow w.draws) l) (sym idle) (All-nil (DrawsBelow w.draws));
        shelves = All-append (ShelfRefusals w.until) v.shelves u.shelves mine.refusals.shelves theirs.refusals.shelves;
      };
      quiet = record { none_live = quiet_both w.now v.quiet u.quiet mine.quiet.none_live theirs.quiet.none_live };
    } in
    let P : ℕ → View → Type 0 = λ j o. j ≢ other → Fits key b w' j o in
    let half : Each P (set s.views id (both v u)) =
    each_set id (both v u) H.views (λ j o away f far. fits_seat key b w seat' j o (λ r p. shelf_joined w.log w.seat other id j r far p)
    f) (λ _. own) in
    let cut : Each (Fits key b w') (set (set s.views id (both v u)) other (blank [])) =
    each_set other (blank []) half (λ j o away f. f away) (nothing_fits key b w' other) in
    let none_held : (x : View) (k : ℕ) → x.held ≡ [] → HasObject x k → (Q : Type 0)
    → Q = λ x k e o Q. absurd (let c = o.1.1 in let z : length x.held ≡ 0 = ap length e in omega arith) in (
      w',
      with_views key w s seat' (set (set s.views id (both v u)) other (blank [])) H
          (turns_kept b.turn b.turn w.holder other (set s.views id (both v u)) u (blank []) there (λ k near. refl)
          (λ k o. none_held u k free o (HasObject (blank []) k))
          (turns_kept b.turn b.turn w.holder id s.views v (both v u) at (λ k near. refl) (λ k o. o) H.whole.turns))
          cut,
    )
