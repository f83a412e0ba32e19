-- The rule when the first segment is raised.
use Rattle.std.proofs.Common.{◌≡◌, ◌≢◌, ℕ, zero, suc, ◌+◌, ◌*◌, ◌<◌, ◌≤◌, List, [], ◌∷◌, ◌++◌, length, max, set, sym, refl, ap, subst, arith, ◌∙◌, inl, inr, Some, true, false, Bool, mul-le-mul_right}
use Rattle.std.specs.Prelude.{Contains, ◌⊎◌, nat_lt, if◌then◌else◌}
use Rattle.std.proofs.lemmas.Bool.{ltb-true, ltb-false}
use Rattle.std.proofs.lemmas.List.Elements.{All-contains, All-push}
use native.Mathlib.Decide.{ℕ_discrete}
use Rattle.atomic_table.specs.Table as table
use Rattle.gl_model.specs.declared.limits.TheConstants.{THREADS, VARIABLES}
use Rattle.gl_model.specs.Entries.{Trim}
use Rattle.gl_model.specs.Form.{At, IsEnd, Draws}
use Rattle.gl_model.specs.Records.{position_of}
use Rattle.gl_draws.proofs.DrawCounts.{counted_more}
use Rattle.gl_draws.proofs.DrawTies.{drawn_push}
use Rattle.gl_draws.proofs.EventTies.{events_push}
use Rattle.gl_draws.proofs.Pushes.{at_cases, at_kept, at_new, last_push}
use Rattle.gl_rule.specs.declared.slot.Slot.{Slot}
use Rattle.gl_rule.specs.Objects.{Key, board, capacity, objects}
use Rattle.gl_rule.specs.View.{View, Shelf, Hold, shelf, lowered}
use Rattle.gl_rule.specs.World.{World}
use Rattle.gl_rule.specs.Turns.{HeldOne}
use Rattle.gl_draws.specs.Forming.{MayStore}
use Rattle.gl_rule.specs.Positions.{ShelfFits}
use Rattle.gl_rule.specs.Numbers.{ShelfDraws}
use Rattle.gl_rule.specs.Knowledge.{AreBelow, ReadFits}
use Rattle.gl_rule.specs.Values.{HeldStands}
use Rattle.gl_rule.specs.Ring.{RingHolds, LowHolds, ShelfTrims}
use Rattle.gl_rule.specs.Refusals.{ShelfRefusals}
use Rattle.gl_draws.proofs.Refusing.{refusals_push}
use Rattle.gl_rule.specs.Machine.{ShelfCarries}
use Rattle.gl_rule.specs.Owed.{OwedFits}
use Rattle.gl_rule.proofs.Owing.{owed_push}
use Rattle.gl_rule.proofs.Refusing.{carries_push}
use Rattle.gl_rule.specs.Fitting.{MayTrim}
use Rattle.gl_rule.specs.Rule.{Fits, Rule}
use Rattle.gl_rule.specs.Told.{Lowered}
use Rattle.gl_rule.proofs.Each.{each_set}
use Rattle.gl_rule.proofs.Words.{still_long, hold_here, hold_else, hold_turns, hold_counts, hold_cells, hold_stop, SameTurns, SameCounts, SameCells}
use Rattle.gl_rule.proofs.HeldLists.{all_map, only_shelf, one_shelf, in_cons}
use Rattle.gl_draws.proofs.Forming.{formed_push}
use Rattle.gl_rule.proofs.Frames.{machine_same, turns_kept}
use Rattle.gl_rule.proofs.Publishing.{same_thread}
use Rattle.gl_rule.proofs.Raising.{fits_holds, stands_at', trim_home, trim_held}
use Rattle.gl_rule.proofs.Tries.{tries_moved, tries_same, tries_saw}

-- the pass's list and the Trims afterwards
record LowFacts (w : World) (id : ℕ) (v : View) (s s' : Shelf) (trims' : List (ℕ × ℕ)) (m : ℕ) : Type 0 where
  thread : s'.thread ≡ s.thread
  fits : ShelfFits w.log w.seat id s'
  draws : ShelfDraws w.draws v.drawn s'
  below : AreBelow v.seen s'
  lows : ShelfTrims trims' s'
  low : LowHolds m trims'
  refusals : ShelfRefusals w.until s'
  carries : ShelfCarries w.values s'
  owed : OwedFits w.draws v.owed (s' ∷ [])
  others : (r : Shelf) → r.thread ≢ s.thread → ShelfTrims w.trims r → ShelfTrims trims' r

-- a trim draws no number
no_draw : (to x k : ℕ) → Draws (Trim to) x k → ⊥
no_draw to x k (inl d) = d
no_draw to x k (inr d) = d

-- where the first kept segment rose, the Trim is as it has to be in the list of the pass and among the Trims
rose : (key : Key) (w : World) (id n to : ℕ) (v : View) (s : Shelf) → n < to → MayTrim key s v to → ShelfRefusals w.until s
    → ShelfCarries w.values s → OwedFits w.draws v.owed (s ∷ []) → ShelfFits w.log w.seat id s → ShelfDraws w.draws v.drawn s
    → AreBelow v.seen s → ShelfTrims w.trims s → LowHolds n w.trims
    → LowFacts w id v s (shelf s.thread (s.marked ++ Trim to ∷ [])) ((s.thread, to) ∷ w.trims) to
rose key w id n to v s up may g cs o f d b t low = record {
  owed = owed_push w.draws v.owed (s ∷ []) s (Trim to) refl (λ a c. last_push s.marked (Trim to)) (λ x k. refl) o;
  carries = carries_push w.values s.thread s.marked (Trim to) refl cs;
  refusals = refusals_push w.until s.marked (Trim to) (λ tx var e. absurd (cc)) g;
  thread = refl;
  fits = record {
    here = f.here;
    named = f.named;
    events = events_push w.log s.thread s.marked f.events (Trim to) refl;
    form = formed_push s.thread s.marked (Trim to) store f.form;
    made = (let a = f.made in let c = counted_more s.marked (Trim to) in omega arith);
  };
  draws = record {
    numbers = drawn_push w.draws s.thread s.marked v.drawn (Trim to) (no_draw to) d.numbers;
    few = λ x. let a = d.few x in let c = counted_more s.marked (Trim to) in omega arith;
    two = d.two;
    above = λ x k m i e o at dr has. elim (at_cases s.marked (Trim to) e i at) [
      | inl old ↦ d.above x k m i e o old dr has
      | inr new ↦ absurd (no_draw to x k (subst (λ z. Draws z x k) new.1 dr))
    ];
    runs = λ o has. let r = d.runs o has in (
      r.0,
      last_push s.marked (Trim to)
          ∙ r.1,
      λ i e at z. elim (at_cases s.marked (Trim to) e i at) [
        | inl old ↦ r.2 i e old z
        | inr new ↦ (let a : IsEnd (Trim to) = subst IsEnd new.1 z in a)
      ],
    );
  };
  below = λ i p e at q. elim (at_cases s.marked (Trim to) e i at) [
    | inl old ↦ b i p e old q
    | inr new ↦ absurd (let a : position_of (Trim to) ≡ Some p = subst (λ z. position_of z ≡ Some p) new.1 q in cc)
  ];
  lows = record {
    made = λ i l at. elim (at_cases s.marked (Trim to) (Trim l) i at) [
      | inl old ↦ in_cons (s.thread, to) w.trims (s.thread, l) (t.made i l old)
      | inr new ↦ (zero, omega arith, (let same : to ≡ l = sym (trim_is l to new.1) in ap (λ z. (s.thread, z)) same))
    ];
    kept = λ l has. kept l has;
  };
  low = record {
    below = λ o has. below o has;
    last = inr (s.thread, w.trims, refl);
    once = λ o r a c same. once o r a c same;
    named = named;
  };
  others = λ r ne q. record {
    made = λ i l at. in_cons (s.thread, to) w.trims (r.thread, l) (q.made i l at);
    kept = λ l has. other r ne q l has;
  };
}
  where
    trim_is : (a c : ℕ) → Trim a ≡ Trim c → a ≡ c
    trim_is a c e = cc

    store : MayStore s.thread s.marked (Trim to)
    store = record {
      well_formed = tt;
      begins = λ not all. absurd (not tt);
      lows = λ i l h at e. let c = low.below (s.thread, l) (t.made i l at) in let q = trim_is to h e in omega arith;
      after_end = λ i e at last. ((λ z. absurd (may.not_over i e at z)), λ z. absurd z);
      open_still = λ i e at z. may.still_open i e at z;
      cached = λ x k write value e. absurd (cc);
      repeats = λ x k value e. absurd (cc);
    }

    kept : (l : ℕ) → Contains ((s.thread, to) ∷ w.trims) (s.thread, l) → (i : ℕ) × At (s.marked ++ Trim to ∷ []) i (Trim l)
    kept l (zero, q, e) = let same : to ≡ l = ap (λ (z : ℕ × ℕ). z.1) e
        in (length s.marked, subst (λ z. At (s.marked ++ Trim to ∷ []) (length s.marked) (Trim z)) same (at_new s.marked (Trim to)))
    kept l (suc k, q, e) = let r = t.kept l (k, omega arith, e) in (r.0, at_kept s.marked (Trim to ∷ []) r.0 (Trim l) r.1)

    other : (r : Shelf) → r.thread ≢ s.thread → ShelfTrims w.trims r → (l : ℕ) → Contains ((s.thread, to) ∷ w.trims) (r.thread, l)
        → (i : ℕ) × At r.marked i (Trim l)
    other r ne p l (zero, q, e) = absurd (ne (sym (ap (λ (z : ℕ × ℕ). z.0) e)))
    other r ne p l (suc k, q, e) = p.kept l (k, omega arith, e)

    below : (o : ℕ × ℕ) → Contains ((s.thread, to) ∷ w.trims) o → o.1 ≤ to
    below o (zero, q, e) = let a : to ≡ o.1 = ap (λ (z : ℕ × ℕ). z.1) e in omega arith
    below o (suc k, q, e) = let a = low.below o (k, omega arith, e) in omega arith

    named : (o : ℕ × ℕ) → Contains ((s.thread, to) ∷ w.trims) o → o.0 < THREADS
    named o (zero, q, e) = subst (λ z. z < THREADS) (ap (λ (z : ℕ × ℕ). z.0) e) f.named
    named o (suc k, q, e) = low.named o (k, omega arith, e)

    once : (o r : ℕ × ℕ) → Contains ((s.thread, to) ∷ w.trims) o → Contains ((s.thread, to) ∷ w.trims) r → o.1 ≡ r.1 → o.0 ≡ r.0
    once o r (zero, q, e) (zero, q', e') same = sym (ap (λ (z : ℕ × ℕ). z.0) e) ∙ ap (λ (z : ℕ × ℕ). z.0) e'
    once o r (zero, q, e) (suc k, q', e') same = let a : to ≡ o.1 = ap (λ (z : ℕ × ℕ). z.1) e in let c = low.below r (k, omega arith, e')
        in absurd (omega arith)
    once o r (suc k, q, e) (zero, q', e') same = let a : to ≡ r.1 = ap (λ (z : ℕ × ℕ). z.1) e' in let c = low.below o (k, omega arith, e)
        in absurd (omega arith)
    once o r (suc k, q, e) (suc k', q', e') same = low.once o r (k, omega arith, e) (k', omega arith, e') same

-- where no Trim is stored, the pass's list and the Trims are as before
stayed : (w : World) (id n : ℕ) (v : View) (s : Shelf) → ShelfRefusals w.until s → ShelfCarries w.values s
    → OwedFits w.draws v.owed (s ∷ []) → ShelfFits w.log w.seat id s → ShelfDraws w.draws v.drawn s → AreBelow v.seen s
    → ShelfTrims w.trims s → LowHolds n w.trims → LowFacts w id v s (shelf s.thread s.marked) w.trims n
stayed w id n v s g cs o f d b t low = record {
  thread = refl;
  owed = o;
  carries = cs;
  refusals = g;
  fits = f;
  draws = d;
  below = b;
  lows = t;
  low = low;
  others = λ r ne q. q;
}

-- raising the first segment that is kept keeps the rule
pub raises_low : (key : Key) (slots id to : ℕ) (v : View) (c : List (ℕ × Slot)) (s : Shelf) → v.shelves ≡ s ∷ [] → MayTrim key s v to
    → table.Allows (Rule key) slots id (v, c) 2 (λ n. max n to) (Lowered s to v c)
raises_low key slots id to v c s one may st rule long here fits =
    let w = rule.0 in
    let H = rule.1 in
    let cap = capacity key in
    let b = board cap st.words in
    let n = b.hold 0 in
    let mine : Fits key b w id v = H.views.at id v here in
    let f : ShelfFits w.log w.seat id s = only_shelf (ShelfFits w.log w.seat id) v s one mine.positions.shelves in
    let d : ShelfDraws w.draws v.drawn s = only_shelf (ShelfDraws w.draws v.drawn) v s one mine.numbers.shelves in
    let q : AreBelow v.seen s = only_shelf (AreBelow v.seen) v s one mine.knowledge.own in
    let t : ShelfTrims w.trims s = only_shelf (ShelfTrims w.trims) v s one mine.ring.lows in
    let m = max n to in
    let s' : Shelf = if nat_lt n to then shelf s.thread (s.marked ++ Trim to ∷ []) else shelf s.thread s.marked in
    let trims' : List (ℕ × ℕ) = if nat_lt n to then (s.thread, to) ∷ w.trims else w.trims in
    let L : LowFacts w id v s s' trims' m = (by w n (only_shelf (ShelfRefusals w.until) v s one mine.refusals.shelves)
    (only_shelf (ShelfCarries w.values) v s one mine.carries.shelves) (subst (λ l. OwedFits w.draws v.owed l) one mine.owed) f d q t
    H.whole.low) in
    let up : n ≤ m = omega arith in
    let which : (m ≡ n) ⊎ (m ≡ to) = max_is n to in
    let near : 0 < objects = omega arith in
    let b' = board cap (set st.words 2 m) in
    let turns : SameTurns b b' = hold_turns cap st.words H.words 0 near m in
    let counts : SameCounts b b' = hold_counts cap st.words H.words 0 near m in
    let cells : SameCells b b' = hold_cells cap st.words H.words 0 near m in
    let hit : b'.hold 0 ≡ m = hold_here cap st.words H.words 0 near m in
    let other : (g : ℕ) → g ≢ 0 → b'.hold g ≡ b.hold g = hold_else cap st.words H.words 0 near m in
    let rises : (g : ℕ) → g < objects → b.hold g ≤ b'.hold g =
    λ g z. elim (ℕ_discrete g 0) [
      | yes e ↦ (let a : b'.hold g ≡ m = ap b'.hold e ∙ hit in let y : b.hold g ≡ n = ap b.hold e
          in omega arith)
      | no ne ↦ (let a = other g ne in omega arith)
    ] in
    let from : ℕ = n * key.cells in
    let from' : ℕ = m * key.cells in
    let up_from : from ≤ from' = mul-le-mul_right key.cells up in
    let below : (x : ℕ) → x < VARIABLES → from' ≤ b.hold (suc x) = λ x z. elim which [
      | inl e ↦ subst (λ k. k * key.cells ≤ b.hold (suc x)) (sym e) (H.whole.ring.holds x z).0
      | inr e ↦ subst (λ k. k * key.cells ≤ b.hold (suc x)) (sym e) (let r = may.holds x z
          in let a : ReadFits b.hold (Hold (suc x) r.0) = All-contains (ReadFits b.hold) v.reads (Hold (suc x) r.0) mine.knowledge.reads r.1
          in let y = a.1 in let k : ℕ = to * key.cells in let g : k ≤ r.0 = r.2 in let done : k ≤ b.hold (suc x) = omega arith in done)
    ] in
    let ring : RingHolds cap (b'.hold 0 * key.cells) b' w.log = subst (λ z. RingHolds cap (z * key.cells) b' w.log) (sym hit) (record {
      cells = λ p i r ge at few. let g : from' ≤ p = ge in let g' : from ≤ p = omega arith in cells p i
          ∙ H.whole.ring.cells p i r g' at few;
      room = (let r : length w.log ≤ from + cap = H.whole.ring.room in let done : length w.log ≤ from' + cap = omega arith in done);
      holds = λ x z. let sm = other (suc x) (λ e. omega arith)
          in (subst (λ k. from' ≤ k) (sym sm) (below x z), subst (λ k. k ≤ length w.log) (sym sm) (H.whole.ring.holds x z).1);
    }) in
    let u = lowered v s.thread s.marked n to in
    let w' : World = record w { trims = trims' } in
    let O = HeldOne b.turn w.holder id v.shelves in
    let Q1 = HeldOne b'.turn w.holder id (s' ∷ []) in
    let held : Fits key b' (record w { trims = w.trims }) id v =
    fits_holds key b b' w w.trims id v turns cells (λ g p nz. other g.object nz) rises (λ r a z. z) mine in
    let own : Fits key b' w' id u = record {
      tries = tries_saw w.stopped w.takers (s' ∷ []) (v.reads ++ Hold 0 n ∷ []) (Hold 0 m) tt (λ r g by own is. absurd (cc))
          (tries_saw w.stopped w.takers (s' ∷ []) v.reads (Hold 0 n) tt (λ r g by own is. absurd (cc))
          (tries_moved w.stopped w.takers v s s' one L.thread mine.tries));
      turns = record {
        held = all_map O Q1 v.held
            (λ g p. record {
              named = p.named;
              here = p.here;
              shelf = s';
              one = refl;
              busy = turns g.object p.named ∙ p.busy
                  ∙ ap (λ k. k + 1) (same_thread v p.shelf s p.one one ∙ sym L.thread);
            }) mine.turns.held;
      };
      positions = record { shelves = one_shelf (ShelfFits w.log w.seat id) s' L.fits };
      values = record {
        held = all_map (HeldStands key.setting w b'.hold) (HeldStands key.setting w' b'.hold) v.held
            (λ g a. trim_held key.setting w trims' b'.hold g.drew g.object g.taken a) held.values.held;
      };
      numbers = record { shelves = one_shelf (ShelfDraws w.draws v.drawn) s' L.draws };
      knowledge = record {
        seen = mine.knowledge.seen;
        own = one_shelf (AreBelow v.seen) s' L.below;
        known = mine.knowledge.known;
        tails = held.knowledge.tails;
        reads = All-push (ReadFits b'.hold) (v.reads ++ Hold 0 n ∷ []) (Hold 0 m)
            (All-push (ReadFits b'.hold) v.reads (Hold 0 n) held.knowledge.reads (near, (let e = hit in omega arith)))
            (near, (let e = hit in omega arith));
        loaded = mine.knowledge.loaded;
      };
      ring = record {
        floors = held.ring.floors;
        stored = held.ring.stored;
        few = held.ring.few;
        by_holder = held.ring.by_holder;
        lows = one_shelf (ShelfTrims trims') s' L.lows;
      };
      quiet = record { none_live = mine.quiet.none_live };
      refusals = record { held = mine.refusals.held; shelves = one_shelf (ShelfRefusals w.until) s' L.refusals };
      carries = record { shelves = one_shelf (ShelfCarries w.values) s' L.carries };
      owed = L.owed;
    } in (
      u,
      table.keeps,
      tt,
      (
        w',
        record {
          words = still_long cap st.words 2 m H.words;
          whole = record {
            turns = turns_kept b.turn b'.turn w.holder id st.views v u here turns (λ g o. o) H.whole.turns;
            tries = tries_same b b' w.stopped w.takers turns (hold_stop cap st.words H.words 0 near m) H.whole.tries;
            positions = record {
              count = counts 0 near
                  ∙ H.whole.positions.count;
              kept = H.whole.positions.kept;
              few = H.whole.positions.few;
            };
            machine = machine_same key.setting w _ refl refl refl refl H.whole.machine;
            numbers = record {
              counts = λ z y. counts (suc z) (omega arith)
                  ∙ H.whole.numbers.counts z y;
              threads = H.whole.numbers.threads;
              few = H.whole.numbers.few;
            };
            verdicts = H.whole.verdicts;
            refused = H.whole.refused;
            ring = ring;
            low = subst (λ z. LowHolds z trims') (sym hit) L.low;
          };
          values = record {
            home = λ g y z. let r = H.values.home g y (sym (turns g y) ∙ z)
                in (r.0, r.1, trim_home key.setting w trims' b'.hold g r.0 (stands_at' key.setting w b.hold b'.hold g r.0 (other g) r.2));
          };
          views = each_set id u H.views (λ j o away g. fits_holds key b b' w trims' j o turns cells (λ k p nz. other k.object nz) rises
              (λ r a z. L.others r (λ e. away (sym a.here ∙ ap w.seat e ∙ f.here)) z) g) own;
        },
      ),
      refl,
    )
  where
    max_is : (n to : ℕ) → (max n to ≡ n) ⊎ (max n to ≡ to)
    max_is n to = elim (native.Mathlib.Decide.dec_le n to) [ yes a ↦ inr (omega arith) | no a ↦ inl (omega arith) ]

    by : (w : World) (n : ℕ) → ShelfRefusals w.until s → ShelfCarries w.values s → OwedFits w.draws v.owed (s ∷ [])
        → ShelfFits w.log w.seat id s → ShelfDraws w.draws v.drawn s → AreBelow v.seen s → ShelfTrims w.trims s → LowHolds n w.trims
        → LowFacts w id v s (if nat_lt n to then shelf s.thread (s.marked ++ Trim to ∷ []) else shelf s.thread s.marked) (if nat_lt n to
        then (s.thread, to) ∷ w.trims else w.trims) (max n to)
    by w n g' cs o f d q t low = cases (nat_lt n to) refl
      where
        cases : (g : Bool) → nat_lt n to ≡ g → LowFacts w id v s (if nat_lt n to then shelf s.thread (s.marked ++ Trim to ∷ [])
            else shelf s.thread s.marked) (if nat_lt n to then (s.thread, to) ∷ w.trims else w.trims) (max n to)
        cases true e = let lt : n < to = ltb-true n to e in let m : max n to ≡ to = omega arith
            in rw (e, m) (rose key w id n to v s lt may g' cs o f d q t low)
        cases false e = let le : to ≤ n = ltb-false n to e in let m : max n to ≡ n = omega arith
            in rw (e, m) (stayed w id n v s g' cs o f d q t low)
