-- The rule when an event is published, whatever it does to the draws.
use Rattle.std.proofs.Common.{◌≡◌, ◌≢◌, ℕ, zero, suc, ◌+◌, ◌*◌, ◌^◌, ◌%◌, ◌<◌, ◌≤◌, ◌==◌, List, [], ◌∷◌, ◌++◌, length, map, set, sym, refl, ap, subst, arith, ◌∙◌, inl, inr, Some, true, false, eq-eqb, ne_eqb, length-append, mod-eq_of_lt, mul-le-mul_right}
use Rattle.std.specs.Prelude.{ℤ, slice_index, slice_get, Contains, ◌⊎◌, Option}
use Rattle.std.specs.List.{All}
use Rattle.std.proofs.lemmas.List.Elements.{All-head, All-tail, All-nil, All-cons, All-contains, All-push}
use Rattle.std.proofs.lemmas.Option.{slice_get_within}
use native.Mathlib.Decide.{ℕ_discrete}
use mathlib.Core.Option.{some}
use lib.ListN.{get_elem?}
use Rattle.atomic_table.specs.Table as table
use Rattle.gl_model.specs.declared.event.Act.TheVariants.{Begin, End, Acq, Rel, VRead, VWrite, Fork, Join, Alloc, Print, Input, Fail}
use Rattle.gl_model.specs.declared.event.Event.{Event}
use Rattle.gl_model.specs.declared.event.Event.TheVariants.{Act as Does, Commit as Commits}
use Rattle.gl_model.specs.declared.event.Stamp.{Stamp}
use Rattle.gl_model.specs.declared.limits.TheConstants.{THREADS, VARIABLES}
use Rattle.gl_model.specs.declared.row.Row.{Row}
use Rattle.gl_model.specs.Edges.{EventAt}
use Rattle.gl_model.specs.Entries.{Entry, Sync, Commit, Plain, Abort, Trim, Over}
use Rattle.gl_model.specs.Form.{IsTrim}
use Rattle.gl_model.specs.Machine.{Setting, State, Step, ThreadState, NeverForked, Ended, MayStep, start}
use Rattle.gl_model.specs.Records.{position_of}
use Rattle.gl_draws.specs.Draws.{Draw}
use Rattle.gl_draws.specs.RowFacts.{RowStands}
use Rattle.gl_draws.specs.Verdicts.{DrawsHold}
use Rattle.gl_draws.proofs.EventTies.{new_event, event_cases, events_other, events_own}
use Rattle.gl_draws.proofs.Pushes.{at_cases, at_kept}
use Rattle.gl_draws.proofs.Reaching.{event_kept, event_back}
use Rattle.gl_draws.proofs.RowGrowth.{row_grows, stands_within}
use Rattle.gl_draws.proofs.Runs.{allows_push}
use Rattle.gl_rule.specs.declared.slot.Slot.{Slot}
use Rattle.gl_rule.specs.declared.slot.Slot.TheVariants as slot
use Rattle.gl_rule.specs.Cells.{packed}
use Rattle.gl_state.specs.ListView.{ListView}
use Rattle.gl_rule.specs.Objects.{Key, Board, board, capacity, objects}
use Rattle.gl_state.specs.States.{IsStateOf, IsQuiet}
use Rattle.gl_rule.specs.View.{View, Held, Shelf, HasObject, Hold, CellWord, shelf, after_publish, published}
use Rattle.gl_rule.specs.World.{World}
use Rattle.gl_rule.specs.Turns.{HeldOne}
use Rattle.gl_model.specs.Elements.{IsStampInRange}
use Rattle.gl_draws.specs.Forming.{events_by}
use Rattle.gl_rule.specs.Positions.{ShelfFits}
use Rattle.gl_rule.specs.Values.{IsAbove, Stands, StandsHeld, HeldStands, RowHeld, with_draw}
use Rattle.gl_rule.specs.Numbers.{NumbersHold, ShelfDraws}
use Rattle.gl_rule.specs.Knowledge.{AreBelow, TailFits, TailsFit, ReadFits, WordFits}
use Rattle.gl_rule.specs.Ring.{RingHolds, FloorFits, ShelfTrims}
use Rattle.gl_draws.specs.Refusals.{RefusalsHold}
use Rattle.gl_rule.specs.Refusals.{DrawsBelow, ShelfRefusals}
use Rattle.gl_draws.proofs.Refusing.{refusals_push}
use Rattle.gl_rule.proofs.Refusing.{commits_else, commits_published}
use Rattle.gl_model.specs.Machine.{with_at}
use Rattle.gl_model.specs.Form.{value_of}
use Rattle.gl_draws.proofs.DrawTies.{with_here, with_else}
use Rattle.gl_draws.proofs.DrawPlaces.{event_there}
use Rattle.gl_draws.specs.Draws.{DrawAt, last_write}
use Rattle.gl_draws.specs.Events.{AreEvents}
use Rattle.gl_draws.specs.Repeated.{IsCalm}
use Rattle.gl_rule.specs.Owed.{OwedOne, repeats_of}
use Rattle.gl_rule.proofs.Owing.{owed_moves, owed_others, repeats_kept, event_no_repeat}
use Rattle.gl_rule.specs.Machine.{MachineHolds, ShelfCarries}
use Rattle.gl_rule.specs.Fitting.{MayPublish}
use Rattle.gl_rule.specs.Rule.{Fits, Holds, Rule}
use Rattle.gl_rule.specs.Told.{Published}
use Rattle.gl_rule.proofs.Each.{each_set}
use Rattle.gl_rule.proofs.Words.{still_long, count_here, count_else, count_turns, count_holds, count_cells, count_stop, SameTurns, SameHolds, SameCells}
use Rattle.gl_rule.proofs.HeldLists.{all_map, both_map, in_cons, in_mapped, only_shelf, one_shelf}
use Rattle.gl_rule.proofs.FittingLaws.{within_seen}
use Rattle.gl_draws.proofs.Forming.{formed_push, counted_push, by_own, by_other, log_bound}
use Rattle.gl_rule.proofs.Frames.{turns_kept, turns_same, read_at, floor_moves}
use Rattle.gl_rule.proofs.Loading.{tail_later, tail_zero}
use Rattle.gl_rule.proofs.Tries.{tries_moved, tries_same}

-- a step needs a thread that is live
may_live : (state : ThreadState) (e : Event) (value : ℤ) → MayStep state e value → (state ≡ NeverForked) ⊎ (state ≡ Ended) → ⊥
may_live state (Does (Begin f)) value m (inl e) = cc
may_live state (Does (Begin f)) value m (inr e) = cc
may_live state (Does End) value m (inl e) = cc
may_live state (Does End) value m (inr e) = cc
may_live state (Does (Acq o)) value m (inl e) = cc
may_live state (Does (Acq o)) value m (inr e) = cc
may_live state (Does (Rel o)) value m (inl e) = cc
may_live state (Does (Rel o)) value m (inr e) = cc
may_live state (Does (VRead o)) value m (inl e) = cc
may_live state (Does (VRead o)) value m (inr e) = cc
may_live state (Does (VWrite o)) value m (inl e) = cc
may_live state (Does (VWrite o)) value m (inr e) = cc
may_live state (Does (Fork u f)) value m (inl e) = cc
may_live state (Does (Fork u f)) value m (inr e) = cc
may_live state (Does (Join u)) value m (inl e) = cc
may_live state (Does (Join u)) value m (inr e) = cc
may_live state (Does (Alloc c)) value m (inl e) = cc
may_live state (Does (Alloc c)) value m (inr e) = cc
may_live state (Does Print) value m (inl e) = cc
may_live state (Does Print) value m (inr e) = cc
may_live state (Does Input) value m (inl e) = cc
may_live state (Does Input) value m (inr e) = cc
may_live state (Does (Fail k)) value m (inl e) = cc
may_live state (Does (Fail k)) value m (inr e) = cc
may_live state (Commits xs) value m (inl e) = cc
may_live state (Commits xs) value m (inr e) = cc

-- where no thread is live there is no step
pub quiet_no_step : (setting : Setting) (now new : State) (x : Stamp) (value : ℤ) → IsQuiet now → Step setting now x value new → ⊥
quiet_no_step setting now new x value q s = may_live (now.threads x.thread) x.event value s.may (q x.thread)

-- an event has five words
pub packed_long : (x : Stamp) → length (packed x) ≡ 5
packed_long x = by x.event
  where
    by : (e : Event) → length (Rattle.gl_rule.specs.Cells.words_of x.thread e) ≡ 5
    by (Does act) = refl
    by (Commits xs) = refl

-- an event is no Trim
pub no_trim : (e : Entry) (n : ℕ) → position_of e ≡ Some n → IsTrim e → ⊥
no_trim (Sync a b c) n e t = t
no_trim (Commit a b) n e t = t
no_trim (Plain a b c d f g) n e t = t
no_trim (Abort a b) n e t = t
no_trim (Trim low) n e t = cc
no_trim (Over a) n e t = t

-- nor an abort
pub no_abort : (e : Entry) (n : ℕ) → position_of e ≡ Some n → (tx : _) (a : _) → e ≡ Abort tx a → ⊥
no_abort e n p tx a is = let q : position_of (Abort tx a) ≡ Some n = subst (λ z. position_of z ≡ Some n) is p in cc

-- the Trims of a list stay those of its thread with an entry more that is none
pub trims_push : (trims : List (ℕ × ℕ)) (t : ℕ) (es : List Entry) (e : Entry) → (IsTrim e → ⊥) → ShelfTrims trims (shelf t es)
    → ShelfTrims trims (shelf t (es ++ e ∷ []))
trims_push trims t es e not k = record {
  made = λ i low a. elim (at_cases es e (Trim low) i a) [ inl old ↦ k.made i low old | inr new ↦ absurd (not (subst IsTrim new.1 tt)) ];
  kept = λ low c. let q = k.kept low c in (q.0, at_kept es (e ∷ []) q.0 (Trim low) q.1);
}

-- the one shelf of a view has one thread
pub same_thread : (v : View) (a b : Shelf) → v.shelves ≡ a ∷ [] → v.shelves ≡ b ∷ [] → a.thread ≡ b.thread
same_thread v a b e f = let same : a ∷ [] ≡ b ∷ [] = sym e ∙ f in head a b same
  where
    head : (a b : Shelf) → a ∷ [] ≡ b ∷ [] → a.thread ≡ b.thread
    head a b e = let s : a ≡ b = cc in ap (λ (z : Shelf). z.thread) s

-- after publishing, the held list is the new one, and the new length is its only tail
after_list : (n : ℕ) (y : Slot) (drew : Held → Option Draw) (h : Held) → h.object ≡ 0 → after_publish n y drew h
    ≡ record h { taken = y; tails = suc n ∷ [] }
after_list n y drew h e = let b : (h.object == 0) ≡ true = eq-eqb h.object 0 e in rw b refl

-- after publishing, a held row has the new length among its tails, and its draw is told
after_row : (n : ℕ) (y : Slot) (drew : Held → Option Draw) (h : Held) → h.object ≢ 0 → after_publish n y drew h
    ≡ record h { tails = suc n ∷ h.tails; drew = drew h }
after_row n y drew h e = let b : (h.object == 0) ≡ false = ne_eqb h.object 0 e in rw b refl

-- publishing leaves which object a slot is of
after_object : (n : ℕ) (y : Slot) (drew : Held → Option Draw) (h : Held) → (after_publish n y drew h).object ≡ h.object
after_object n y drew h = elim (ℕ_discrete h.object 0) [
  | yes e ↦ ap (λ (z : Held). z.object) (after_list n y drew h e)
  | no e ↦ ap (λ (z : Held). z.object) (after_row n y drew h e)
]

-- where a fact of each held object, the list or a row, gives another of it after publishing, the one of all gives the other of all
mapped_publish : (P Q : Held → Type 0) (n : ℕ) (y : Slot) (drew : Held → Option Draw) (held : List Held)
    → ((h : Held) → Contains held h → h.object ≡ 0 → P h → Q (record h { taken = y; tails = suc n ∷ [] }))
    → ((h : Held) → Contains held h → h.object ≢ 0 → P h → Q (record h { tails = suc n ∷ h.tails; drew = drew h })) → All P held
    → All Q (map (after_publish n y drew) held)
mapped_publish P Q n y drew [] f g all = All-nil Q
mapped_publish P Q n y drew (h ∷ hs) f g all =
    All-cons Q (after_publish n y drew h) (map (after_publish n y drew) hs)
    (elim (ℕ_discrete h.object 0) [
      | yes e ↦ subst Q (sym (after_list n y drew h e)) (f h (zero, omega arith, refl) e (All-head P h hs all))
      | no e ↦ subst Q (sym (after_row n y drew h e)) (g h (zero, omega arith, refl) e (All-head P h hs all))
    ])
    (mapped_publish P Q n y drew hs (λ k c e p. f k (in_cons h hs k c) e p) (λ k c e p. g k (in_cons h hs k c) e p) (All-tail P h hs all))

-- what there is after the event
abbrev pub world_after : World → Stamp → State → ℤ → (ℕ → List Draw) → World
world_after w x new value draws = record w {
  log = w.log ++ x
      ∷ [];
  now = new;
  draws = draws;
  values = with_at w.values (length w.log) value;
  states = with_at w.states (suc (length w.log)) new;
}

-- an event that was in the log is the same step of the machine after one more is published
step_old : (setting : Setting) (w : World) (x : Stamp) (new : State) (value : ℤ) (draws : ℕ → List Draw) (p : ℕ) (r : Stamp)
    → EventAt w.log p r → MachineHolds setting w
    → Step setting ((world_after w x new value draws).states p) r ((world_after w x new value draws).values p)
    ((world_after w x new value draws).states (suc p))
step_old setting w x new value draws p r at m =
    let near = slice_get_within w.log p r at in
    let a = with_else w.states (suc (length w.log)) p new (λ q. omega arith) in
    let b = with_else w.states (suc (length w.log)) (suc p) new (λ q. omega arith) in
    let c = with_else w.values (length w.log) p value (λ q. omega arith) in
    subst (λ z. Step setting z r ((world_after w x new value draws).values p) ((world_after w x new value draws).states (suc p))) (sym a)
    (subst (λ z. Step setting (w.states p) r z ((world_after w x new value draws).states (suc p))) (sym c)
    (subst (λ z. Step setting (w.states p) r (w.values p) z) (sym b) (m.steps p r at)))

-- the event that is published is the machine's step from the state that was the last
step_new : (setting : Setting) (w : World) (x : Stamp) (new : State) (value : ℤ) (draws : ℕ → List Draw) (p : ℕ) (r : Stamp) → p
    ≡ length w.log → r ≡ x → Step setting w.now x value new → MachineHolds setting w
    → Step setting ((world_after w x new value draws).states p) r ((world_after w x new value draws).values p)
    ((world_after w x new value draws).states (suc p))
step_new setting w x new value draws p r is same step m =
    let n = length w.log in
    let a = with_else w.states (suc n) n new (λ q. omega arith) ∙ m.last in
    let b = with_here w.states (suc n) new in
    let c = with_here w.values n value in
    let at_n : Step setting ((world_after w x new value draws).states n) x ((world_after w x new value draws).values n)
    ((world_after w x new value draws).states (suc n))
    = subst (λ z. Step setting z x ((world_after w x new value draws).values n) ((world_after w x new value draws).states (suc n))) (sym a)
    (subst (λ z. Step setting w.now x z ((world_after w x new value draws).states (suc n))) (sym c)
    (subst (λ z. Step setting w.now x value z) (sym b) step)) in
    subst (λ z. Step setting ((world_after w x new value draws).states z) r ((world_after w x new value draws).values z)
    ((world_after w x new value draws).states (suc z))) (sym is)
    (subst (λ z. Step setting ((world_after w x new value draws).states n) z ((world_after w x new value draws).values n)
    ((world_after w x new value draws).states (suc n))) (sym same) at_n)

-- a list carries the values of its events still after one more is published
carries_old : (w : World) (x : Stamp) (new : State) (value : ℤ) (draws : ℕ → List Draw) (s : Shelf)
    → Rattle.gl_draws.specs.Events.AreEvents w.log s.thread s.marked → ShelfCarries w.values s
    → ShelfCarries (world_after w x new value draws).values s
carries_old w x new value draws s events k i p e at is =
    let ev = event_there e p is in
    let near = slice_get_within w.log p (record { thread = s.thread; event = ev.0 }) (events.listed i p e ev.0 at is ev.1) in
    with_else w.values (length w.log) p value (λ q. omega arith) ∙ k i p e at is

-- what a publish does to the draws: draws' are the draws afterwards, and drew what was drawn on each row that is held
pub record Change (key : Key) (b : Board) (w w' : World) (id : ℕ) (v : View) (s : Shelf) (e : Entry) (drew : Held → Option Draw) : Type 0
  where
    pub numbers : NumbersHold b.count w'.draws
    pub verdicts : (x : ℕ) → DrawsHold w'.log x (w'.draws x)
    pub refused : (x : ℕ) → RefusalsHold w'.log (w.until x) x (w'.draws x)
    pub behind : (g : Held) (x : ℕ) (ds : List Draw) → Contains v.held g → g.object ≡ suc x → w'.draws x ≡ with_draw (drew g) ds → w.draws x
        ≡ with_draw g.drew ds
    -- a draw of the thread had the same number before, or it has no repeats, and the list has no cached write under its number
    pub repeats : (x k : ℕ) (d : Draw) → DrawAt (w'.draws x) k d → d.thread ≡ s.thread → DrawAt (w.draws x) k d
        ⊎ ((d.repeats ≡ []) × (repeats_of x k s.marked ≡ []))
    pub calm : (shelves : List Shelf) (x : ℕ) → OwedOne w.draws shelves x
        → ((r : Shelf) → Contains shelves r → (s.thread ≢ r.thread) × AreEvents w.log r.thread r.marked) → last_write x (w'.draws x)
        ≡ last_write x (w.draws x)
    pub calmly : (shelves : List Shelf) (x : ℕ) → OwedOne w.draws shelves x
        → ((r : Shelf) → Contains shelves r → (s.thread ≢ r.thread) × AreEvents w.log r.thread r.marked) → IsCalm x (w.draws x)
        → IsCalm x (w'.draws x)
    pub foreign : (u x k : ℕ) (d : Draw) → u ≢ s.thread → d.thread ≡ u → DrawAt (w'.draws x) k d → DrawAt (w.draws x) k d
    -- only rows that are held are drawn on
    pub elsewhere : (x : ℕ) → (w'.draws x ≡ w.draws x) ⊎ HasObject v (suc x)
    pub others : (r : Shelf) (drawn : _) → r.thread ≢ s.thread → ShelfDraws w.draws drawn r → ShelfDraws w'.draws drawn r
    pub own : ShelfDraws w'.draws [] (shelf s.thread (s.marked ++ e ∷ []))
    pub held : (g : Held) (x : ℕ) (row : Row) → Contains v.held g → g.object ≡ suc x → RowHeld key.setting w x g.drew row
        → RowHeld key.setting w' x (drew g) row

-- a held object that is not the list stands still when the log grows, if its draws and its hold are the same
row_else : (setting : Setting) (w w' : World) (more : List Stamp) (hold hold' : ℕ → ℕ) (drew : Option Draw) (k : ℕ) (y : Slot) → w'.log
    ≡ w.log ++ more → k ≢ 0 → ((x : ℕ) → k ≡ suc x → w'.draws x ≡ w.draws x) → hold' k ≡ hold k
    → StandsHeld setting w hold drew k y → StandsHeld setting w' hold' drew k y
row_else setting w w' more hold hold' drew zero y is nz same e st = absurd (nz refl)
row_else setting w w' more hold hold' drew (suc x) (slot.Row row) is nz same e st = (
  record {
    before = st.0.before;
    draws_are = same x refl
        ∙ st.0.draws_are;
    stands = subst (λ l. RowStands setting l x st.0.before row) (sym is)
        (row_grows setting w.log more x st.0.before row st.0.stands);
  },
  subst (IsAbove row) (sym e) st.1,
)
row_else setting w w' more hold hold' drew (suc x) slot.Empty is nz same e st = absurd st
row_else setting w w' more hold hold' drew (suc x) (slot.List l) is nz same e st = absurd st

-- a held slot that is not the list stands after a change if its row does and its hold is the same
row_own : (setting : Setting) (w w' : World) (hold hold' : ℕ → ℕ) (drew drew' : Option Draw) (k : ℕ) (y : Slot) → k ≢ 0
    → ((x : ℕ) (row : Row) → k ≡ suc x → RowHeld setting w x drew row → RowHeld setting w' x drew' row) → hold' k ≡ hold k
    → StandsHeld setting w hold drew k y → StandsHeld setting w' hold' drew' k y
row_own setting w w' hold hold' drew drew' zero y nz step e st = absurd (nz refl)
row_own setting w w' hold hold' drew drew' (suc x) (slot.Row row) nz step e st = (step x row refl st.0, subst (IsAbove row) (sym e) st.1)
row_own setting w w' hold hold' drew drew' (suc x) slot.Empty nz step e st = absurd st
row_own setting w w' hold hold' drew drew' (suc x) (slot.List l) nz step e st = absurd st

-- a slot at home that is not the list stands still when the log grows, if its draws and its hold are the same
home_else : (setting : Setting) (w w' : World) (more : List Stamp) (hold hold' : ℕ → ℕ) (k : ℕ) (y : Slot) → w'.log ≡ w.log ++ more → k ≢ 0
    → ((x : ℕ) → k ≡ suc x → w'.draws x ≡ w.draws x) → hold' k ≡ hold k → Stands setting w hold k y → Stands setting w' hold' k y
home_else setting w w' more hold hold' zero y is nz same e st = absurd (nz refl)
home_else setting w w' more hold hold' (suc x) (slot.Row row) is nz same e st = (
  subst (λ ds. RowStands setting w'.log x ds row) (sym (same x refl))
      (subst (λ l. RowStands setting l x (w.draws x) row) (sym is) (row_grows setting w.log more x (w.draws x) row st.0)),
  subst
      (IsAbove row) (sym e) st.1,
)
home_else setting w w' more hold hold' (suc x) slot.Empty is nz same e st = absurd st
home_else setting w w' more hold hold' (suc x) (slot.List l) is nz same e st = absurd st

-- a tail that was seen while a row was held fits still when the log grows
tail_else : (long long' seen : ℕ) (hold hold' : ℕ → ℕ) (k n : ℕ) (y : Slot) → k ≢ 0 → hold' k ≡ hold k → TailFits long hold seen k y n
    → TailFits long' hold' seen k y n
tail_else long long' seen hold hold' zero n y nz e t = absurd (nz refl)
tail_else long long' seen hold hold' (suc x) n (slot.Row row) nz e t = (t.0, t.1, subst (λ m. m ≤ n) (sym e) t.2)
tail_else long long' seen hold hold' (suc x) n slot.Empty nz e t = absurd t
tail_else long long' seen hold hold' (suc x) n (slot.List l) nz e t = absurd t

-- a tail of the old length fits a slot that is not the list after an event more
tail_push : (setting : Setting) (w : World) (long' : ℕ) (hold hold' : ℕ → ℕ) (drew : Option Draw) (k m : ℕ) (y : Slot) → k ≢ 0
    → k < objects → length w.log ≤ m → hold' k ≡ hold k → ((x : ℕ) → x < VARIABLES → hold (suc x) ≤ length w.log)
    → StandsHeld setting w hold drew k y → TailFits long' hold' m k y m
tail_push setting w long' hold hold' drew zero m y nz near le e up st = absurd (nz refl)
tail_push setting w long' hold hold' drew (suc x) m (slot.Row row) nz near le e up st =
    let q : x < VARIABLES = omega arith in
    let u = up x q in
    let z : hold (suc x) ≤ m = omega arith in (
      omega arith,
      within_seen row (length w.log) m le (stands_within setting w.log x st.0.before row st.0.stands),
      subst (λ a. a ≤ m)
          (sym e) z,
    )
tail_push setting w long' hold hold' drew (suc x) m slot.Empty nz near le e up st = absurd st
tail_push setting w long' hold hold' drew (suc x) m (slot.List l) nz near le e up st = absurd st

-- a cell word that fits the log fits the log with one event more
word_grows : (log : List Stamp) (x : Stamp) (q : CellWord) → (q.position < length log) × WordFits log q
    → (q.position < length (log ++ x ∷ [])) × WordFits (log ++ x ∷ []) q
word_grows log x q f = let a = f.0 in (omega (arith, length-append log (x ∷ [])), λ y at. f.1 y (event_back log (x ∷ []) q.position y a at))

-- a held list that stands tells the machine's state
state_zero : (setting : Setting) (w : World) (hold : ℕ → ℕ) (drew : Option Draw) (k : ℕ) (y : Slot) (l : ListView) → k ≡ 0 → y
    ≡ slot.List l → StandsHeld setting w hold drew k y → IsStateOf l w.now
state_zero setting w hold drew k y l e is st = let a : StandsHeld setting w hold drew 0 (slot.List l) =
    subst (λ z. StandsHeld setting w hold drew 0 z) is (subst (λ z. StandsHeld setting w hold drew z y) e st) in a

-- a list that tells the machine's state stands as the held list
zero_state : (setting : Setting) (w : World) (hold : ℕ → ℕ) (drew : Option Draw) (k : ℕ) (l : ListView) → k ≡ 0 → IsStateOf l w.now
    → StandsHeld setting w hold drew k (slot.List l)
zero_state setting w hold drew k l e st =
    subst (λ z. StandsHeld setting w hold drew z (slot.List l)) (sym e) (let a : StandsHeld setting w hold drew 0 (slot.List l) = st in a)

-- the length of the log is a tail that fits the list
zero_tail : (long seen : ℕ) (hold : ℕ → ℕ) (k n : ℕ) (y : Slot) → k ≡ 0 → n ≡ long → TailFits long hold seen k y n
zero_tail long seen hold k n y e t = subst (λ z. TailFits long hold seen z y n) (sym e) (let a : TailFits long hold seen 0 y n = t in a)

-- how many entries of a list count
abbrev counted' : Shelf → ℕ
counted' r = Rattle.gl_draws.specs.Ties.counted r.marked

-- after publishing, each tail of the held list fits
new_list : (log : List Stamp) (x : Stamp) (hold : ℕ → ℕ) (g : Held) (y : Slot) → g.object ≡ 0 → (a : ℕ)
    → Contains (suc (length log) ∷ []) a → TailFits (length (log ++ x ∷ [])) hold (suc (length log)) g.object y a
new_list log x hold g y z a (zero, q, e) = let same : suc (length log) ≡ a = e
    in zero_tail (length (log ++ x ∷ [])) (suc (length log)) hold g.object a y z (sym same ∙ omega (arith, length-append log (x ∷ [])))
new_list log x hold g y z a (suc k, q, e) = absurd (omega arith)

-- after publishing, each tail of a held row fits, the new length among them
new_row : (setting : Setting) (w : World) (x : Stamp) (seen : ℕ) (b b' : Board) (g : Held) → g.object ≢ 0 → g.object < objects
    → SameHolds b b' → ((z : ℕ) → z < VARIABLES → b.hold (suc z) ≤ length w.log) → HeldStands setting w b.hold g
    → TailsFit (length w.log) b.hold seen g → seen ≤ length w.log → (a : ℕ) → Contains (suc (length w.log) ∷ g.tails) a
    → TailFits (length (w.log ++ x ∷ [])) b'.hold (suc (length w.log)) g.object g.taken a
new_row setting w x seen b b' g nz near holds up stands t le a (zero, q, e) =
    let same : suc (length w.log) ≡ a = e in
    let fit = tail_push setting w (length (w.log ++ x ∷ [])) b.hold b'.hold g.drew g.object (suc (length w.log)) g.taken nz near
    (omega arith) (holds g.object near) up stands in
    subst (λ z. TailFits (length (w.log ++ x ∷ [])) b'.hold (suc (length w.log)) g.object g.taken z) same fit
new_row setting w x seen b b' g nz near holds up stands t le a (suc k, q, e) =
    tail_later (length (w.log ++ x ∷ [])) b'.hold seen (suc (length w.log)) g.object a g.taken (omega arith)
    (tail_else (length w.log) (length (w.log ++ x ∷ [])) seen b.hold b'.hold g.object a g.taken nz (holds g.object near)
    (t a (k, omega arith, e)))

module _ (key : Key) (slots id : ℕ) (v : View) (c : List (ℕ × Slot)) (s : Shelf) (h : Held) (l l' : ListView) (entry : ℕ → Entry)
    (x : Stamp) (value : ℤ) (drew : ℕ → Held → Option Draw) (one : v.shelves ≡ s ∷ []) (may : MayPublish key s v h l l' entry x value) where
  -- the draws afterwards, for the table as it is
  pub record Draws' (w : World) (st : table.State Slot View) (new : State) : Type 0 where
    pub draws : ℕ → List Draw
    pub change : Change key (board (capacity key) st.words) w (world_after w x new value draws) id v s (entry (length w.log))
        (drew (length w.log))

  -- publishing an event keeps the rule, where its draws are changed as is asked
  pub publishes : ((w : World) (st : table.State Slot View) (new : State) → Holds key w st → get_elem? st.views id ≡ some v → may.tail
      ≡ length w.log → Step key.setting w.now x value new → Draws' w st new)
      → table.Allows (Rule key) slots id (v, c) 0 (λ n. (n + 1) % 2 ^ 64) (Published s entry x (slot.List l') drew v c)
  publishes draws_of st rule long here fits =
      let w = rule.0 in
      let H = rule.1 in
      let cap = capacity key in
      let b = board cap st.words in
      let n = b.count 0 in
      let log = w.log in
      let count : n ≡ length log = H.whole.positions.count in
      let mine : Fits key b w id v = H.views.at id v here in
      let O = HeldOne b.turn w.holder id v.shelves in
      let S = HeldStands key.setting w b.hold in
      let T = TailsFit (length log) b.hold v.seen in
      let turn : O h = All-contains O v.held h mine.turns.held may.held in
      let state : S h = All-contains S v.held h mine.values.held may.held in
      let tails : T h = All-contains T v.held h mine.knowledge.tails may.held in
      let exact : may.tail ≡ length log = tail_zero (length log) v.seen b.hold h.object may.tail h.taken may.list (tails may.tail may.saw)
      in
      let now : IsStateOf l w.now = state_zero key.setting w b.hold h.drew h.object h.taken l may.list may.state state in
      let new = may.step w.now now in
      let D = draws_of w st new.0 H here exact new.1 in
      let w' : World = world_after w x new.0 value D.draws in
      let log' = log ++ x ∷ [] in
      let e = entry (length log) in
      let C : Change key b w w' id v s e (drew (length log)) = D.change in
      let shelf_fits : ShelfFits log w.seat id s = only_shelf (ShelfFits log w.seat id) v s one mine.positions.shelves in
      let near : x.thread < THREADS = subst (λ t. t < THREADS) (sym may.by) shelf_fits.named in
      let all_few : (t : ℕ) → events_by t log' ≤ 2 ^ 50 = λ t. elim (ℕ_discrete x.thread t) [
        | yes same ↦ (let a = by_own t log x same
            in let q : events_by t log ≤ counted' s = subst (λ z. events_by z log ≤ counted' s) (sym may.by ∙ same) shelf_fits.made
            in let f : counted' s < 2 ^ 50 = may.few in omega arith)
        | no other ↦ (let a = by_other t log x other in let f = H.whole.positions.few t in omega arith)
      ] in
      let long' : length log' ≡ suc (length log) = omega (arith, length-append log (x ∷ [])) in
      let bound : length log ≤ 16 * 2 ^ 50 = log_bound IsStampInRange 16 (2 ^ 50) log (λ d k. k.0) H.whole.positions.kept
      H.whole.positions.few in
      let small : n + 1 < 2 ^ 64 = omega arith in
      let m = (n + 1) % 2 ^ 64 in
      let next : m ≡ n + 1 = mod-eq_of_lt small in
      let zero_near : 0 < objects = omega arith in
      let words' = set st.words (3 * 0) m in
      let b' = board cap words' in
      let turns : SameTurns b b' = count_turns cap st.words H.words 0 zero_near m in
      let holds : SameHolds b b' = count_holds cap st.words H.words 0 zero_near m in
      let cells : SameCells b b' = count_cells cap st.words H.words 0 zero_near m in
      let counts : (k : ℕ) → k ≢ 0 → b'.count k ≡ b.count k = count_else cap st.words H.words 0 zero_near m in
      let y = slot.List l' in
      let u = published v s.thread s.marked e (length log) x y (drew (length log)) in
      let busy : b.turn 0 ≢ 0 = λ z. let q = turn.busy in let r : b.turn h.object ≡ 0 = ap b.turn may.list ∙ z in absurd (omega arith) in
      let held_by : (k : ℕ) → HasObject v k → w.holder k ≡ id = λ k o. let p : O o.0 = All-contains O v.held o.0 mine.turns.held o.1
      in sym (ap w.holder o.2) ∙ p.here in
      let held_busy : (k : ℕ) → HasObject v k → b.turn k ≢ 0 = λ k o z. let p : O o.0 = All-contains O v.held o.0 mine.turns.held o.1
      in let q = p.busy in let r : b.turn o.0.object ≡ 0 = ap b.turn o.2 ∙ z in absurd (omega arith) in
      let has_list : HasObject v 0 = (h, may.held, may.list) in
      -- another pass holds another object, and no row that was drawn on
      let apart_list : (j : ℕ) (shelves : List Shelf) (g : Held) → j ≢ id → HeldOne b.turn w.holder j shelves g
      → g.object ≢ 0 = λ j shelves g away p z. away (sym p.here ∙ ap w.holder z ∙ held_by 0 has_list) in
      let apart_draws : (j : ℕ) (shelves : List Shelf) (g : Held) → j ≢ id → HeldOne b.turn w.holder j shelves g → (z : ℕ) → g.object
      ≡ suc z → w'.draws z ≡ w.draws z = λ j shelves g away p z is. elim (C.elsewhere z) [
        | inl same ↦ same
        | inr o ↦ absurd (away (sym p.here ∙ ap w.holder is ∙ held_by (suc z) o))
      ] in
      let up : (z : ℕ) → z < VARIABLES → b.hold (suc z) ≤ length log = λ z q. (H.whole.ring.holds z q).1 in
      let seen = mine.knowledge.seen in
      let le : v.seen ≤ suc (length log) = omega arith in
      let from : ℕ = b.hold 0 * key.cells in
      let low_now : may.low ≤ b.hold 0 = (All-contains (ReadFits b.hold) v.reads (Hold 0 may.low) mine.knowledge.reads may.read).1 in
      let low_from : may.low * key.cells ≤ from = mul-le-mul_right key.cells low_now in
      let room : length log' ≤ from + cap = (let a : ℕ = may.low * key.cells in let r : may.tail < a + cap = may.room
      in let q : a ≤ from = low_from in omega arith) in
      let stored_long : length v.stored ≡ 5 = ap length may.stored ∙ packed_long x in
      let ring : RingHolds cap (b'.hold 0 * key.cells) b' log' =
      subst (λ z. RingHolds cap (z * key.cells) b' log') (sym (holds 0 zero_near)) (record {
        cells = λ p i r ge at few. elim (event_cases log x r p at) [
          | inl old ↦ cells p i ∙ H.whole.ring.cells p i r ge old few
          | inr hit ↦ cells p i ∙ ap (λ z. b.cell z i) hit.0 ∙ mine.ring.stored i (omega arith) ∙ ap (λ z. slice_index z i) may.stored
              ∙ ap (λ z. slice_index (packed z) i) (sym hit.1)
        ];
        room = room;
        holds = λ z q. let r = H.whole.ring.holds z q in let sm = holds (suc z) (omega arith) in let a = r.1
            in (subst (λ k. from ≤ k) (sym sm) r.0, subst (λ k. k ≤ length log') (sym sm) (omega arith));
      }) in
      let own_shelf : ShelfFits log' w.seat id (shelf s.thread (s.marked ++ e ∷ [])) = record {
        here = shelf_fits.here;
        named = shelf_fits.named;
        events = events_own log s.thread s.marked shelf_fits.events x e may.by (may.position (length log)) (may.event (length log));
        form = formed_push s.thread s.marked e (subst (λ z. Rattle.gl_draws.specs.Forming.MayStore s.thread s.marked (entry z)) exact
            may.form) shelf_fits.form;
        made = (let a = by_own s.thread log x may.by in let f = shelf_fits.made
            in let q = counted_push s.marked e (no_trim e (length log) (may.position (length log))) in omega arith);
      } in
      let all4 : All (λ g. O g × S g × T g × FloorFits b.hold g) v.held =
      both_map O (λ g. S g × T g × FloorFits b.hold g) (λ g. O g × S g × T g × FloorFits b.hold g) v.held (λ g a q. (a, q.0, q.1, q.2))
      mine.turns.held (both_map S (λ g. T g × FloorFits b.hold g) (λ g. S g × T g × FloorFits b.hold g) v.held (λ g a q. (a, q.0, q.1))
      mine.values.held (both_map T (FloorFits b.hold) (λ g. T g × FloorFits b.hold g) v.held (λ g a q. (a, q)) mine.knowledge.tails
      mine.ring.floors)) in
      let A : Held → Type 0 = λ g. O g × S g × T g × FloorFits b.hold g in
      let mapped : (Q : Held → Type 0) → ((g : Held) → Contains v.held g → g.object ≡ 0 → A g
      → Q (record g { taken = y; tails = suc (length log) ∷ [] }))
      → ((g : Held) → Contains v.held g → g.object ≢ 0 → A g
      → Q (record g { tails = suc (length log) ∷ g.tails; drew = drew (length log) g })) → All Q u.held
      = λ Q f g. mapped_publish A Q (length log) y (drew (length log)) v.held f g all4 in
      let Q1 = HeldOne b'.turn w.holder id u.shelves in
      let own_turn : (g : Held) → O g → (busy : b'.turn g.object ≡ s.thread + 1) → b'.turn g.object ≡ s.thread + 1 = λ g p q. q in
      let busy_of : (g : Held) → O g → b'.turn g.object ≡ s.thread + 1 = λ g p. turns g.object p.named ∙ p.busy
      ∙ ap (λ t. t + 1) (same_thread v p.shelf s p.one one) in
      let keeps : (k : ℕ) → HasObject v k → HasObject u k =
      λ k o. (
        after_publish (length log) y (drew (length log)) o.0,
        in_mapped (after_publish (length log) y (drew (length log))) v.held
            o.0 o.1,
        after_object (length log) y (drew (length log)) o.0 ∙ o.2,
      ) in
      let told : ℕ → table.Me Slot View = λ k. (published v s.thread s.marked (entry k) k x y (drew k), c) in (
        u,
        table.keeps,
        tt,
        (
          w',
          record {
            words = still_long cap st.words (3 * 0) m H.words;
            whole = record {
              turns = turns_kept b.turn b'.turn w.holder id st.views v u here turns keeps H.whole.turns;
              tries = tries_same b b' w.stopped w.takers turns (count_stop cap st.words H.words 0 zero_near m) H.whole.tries;
              positions = record {
                count = count_here cap st.words H.words 0 zero_near m ∙ next
                    ∙ omega arith;
                kept = All-push IsStampInRange log x H.whole.positions.kept (near, may.kept);
                few = all_few;
              };
              machine = record {
                allowed = allows_push key.setting (start key.setting) w.now new.0 log x value new.1 H.whole.machine.allowed;
                first = with_else w.states (suc (length log)) 0 new.0 (λ q. omega arith) ∙ H.whole.machine.first;
                last = ap w'.states long' ∙ with_here w.states (suc (length log)) new.0;
                steps = λ p r at. elim (event_cases log x r p at) [
                  | inl old ↦ step_old key.setting w x new.0 value D.draws p r old H.whole.machine
                  | inr hit ↦ step_new key.setting w x new.0 value D.draws p r hit.0 hit.1 new.1 H.whole.machine
                ];
              };
              numbers = record {
                counts = λ z q. counts (suc z) (λ a. omega arith)
                    ∙ C.numbers.counts z q;
                threads = C.numbers.threads;
                few = C.numbers.few;
              };
              verdicts = C.verdicts;
              refused = C.refused;
              ring = ring;
              low = subst (λ z. Rattle.gl_rule.specs.Ring.LowHolds z w.trims) (sym (holds 0 zero_near)) H.whole.low;
            };
            values = record {
              home = λ k q z.
                  let free : b.turn k ≡ 0 = sym (turns k q) ∙ z in
                  let r = H.values.home k q free in (
                    r.0,
                    r.1,
                    home_else key.setting w w' (x ∷ []) b.hold b'.hold k r.0 refl (λ a. busy (sym (ap b.turn a) ∙ free))
                        (λ a is. elim (C.elsewhere a) [
                          | inl same ↦ same
                          | inr o ↦ absurd (held_busy (suc a) o (sym (ap b.turn is) ∙ free))
                        ])
                        (holds k q) r.2,
                  );
            };
            views = each_set id u H.views
                (λ j o away f. record {
                  turns = turns_same b.turn b'.turn w.holder j o turns f.turns;
                  tries = f.tries;
                  positions = record {
                    shelves = all_map (ShelfFits log w.seat j) (ShelfFits log' w.seat j) o.shelves
                        (λ r p.
                        let other : x.thread ≢ r.thread = λ e. away (sym p.here ∙ ap w.seat (sym e ∙ may.by) ∙ shelf_fits.here) in
                        record {
                          here = p.here;
                          named = p.named;
                          events = events_other log r.thread r.marked p.events x other;
                          form = p.form;
                          made = (let a = by_other r.thread log x other in let f = p.made in omega arith);
                        })
                        f.positions.shelves;
                  };
                  values = record {
                    held = both_map (HeldOne b.turn w.holder j o.shelves) S (HeldStands key.setting w' b'.hold) o.held
                        (λ g p st. row_else key.setting w w' (x ∷ []) b.hold b'.hold g.drew g.object g.taken refl
                        (apart_list j o.shelves g away p) (apart_draws j o.shelves g away p) (holds g.object p.named) st) f.turns.held
                        f.values.held;
                  };
                  numbers = record {
                    shelves = both_map (ShelfFits log w.seat j) (ShelfDraws w.draws o.drawn) (ShelfDraws w'.draws o.drawn)
                        o.shelves (λ r p d. C.others r o.drawn (λ e. away (sym p.here ∙ ap w.seat e ∙ shelf_fits.here)) d)
                        f.positions.shelves
                        f.numbers.shelves;
                  };
                  knowledge = record {
                    seen = (let a = f.knowledge.seen in omega arith);
                    own = f.knowledge.own;
                    known = all_map (λ (k : ℕ × Stamp). slice_get log k.0 ≡ Some k.1) (λ (k : ℕ × Stamp). slice_get log' k.0 ≡ Some k.1)
                        o.known (λ k a. event_kept log (x ∷ []) k.0 k.1 a) f.knowledge.known;
                    tails = both_map (HeldOne b.turn w.holder j o.shelves) (TailsFit (length log) b.hold o.seen)
                        (TailsFit (length log') b'.hold o.seen) o.held
                        (λ g p t a q. tail_else (length log) (length log') o.seen b.hold b'.hold g.object a g.taken
                        (apart_list j o.shelves g away p) (holds g.object p.named) (t a q)) f.turns.held f.knowledge.tails;
                    reads = all_map (ReadFits b.hold) (ReadFits b'.hold) o.reads
                        (read_at b.hold b'.hold (λ k q. let a = holds k q in omega arith)) f.knowledge.reads;
                    loaded = all_map (λ (q : CellWord). (q.position < length log) × WordFits log q)
                        (λ (q : CellWord). (q.position < length log') × WordFits log' q) o.loaded (word_grows log x) f.knowledge.loaded;
                  };
                  ring =
                      (let none : o.stored ≡ [] = elim f.ring.by_holder [
                        | inl z ↦ z
                        | inr q ↦ absurd (let p : HeldOne b.turn w.holder j o.shelves q.0 =
                            All-contains (HeldOne b.turn w.holder j o.shelves) o.held q.0 f.turns.held q.1
                            in apart_list j o.shelves q.0 away p q.2)
                      ] in
                      record {
                        floors = both_map (HeldOne b.turn w.holder j o.shelves) (FloorFits b.hold) (FloorFits b'.hold) o.held
                            (λ g p t. floor_moves b.hold b'.hold g (λ nz. holds g.object p.named) t) f.turns.held f.ring.floors;
                        stored = λ i q. absurd (let z : length o.stored ≡ 0 = ap length none in omega arith);
                        few = f.ring.few;
                        by_holder = inl none;
                        lows = f.ring.lows;
                      });
                  quiet = record { none_live = λ q. absurd (quiet_no_step key.setting w.now new.0 x value (f.quiet.none_live q) new.1) };
                  owed =
                      (let apart_of : (r : Shelf) → Contains o.shelves r → (s.thread ≢ r.thread)
                      × AreEvents log r.thread r.marked = λ r c. let a : ShelfFits log w.seat j r =
                      All-contains (ShelfFits log w.seat j) o.shelves r f.positions.shelves c
                      in ((λ e. away (sym a.here ∙ ap w.seat (sym e) ∙ shelf_fits.here)), a.events) in
                      owed_others w.draws w'.draws o.owed o.shelves (λ a q. C.calm o.shelves a q apart_of)
                      (λ a q calm. C.calmly o.shelves a q apart_of calm)
                      (λ r c a i g at own. C.foreign r.thread a i g (λ e. (apart_of r c).0 (sym e)) own at) f.owed);
                  carries = record {
                    shelves = both_map (ShelfFits log w.seat j) (ShelfCarries w.values) (ShelfCarries w'.values) o.shelves
                        (λ r p q. carries_old w x new.0 value D.draws r p.events q) f.positions.shelves f.carries.shelves;
                  };
                  refusals = record {
                    held = both_map (HeldOne b.turn w.holder j o.shelves) (DrawsBelow w.draws) (DrawsBelow w'.draws)
                        o.held (λ g p q. commits_else w.draws w'.draws g (apart_draws j o.shelves g away p) q) f.turns.held f.refusals.held;
                    shelves = f.refusals.shelves;
                  };
                })
                (record {
                  tries = tries_moved w.stopped w.takers v s (shelf s.thread (s.marked ++ e ∷ [])) one refl mine.tries;
                  turns = record {
                    held = mapped Q1 (λ g has z p. record {
                      named = p.0.named;
                      here = p.0.here;
                      shelf = shelf s.thread (s.marked ++ e ∷ []);
                      one = refl;
                      busy = busy_of g p.0;
                    })
                        (λ g has z p. record {
                          named = p.0.named;
                          here = p.0.here;
                          shelf = shelf s.thread (s.marked ++ e ∷ []);
                          one = refl;
                          busy = busy_of g p.0;
                        });
                  };
                  positions = record { shelves = one_shelf (ShelfFits log' w.seat id) (shelf s.thread (s.marked ++ e ∷ [])) own_shelf };
                  values = record {
                    held = mapped (HeldStands key.setting w' b'.hold)
                        (λ g has z p. zero_state key.setting w' b'.hold g.drew g.object l' z new.2)
                        (λ g has nz p. row_own key.setting w w' b.hold b'.hold g.drew (drew (length log) g) g.object g.taken nz
                        (λ a row is r. C.held g a row has is r) (holds g.object p.0.named) p.1);
                  };
                  numbers = record { shelves = one_shelf (ShelfDraws w'.draws []) (shelf s.thread (s.marked ++ e ∷ [])) C.own };
                  knowledge = record {
                    seen = omega arith;
                    own = one_shelf (AreBelow (suc (length log))) (shelf s.thread (s.marked ++ e ∷ []))
                        (λ i q f a z. elim (at_cases s.marked e f i a) [
                          | inl old ↦ (let r = only_shelf (AreBelow v.seen) v s one mine.knowledge.own i q f old z in omega arith)
                          | inr k ↦ (let p : position_of e ≡ Some q = rw k.1 at z in let r : Some (length log)
                              ≡ Some q = sym (may.position (length log)) ∙ p in let t : length log ≡ q = cc in omega arith)
                        ]);
                    known = All-push (λ (k : ℕ × Stamp). slice_get log' k.0 ≡ Some k.1) v.known (length log, x)
                        (all_map (λ (k : ℕ × Stamp). slice_get log k.0 ≡ Some k.1) (λ (k : ℕ × Stamp). slice_get log' k.0 ≡ Some k.1)
                        v.known
                        (λ k a. event_kept log (x ∷ []) k.0 k.1 a) mine.knowledge.known) (new_event log x);
                    tails = mapped (TailsFit (length log') b'.hold (suc (length log)))
                        (λ g has z p a q. new_list log x b'.hold g y z a q)
                        (λ g has nz p a q. new_row key.setting w x v.seen b b' g nz p.0.named holds up p.1 p.2 seen a q);
                    reads = all_map (ReadFits b.hold) (ReadFits b'.hold) v.reads
                        (read_at b.hold b'.hold (λ k q. let a = holds k q in omega arith)) mine.knowledge.reads;
                    loaded = all_map (λ (q : CellWord). (q.position < length log) × WordFits log q)
                        (λ (q : CellWord). (q.position < length log') × WordFits log' q) v.loaded (word_grows log x) mine.knowledge.loaded;
                  };
                  ring = record {
                    floors = mapped (FloorFits b'.hold) (λ g has z p. floor_moves b.hold b'.hold g (λ nz. holds g.object p.0.named) p.3)
                        (λ g has nz p. floor_moves b.hold b'.hold g (λ nz. holds g.object p.0.named) p.3);
                    stored = λ i q. absurd (omega arith);
                    few = omega arith;
                    by_holder = inl refl;
                    lows = one_shelf (ShelfTrims w.trims) (shelf s.thread (s.marked ++ e ∷ []))
                        (trims_push w.trims s.thread s.marked e (no_trim e (length log) (may.position (length log)))
                        (only_shelf (ShelfTrims w.trims) v s one mine.ring.lows));
                  };
                  quiet = record { none_live = λ q. absurd (quiet_no_step key.setting w.now new.0 x value (mine.quiet.none_live q) new.1) };
                  owed = owed_moves w.draws w'.draws v.owed v.shelves s (shelf s.thread (s.marked ++ e ∷ [])) one refl
                      (λ a z has. absurd (let q = has.1 in let n : length v.owed ≡ 0 = ap length may.paid in omega arith))
                      (λ a z has q. absurd (let l = has.1 in let n : length v.owed ≡ 0 = ap length may.paid in omega arith))
                      (λ a z i g has at last own. absurd (let q = has.1 in let n : length v.owed ≡ 0 = ap length may.paid in omega arith))
                      (λ a i g at own. elim (C.repeats a i g at own) [
                        | inl old ↦ inl (old, repeats_kept a i s.marked e (event_no_repeat e (length log) (may.position (length log)) a i))
                        | inr new ↦ inr (
                          new.0,
                          repeats_kept a i s.marked e
                              (event_no_repeat e (length log) (may.position (length log)) a i) ∙ new.1,
                        )
                      ])
                      mine.owed;
                  carries = record {
                    shelves = one_shelf (ShelfCarries w'.values) (shelf s.thread (s.marked ++ e ∷ []))
                        (λ i p g at q. elim (at_cases s.marked e g i at) [
                          | inl old ↦ carries_old w x new.0 value D.draws s shelf_fits.events
                              (only_shelf (ShelfCarries w.values) v s one mine.carries.shelves) i p g old q
                          | inr k ↦ (let z : position_of e ≡ Some p = rw k.1 at q in let r : Some (length log)
                              ≡ Some p = sym (may.position (length log)) ∙ z in let same : length log ≡ p = cc in ap w'.values (sym same)
                              ∙ with_here w.values (length log) value ∙ sym (may.carries (length log)) ∙ ap value_of (sym k.1))
                        ]);
                  };
                  refusals = record {
                    held = mapped_publish (DrawsBelow w.draws) (DrawsBelow w'.draws) (length log) y (drew (length log)) v.held
                        (λ g has z p. record { at = λ a before d i o. absurd (let q = sym z ∙ o in omega arith) })
                        (λ g has nz p. commits_published log w.draws w'.draws g
                        (record g { tails = suc (length log) ∷ g.tails; drew = drew (length log) g }) H.whole.verdicts
                        (λ a ds o. C.behind g a ds has o) refl refl p) mine.refusals.held;
                    shelves = one_shelf (ShelfRefusals w.until) (shelf s.thread (s.marked ++ e ∷ []))
                        (refusals_push w.until s.marked e (λ tx a is. no_abort e (length log) (may.position (length log)) tx
                        (Rattle.gl_model.specs.declared.tx.Why.TheVariants.Raised a) is)
                        (only_shelf (ShelfRefusals w.until) v s one mine.refusals.shelves));
                  };
                });
          },
        ),
        (
          small,
          omega arith,
          ap told (sym count),
          λ g m has list tail. tail_zero (length log) v.seen b.hold g.object m g.taken list
              (All-contains T v.held g mine.knowledge.tails has m tail) ∙ sym count,
        ),
      )
