-- What follows for a pass that is done, and for the table when all are.
use Rattle.std.proofs.Common.{◌≡◌, ◌≢◌, ℕ, zero, suc, ◌<◌, ◌≤◌, List, [], ◌∷◌, length, get_or, sym, refl, ap, subst, ⊎_elim, arith, ◌∙◌, inl, inr, Some, None, true, false, Bool, add-one}
use Rattle.std.specs.Prelude.{ℤ, pos, Contains, ◌⊎◌, ◌||◌, slice_get}
use Rattle.std.proofs.lemmas.Bool.{cases_lt}
use Rattle.std.proofs.lemmas.List.Elements.{All-contains}
use Rattle.std.proofs.lemmas.Option.{slice_get_within, slice_get_cases}
use Rattle.std.proofs.Math.Nat.{eq-or-lt_of_le}
use mathlib.Core.Option.{some}
use lib.ListN.{get_elem?}
use Rattle.atomic_table.specs.Table as table
use Rattle.gl_model.specs.declared.event.Act.TheVariants.{Begin, End, Acq, Rel, VRead, VWrite, Fork, Join, Alloc, Print, Input, Fail}
use Rattle.gl_model.specs.declared.event.Event.{Event}
use Rattle.gl_model.specs.declared.event.Event.TheVariants.{Act as Does, Commit as Commits}
use Rattle.gl_model.specs.declared.event.Stamp.{Stamp}
use Rattle.gl_model.specs.declared.limits.TheConstants.{THREADS}
use Rattle.gl_model.specs.Edges.{EventAt}
use Rattle.gl_model.specs.Entries.{Entry, Sync, Commit, Plain, Abort, Trim, Over}
use Rattle.gl_model.specs.Form.{At, IsBegin, IsEnd, IsOver, IsTrim}
use Rattle.gl_model.specs.Lawful.{IsLawful}
use Rattle.gl_model.specs.Machine.{Setting, State, ThreadState, Step, start, NeverForked, Forked, Running, Ended}
use Rattle.gl_model.specs.Records.{Place, EntryAt, position_of, event_of}
use Rattle.gl_laws.proofs.Closure.{same_event}
use Rattle.gl_laws.proofs.Trails.{Trail, stage, come, come_rises, begin_between}
use Rattle.gl_draws.specs.Cached.{IsEntryRising}
use Rattle.gl_draws.specs.Ties.{last_position}
use Rattle.gl_draws.specs.Verdicts.{DrawHolds}
use Rattle.gl_draws.proofs.DrawTies.{with_here, with_else}
use Rattle.gl_draws.proofs.EventTies.{last_own}
use Rattle.gl_draws.proofs.LastOnes.{each_at, last_write-among}
use Rattle.gl_draws.proofs.Running.{first_stage}
use Rattle.gl_rule.specs.declared.slot.Slot.{Slot}
use Rattle.gl_rule.specs.Closed.{EndsOver, IsDone, lists_in}
use Rattle.gl_rule.specs.Objects.{Key, board, capacity}
use Rattle.gl_draws.specs.Forming.{IsFormed}
use Rattle.gl_rule.specs.Positions.{ShelfFits}
use Rattle.gl_rule.specs.Numbers.{ShelfDraws}
use Rattle.gl_rule.specs.Owed.{OwedOne}
use Rattle.gl_rule.specs.Rule.{Fits, Holds, Rule}
use Rattle.gl_state.specs.States.{IsQuiet}
use Rattle.gl_rule.specs.View.{View, Shelf, both, blank}
use Rattle.atomic_table.proofs.Lists.{at_set}
use Rattle.gl_rule.proofs.Owing.{either_in}
use Rattle.gl_rule.proofs.Seats.{joins}
use Rattle.gl_rule.specs.World.{World}
use Rattle.gl_rule.proofs.Closing.{closes, shelf_at}
use Rattle.gl_rule.proofs.Lawfulness.{closed_lawful}
use Rattle.gl_rule.proofs.Loading.{all_at}

-- an entry that ends a list is not one that a trim makes
over_trim : (e : Entry) → IsOver e → IsTrim e → ⊥
over_trim (Over a) o t = t
over_trim _ o t = o

-- an entry that ends a list is not that of a begin
over_begin : (e : Entry) → IsOver e → IsBegin e → ⊥
over_begin (Over a) o t = t
over_begin _ o t = o

-- an entry that ends a list has no position
over_place : (e : Entry) → IsOver e → position_of e ≡ None
over_place (Over a) o = refl
over_place (Sync a b c) o = absurd o
over_place (Commit a b) o = absurd o
over_place (Plain a b c d e f) o = absurd o
over_place (Abort a b) o = absurd o
over_place (Trim a) o = absurd o

-- the entry of a thread's end has a position, and its event is an end
end_event : (e : Entry) → IsEnd e → (p : ℕ) × (position_of e ≡ Some p) × (event_of e ≡ Some (Does End))
end_event (Sync at End value) i = (at, refl, refl)
end_event (Sync at (Begin a) value) i = absurd i
end_event (Sync at (Acq a) value) i = absurd i
end_event (Sync at (Rel a) value) i = absurd i
end_event (Sync at (VRead a) value) i = absurd i
end_event (Sync at (VWrite a) value) i = absurd i
end_event (Sync at (Fork a b) value) i = absurd i
end_event (Sync at (Join a) value) i = absurd i
end_event (Sync at (Alloc a) value) i = absurd i
end_event (Sync at Print value) i = absurd i
end_event (Sync at Input value) i = absurd i
end_event (Sync at (Fail a) value) i = absurd i
end_event (Commit a b) i = absurd i
end_event (Plain a b c d e f) i = absurd i
end_event (Abort a b) i = absurd i
end_event (Trim a) i = absurd i
end_event (Over a) i = absurd i

-- a list that ends with Over has its End before that
pub record LastEnd (es : List Entry) : Type 0 where
  pub index : ℕ
  pub entry : Entry
  pub there : At es index entry
  pub is : IsEnd entry
  pub over : Entry
  pub behind : At es (suc index) over
  pub is_over : IsOver over
  pub long : length es ≡ suc (suc index)

-- a list that ends with Over has its End just before
pub last_end : (t : ℕ) (es : List Entry) → IsFormed t es → EndsOver es → LastEnd es
last_end t es f ends = by ends.0 ends.1.0 ends.1.1 ends.1.2
  where
    by : (i : ℕ) (e : Entry) → At es i e → IsOver e → LastEnd es
    by zero e at over = absurd (over_begin e over (f.begins zero e at (over_trim e over) (λ j g a lt. absurd (omega arith))))
    by (suc i) e at over = here (slice_get_cases es i).1
      where
        here : ((g : Entry) × (i < length es) × (slice_get es i ≡ Some g) × (get_or es i g ≡ g))
            ⊎ ((length es ≤ i) × (slice_get es i ≡ None)) → LastEnd es
        here (inl g) = record {
          index = i;
          entry = g.0;
          there = g.2;
          is = (f.over_after_end i g.0 e g.2 (subst (λ n. At es n e) (sym (add-one i)) at)).1 over;
          over = e;
          behind = at;
          is_over = over;
          long = (let z = f.nothing_after (suc i) e at over in omega arith);
        }
        here (inr q) = absurd (let z = slice_get_within es (suc i) e at in let y = q.0 in omega arith)

-- a list with nothing in it is empty
none_of : {A : Type 0} → (l : List A) → ((o : A) → Contains l o → ⊥) → l ≡ []
none_of [] none = refl
none_of (o ∷ os) none = absurd (none o (zero, omega arith, refl))

-- what is done by the first view's quiet is done by both
pub done_left : (es : List Entry) (q r : Bool) → IsDone es q → IsDone es (q || r)
done_left es q r (inl e) = inl e
done_left es true r (inr e) = inr (e.0, refl)
done_left es false r (inr e) = absurd (let z = e.1 in cc)

-- what is done by the second view's quiet is done by both
pub done_right : (es : List Entry) (q r : Bool) → IsDone es r → IsDone es (q || r)
done_right es q r (inl e) = inl e
done_right es true r (inr e) = inr (e.0, refl)
done_right es false r (inr e) = inr e

-- where all lists of a pass are done, no number of it waits, it owes nothing, and it has stored no word in the cell of the tail
module _ (key : Key) (w : World) (st : table.State Slot View) (id : ℕ) (v : View) (H : Holds key w st) (here : get_elem? st.views id
    ≡ some v) (idle : v.held ≡ []) (all_done : (s : Shelf) → Contains v.shelves s → IsDone s.marked v.quiet) (s : Shelf)
    (has : Contains v.shelves s) where
  -- the pass's view fits
  mine : Fits key (board (capacity key) st.words) w id v
  mine = H.views.at id v here

  -- the list has its thread's events, in a form that it may have so far
  fits : ShelfFits w.log w.seat id s
  fits = All-contains (ShelfFits w.log w.seat id) v.shelves s mine.positions.shelves has

  -- each draw of its thread has its entry in the list, or waits for it
  draws : ShelfDraws w.draws v.drawn s
  draws = All-contains (ShelfDraws w.draws v.drawn) v.shelves s mine.numbers.shelves has

  -- the list is done: it ends with Over, or it is empty and no thread is live
  done : IsDone s.marked v.quiet
  done = all_done s has

  -- an empty list has no last event
  no_block : (p : ℕ) → s.marked ≡ [] → last_position s.marked ≡ Some p → ⊥
  no_block p e at = let z : None ≡ Some p = sym (ap last_position e) ∙ at in cc

  -- after the End the thread's block is that
  block_end : (p : ℕ) → EndsOver s.marked → last_position s.marked ≡ Some p
      → EventAt w.log p (record { thread = s.thread; event = Does End })
  block_end p ends last =
      let l = last_end s.thread s.marked fits.form ends in
      let e = end_event l.entry l.is in
      let at = fits.events.listed l.index e.0 l.entry (Does End) l.there e.1 e.2 in
      let o = last_own w.log s.thread s.marked fits.events p last in
      let le = o.upto e.0 (record { thread = s.thread; event = Does End }) at refl in
      let long = l.long in
      let near = slice_get_within s.marked o.index o.entry o.there in
      let same : o.index ≡ l.index = elim (cases_lt o.index l.index) [
        | inl lt ↦ absurd (let z : p < e.0 = fits.events.rise o.index l.index p e.0 o.entry l.entry o.there l.there lt o.position e.1
            in omega arith)
        | inr ge ↦ elim (eq-or-lt_of_le ge) [
          | inl q ↦ sym q
          | inr lt ↦ absurd (over_not o.index o.entry o.there o.position l (let z : o.index ≡ suc l.index = omega arith in z))
        ]
      ] in
      let entry : o.entry ≡ l.entry = some_is o.entry l.entry (sym (subst (λ n. At s.marked n o.entry) same o.there) ∙ l.there) in
      let place : p ≡ e.0 = some_n p e.0 (sym o.position ∙ ap position_of entry ∙ e.1) in
      subst (λ n. EventAt w.log n (record { thread = s.thread; event = Does End })) (sym place) at
    where
      some_is : (a b : Entry) → Some a ≡ Some b → a ≡ b
      some_is a b z = cc

      some_n : (a b : ℕ) → Some a ≡ Some b → a ≡ b
      some_n a b z = cc

      over_not : (i : ℕ) (e : Entry) → At s.marked i e → position_of e ≡ Some p → (l : LastEnd s.marked) → i ≡ suc l.index → ⊥
      over_not i e at q l same = let is : e ≡ l.over = some_is e l.over (sym (subst (λ n. At s.marked n e) same at) ∙ l.behind)
          in let z : None ≡ Some p = sym (over_place l.over l.is_over) ∙ sym (ap position_of is) ∙ q in cc

  -- where a list is done no number waits
  pub drew_all : v.drawn ≡ []
  drew_all = none_of v.drawn (λ o c. let r = draws.runs o c in elim done [
    | inl ends ↦ (let l = last_end s.thread s.marked fits.form ends in r.2 l.index l.entry l.there l.is)
    | inr e ↦ no_block r.0 e.0 r.1
  ])

  -- nothing of this list's own is owed
  pub paid_here : (x : ℕ) (q : OwedOne w.draws v.shelves x) → q.shelf ≡ s → ⊥
  paid_here x q same =
      let last : last_position s.marked ≡ Some q.draw.block = ap (λ (z : Shelf). last_position z.marked) (sym same) ∙ q.block in
      elim done [
        | inl ends ↦
            (let at = block_end q.draw.block ends last in
            let among = (last_write-among w.log x (w.draws x) q.draw q.last).0 in
            let placed = (each_at (DrawHolds w.log x) (w.draws x) q.draw (H.whole.verdicts x) among).1.placed in
            placed.goes_on (ap (λ (z : Stamp). z.event)
            (same_event w.log q.draw.block placed.event (record { thread = s.thread; event = Does End }) placed.here at)))
        | inr e ↦ no_block q.draw.block e.0 last
      ]

  -- nor is a word stored in the tail's cell
  pub stored_none : v.stored ≡ []
  stored_none = elim mine.ring.by_holder [
    | inl z ↦ z
    | inr o ↦ absurd (let c = o.1.1 in let z : length v.held ≡ 0 = ap length idle in omega arith)
  ]

module _ (key : Key) (w : World) (st : table.State Slot View) (id : ℕ) (v : View) (H : Holds key w st) (here : get_elem? st.views id
    ≡ some v) (idle : v.held ≡ []) (all_done : (s : Shelf) → Contains v.shelves s → IsDone s.marked v.quiet) where
  -- nor is a word owed
  pub paid_all : v.owed ≡ []
  paid_all = none_of v.owed (λ o c.
      let q : OwedOne w.draws v.shelves o.0 = (H.views.at id v here).owed.owes o.0 o.1 c in
      paid_here key w st id v H here idle all_done q.shelf (subst (λ l. Contains l q.shelf) (sym q.one) (zero, omega arith, refl)) o.0 q
      refl)

-- a seat takes in another's lists, where all lists of both are done and neither holds anything
pub joins_done : (key : Key) (id other : ℕ) (v u : View) (r s : Shelf) → Contains v.shelves r → Contains u.shelves s → v.held ≡ [] → u.held
    ≡ [] → ((a : Shelf) → Contains v.shelves a → IsDone a.marked v.quiet) → ((a : Shelf) → Contains u.shelves a → IsDone a.marked u.quiet)
    → table.Joins (Rule key) id v other u (both v u) (blank [])
joins_done key id other v u r s has also idle free done done' st rule at apart there =
    let w = rule.0 in
    let H = rule.1 in
    let there' : get_elem? st.views other ≡ some u =
    ⊎_elim (λ (t : (other ≡ id) × (both v u ≡ u)). absurd (apart t.0)) (λ (t : (other ≢ id) × (get_elem? st.views other ≡ some u)). t.1)
    (at_set st.views id other (both v u) u there) in
    joins key id other v u s (λ e. absurd (let n : length v.shelves ≡ 0 = ap length e in let l = has.1 in omega arith)) also free idle
    (drew_all key w st other u H there' free done' s also) (drew_all key w st id v H at idle done r has)
    (stored_none key w st id v H at idle done r has) (paid_all key w st other u H there' free done')
    (paid_all key w st id v H at idle done) st rule at apart there

-- and its lists are done then
pub both_done : (v u : View) → ((a : Shelf) → Contains v.shelves a → IsDone a.marked v.quiet)
    → ((a : Shelf) → Contains u.shelves a → IsDone a.marked u.quiet) → (a : Shelf) → Contains (both v u).shelves a
    → IsDone a.marked (both v u).quiet
both_done v u done done' a c = elim (either_in v.shelves u.shelves a c) [
  | inl i ↦ done_left a.marked v.quiet u.quiet (done a i)
  | inr i ↦ done_right a.marked v.quiet u.quiet (done' a i)
]

-- no thread beyond the last is ever forked
never_step : (setting : Setting) (old new : State) (w t : ℕ) (value : ℤ) (e : Event)
    → Step setting old (record { thread = w; event = e }) value new → w ≢ t → THREADS ≤ t → old.threads t ≡ NeverForked → new.threads t
    ≡ NeverForked
never_step setting old new w t value (Does (Begin f)) s ne far is = ap (λ (z : State). z.threads t) s.effect
    ∙ with_else old.threads w t Running (λ z. ne (sym z)) ∙ is
never_step setting old new w t value (Does End) s ne far is = ap (λ (z : State). z.threads t) s.effect
    ∙ with_else old.threads w t Ended (λ z. ne (sym z)) ∙ is
never_step setting old new w t value (Does (Acq o)) s ne far is = ap (λ (z : State). z.threads t) s.effect.2 ∙ is
never_step setting old new w t value (Does (Rel o)) s ne far is = ap (λ (z : State). z.threads t) s.effect.2 ∙ is
never_step setting old new w t value (Does (VRead v)) s ne far is = ap (λ (z : State). z.threads t) s.effect.1 ∙ is
never_step setting old new w t value (Does (VWrite v)) s ne far is = ap (λ (z : State). z.threads t) s.effect ∙ is
never_step setting old new w t value (Does (Fork u f)) s ne far is = ap (λ (z : State). z.threads t) s.effect.1
    ∙ with_else old.threads u t (Forked f value) (λ z. let n = s.effect.0.1 in omega arith) ∙ is
never_step setting old new w t value (Does (Join u)) s ne far is = ap (λ (z : State). z.threads t) s.effect.1 ∙ is
never_step setting old new w t value (Does (Alloc c)) s ne far is = ap (λ (z : State). z.threads t) s.effect.4 ∙ is
never_step setting old new w t value (Does Print) s ne far is = ap (λ (z : State). z.threads t) s.effect ∙ is
never_step setting old new w t value (Does Input) s ne far is = ap (λ (z : State). z.threads t) s.effect.1 ∙ is
never_step setting old new w t value (Does (Fail c)) s ne far is = ap (λ (z : State). z.threads t) s.effect.1 ∙ is
never_step setting old new w t value (Commits xs) s ne far is = ap (λ (z : State). z.threads t) s.effect ∙ is

-- a thread whose stage is three or more has ended
stage_high : (x : ThreadState) → 3 ≤ stage x → x ≡ Ended
unfolding stage
stage_high NeverForked le = absurd (omega arith)
stage_high (Forked f a) le = absurd (omega arith)
stage_high Running le = absurd (omega arith)
stage_high Ended le = refl

-- a thread that has ended is at stage three
ended_three : stage Ended ≡ 3
unfolding stage
ended_three = refl

-- the seat that has the lists of all threads, each done
module _ (key : Key) (w : World) (st : table.State Slot View) (id : ℕ) (v : View) (H : Holds key w st) (here : get_elem? st.views id
    ≡ some v) (idle : v.held ≡ []) (all : (t : ℕ) → t < THREADS → (s : Shelf) × Contains v.shelves s × (s.thread ≡ t))
    (done : (s : Shelf) → Contains v.shelves s → IsDone s.marked v.quiet) where
  -- the seat's view fits
  its : Fits key (board (capacity key) st.words) w id v
  its = H.views.at id v here

  -- no number waits for its entry
  pub none : v.drawn ≡ []
  none = let s = all 0 (omega arith) in drew_all key w st id v H here idle done s.0 s.1

  -- it owes nothing
  pub paid : v.owed ≡ []
  paid = paid_all key w st id v H here idle done

  -- each of the seat's lists has its thread's events, in a form that it may have so far
  fits_of : (s : Shelf) → Contains v.shelves s → ShelfFits w.log w.seat id s
  fits_of s c = All-contains (ShelfFits w.log w.seat id) v.shelves s its.positions.shelves c

  abbrev trail : Trail key.setting (start key.setting) w.log w.now
  trail = record {
    at = w.states;
    first = H.whole.machine.first;
    last = H.whole.machine.last;
    steps = λ p x at. (w.values p, H.whole.machine.steps p x at);
  }

  -- in no state of the run was a thread beyond the last ever forked
  never : (t p : ℕ) → THREADS ≤ t → p ≤ length w.log → (w.states p).threads t ≡ NeverForked
  never t zero far le = ap (λ (z : State). z.threads t) H.whole.machine.first
      ∙ with_else (λ _. NeverForked) 0 t (Forked key.setting.main (pos 0)) (λ z. omega arith)
  never t (suc p) far le =
      let s = Rattle.gl_laws.proofs.Trails.event_at w.log p (omega arith) in
      let step = H.whole.machine.steps p s.0 s.1 in
      let near = (all_at w.log p s.0 H.whole.positions.kept s.1).0 in
      never_step key.setting (w.states p) (w.states (suc p)) s.0.thread t (w.values p) s.0.event step (λ z. omega arith) far
      (never t p far (omega arith))

  ended : (s : Shelf) → Contains v.shelves s → EndsOver s.marked → w.now.threads s.thread ≡ Ended
  unfolding come
  ended s c ends =
      let f = fits_of s c in
      let l = last_end s.thread s.marked f.form ends in
      let e = end_event l.entry l.is in
      let at = f.events.listed l.index e.0 l.entry (Does End) l.there e.1 e.2 in
      let near = slice_get_within w.log e.0 (record { thread = s.thread; event = Does End }) at in
      let step = H.whole.machine.steps e.0 (record { thread = s.thread; event = Does End }) at in
      let is : (w.states (suc e.0)).threads s.thread ≡ Ended = ap (λ (z : State). z.threads s.thread) step.effect
      ∙ with_here (w.states e.0).threads s.thread Ended in
      let three : come key.setting (start key.setting) w.log w.now trail s.thread (suc e.0) ≡ 3 = ap stage is ∙ ended_three in
      let up = come_rises key.setting (start key.setting) w.log w.now trail s.thread (suc e.0) (length w.log) (omega arith) (omega arith) in
      let end : come key.setting (start key.setting) w.log w.now trail s.thread (length w.log)
      ≡ stage (w.now.threads s.thread) = ap (λ (z : State). stage (z.threads s.thread)) H.whole.machine.last in
      stage_high (w.now.threads s.thread) (omega arith)

  -- no thread is live
  pub all_quiet : IsQuiet w.now
  all_quiet = by v.quiet refl
    where
      by : (q : Bool) → v.quiet ≡ q → IsQuiet w.now
      by true e = its.quiet.none_live e
      by false e = λ t. elim (cases_lt t THREADS) [
        | inl near ↦
            (let s = all t near in
            elim (done s.0 s.1) [
              | inl ends ↦ inr (subst (λ u. w.now.threads u ≡ Ended) s.2 (ended s.0 s.1 ends))
              | inr q ↦ absurd (let z : true ≡ false = sym q.1 ∙ e in cc)
            ])
        | inr far ↦ inl (ap (λ (z : State). z.threads t) (sym H.whole.machine.last) ∙ never t (length w.log) far (omega arith))
      ]

  -- thread 0 has a list
  pub main_there : lists_in v.shelves 0 ≢ []
  unfolding come stage
  main_there empty =
      let s = all 0 (omega arith) in
      let f = fits_of s.0 s.1 in
      let first : (w.states 0).threads 0 ≡ Forked key.setting.main (pos 0) = ap (λ (z : State). z.threads 0) H.whole.machine.first in
      let one : come key.setting (start key.setting) w.log w.now trail 0 0 ≡ 1 = ap stage first in
      let up = come_rises key.setting (start key.setting) w.log w.now trail 0 0 (length w.log) (omega arith) (omega arith) in
      let end : come key.setting (start key.setting) w.log w.now trail 0 (length w.log)
      ≡ stage (w.now.threads 0) = ap (λ (z : State). stage (z.threads 0)) H.whole.machine.last in
      let high : 2 ≤ come key.setting (start key.setting) w.log w.now trail 0 (length w.log) = elim (all_quiet 0) [
        | inl q ↦ absurd (let z : stage (w.now.threads 0) ≡ 0 = ap stage q in omega arith)
        | inr q ↦ (let z : stage (w.now.threads 0) ≡ 3 = ap stage q in omega arith)
      ] in
      let begin = begin_between key.setting (start key.setting) w.log w.now trail 0 0 (length w.log) (omega arith) (omega arith)
      (first_stage key.setting w.log w.now trail 0) high in
      elim (shelf_at v.shelves 0) [
        | inl r ↦
            (let g = fits_of r.0 r.1 in
            let m = g.events.made begin.place begin.event begin.here (begin.own ∙ sym r.2) in
            let z : At [] m.0 m.1 = subst (λ l. At l m.0 m.1) (sym r.3 ∙ empty) m.2 in cc)
        | inr r ↦ r.1 s.0 s.1 s.2
      ]

  -- each list that is not empty ends with Over
  pub ends_over : (t : ℕ) → lists_in v.shelves t ≢ [] → EndsOver (lists_in v.shelves t)
  ends_over t full = elim (shelf_at v.shelves t) [
    | inl r ↦ elim (done r.0 r.1) [ inl ends ↦ subst EndsOver (sym r.3) ends | inr q ↦ absurd (full (r.3 ∙ q.0)) ]
    | inr r ↦ absurd (full r.0)
  ]

  -- so the record of all lists is lawful
  pub table_lawful : ((d : Place) (e : Entry) → EntryAt (lists_in v.shelves) d e → IsEntryRising e)
      → IsLawful key.setting (lists_in v.shelves)
  table_lawful rising = closed_lawful key.setting ((board (capacity key) st.words).hold 0) (lists_in v.shelves)
      (closes key w st id v H here idle none all all_quiet paid) rising main_there ends_over
