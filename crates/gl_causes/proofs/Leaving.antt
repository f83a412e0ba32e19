-- What happens before an entry of another thread leaves its own thread by an event, and that is not the first one.
use Rattle.std.proofs.Common.{◌≡◌, ◌≢◌, ℕ, suc, ◌+◌, ◌≤◌, List, take, refl, sym, ◌∙◌, subst, inl, inr, arith, Some, None}
use Rattle.std.specs.Prelude.{◌⊎◌, Option}
use Rattle.std.proofs.lemmas.Option.{slice_get_within, slice_get_cases}
use Rattle.gl_draws.proofs.DrawPlaces.{LastEvent}
use Rattle.gl_draws.specs.Ties.{last_position}
use Rattle.gl_model.specs.declared.event.Act.TheVariants.{Begin, End, Fork}
use Rattle.gl_model.specs.declared.event.Event.TheVariants.{Act as Does, Commit as Commits}
use Rattle.gl_model.specs.declared.event.Stamp.{Stamp}
use Rattle.gl_model.specs.Edges.{SynchronizesWith, release_acquire, fork_begin, end_join, commits, TransitiveClosure, one_step, then_step}
use Rattle.gl_model.specs.Entries.{Entry, Sync, Commit, Plain, Abort, Trim, Over}
use Rattle.gl_model.specs.Form.{ListForm, IsTrim, IsBegin, IsOver}
use Rattle.gl_model.specs.HappensBefore.{HappensBefore, by_steps, from_commit, through_commit, IsCommit, OrdersDirectly, program_order, synchronizes}
use Rattle.gl_model.specs.Records.{At, Lists, Place, InProgramOrder, IsEventAt, position_of, event_of}
use Rattle.gl_raised.proofs.Blocks.{all_trims, end_entry}
use Rattle.gl_raised.proofs.Racing.{commit_event}

-- an event is no note of a trim
event_no_trim : (e : Entry) (p : ℕ) → position_of e ≡ Some p → IsTrim e → ⊥
event_no_trim (Sync at act value) p i t = t
event_no_trim (Commit at tx) p i t = t
event_no_trim (Plain var nth cached write value raised) p i t = t
event_no_trim (Abort tx why) p i t = t
event_no_trim (Trim low) p i t = cc
event_no_trim (Over ending) p i t = t

-- an event is no end of a list
event_no_over : (e : Entry) (p : ℕ) → position_of e ≡ Some p → IsOver e → ⊥
event_no_over (Sync at act value) p i t = t
event_no_over (Commit at tx) p i t = t
event_no_over (Plain var nth cached write value raised) p i t = t
event_no_over (Abort tx why) p i t = t
event_no_over (Trim low) p i t = t
event_no_over (Over ending) p i t = cc

-- the entry of a thread's beginning is the event of one
begin_there : (e : Entry) → IsBegin e → (g : ℕ) × (event_of e ≡ Some (Does (Begin g)))
begin_there (Sync at (Begin g) value) b = (g, refl)
begin_there (Sync at End value) b = absurd b
begin_there (Sync at act value) b = absurd b
begin_there (Commit at tx) b = absurd b
begin_there (Plain var nth cached write value raised) b = absurd b
begin_there (Abort tx why) b = absurd b
begin_there (Trim low) b = absurd b
begin_there (Over ending) b = absurd b

-- before an event that begins no thread there is another one
pub prior : (t : ℕ) (es : List Entry) → ListForm t es → (i : ℕ) (e : Entry) → At es i e → (p : ℕ) → position_of e ≡ Some p
    → (IsBegin e → ⊥)
    → (b : ℕ) × (last_position (take i es) ≡ Some b)
prior t es form i e there p event other = from (last_position (take i es)) refl
  where
    from : (o : Option ℕ) → last_position (take i es) ≡ o → (b : ℕ) × (last_position (take i es) ≡ Some b)
    from (Some b) eq = (b, eq)
    from None eq = absurd (other (form.begins i e there (event_no_trim e p event)
        (λ j f a l. all_trims t es form i eq (suc j) j f (omega arith) l a)))

-- and that does not end its thread
pub no_end : (t : ℕ) (es : List Entry) → ListForm t es → (i : ℕ) (e : Entry) → At es i e → (p : ℕ) → position_of e ≡ Some p → (b : ℕ)
    → (l : LastEvent es i b) → event_of l.entry ≡ Some (Does End) → ⊥
no_end t es form i e there p event b l is = elim (slice_get_cases es (l.index + 1)).1 [
  | inr none ↦ absurd (let n = slice_get_within es i e there in let m = none.0 in let k = l.within in omega arith)
  | inl some ↦
      (let over = (form.over_after_end l.index l.entry some.0 l.there some.2).0 (end_entry l.entry is) in
      let long = form.nothing_after (l.index + 1) some.0 some.2 over in
      let n = slice_get_within es i e there in
      let k = l.within in
      let same : i ≡ l.index + 1 = omega arith in
      event_no_over e p event (subst IsOver (let x : At es (l.index + 1) e = rw same at there in cc) over))
]

-- what synchronizes with a later event begins no thread
source_no_begin : (r t : Stamp) → SynchronizesWith r t → (g : ℕ) → r.event ≢ Does (Begin g)
source_no_begin r t (release_acquire o x y) g e = let none = rw e at x in cc
source_no_begin r t (fork_begin k n x y) g e = let z : Does (Begin g) ≡ Does (Fork t.thread k) = sym e ∙ x in cc
source_no_begin r t (end_join x y) g e = let z : Does (Begin g) ≡ Does End = sym e ∙ x in cc
source_no_begin r t (commits k xs ys x y m n) g e = let z : Does (Begin g) ≡ Commits xs = sym e ∙ x in cc

-- an event at b or behind it in its list that begins no thread
pub record IsAhead (R : Lists) (b c : Place) : Type 0 where
  pub own : b.thread ≡ c.thread
  pub within : b.index ≤ c.index
  pub position : ℕ
  pub event : Stamp
  pub made : IsEventAt R c position event
  pub no_begin : IsBegin made.entry → ⊥

module _ (R : Lists) where
  -- an event at b or behind it in its list is ahead of b, if it begins no thread
  at_source : (b m : Place) (k : ℕ) (r : Stamp) → (e : IsEventAt R m k r) → ((g : ℕ) → r.event ≢ Does (Begin g)) → b.thread ≡ m.thread
      → b.index ≤ m.index → IsAhead R b m
  at_source b m k r e other own within = record {
    own = own;
    within = within;
    position = k;
    event = r;
    made = e;
    no_begin = λ w. (let v = begin_there e.entry w in let z = e.event in other v.0 (let same : r.event ≡ Does (Begin v.0) = cc in same));
  }

  -- what comes by steps is behind in the list, or comes so after an event ahead
  leave : {b d : Place} → TransitiveClosure (OrdersDirectly R) b d → InProgramOrder b d
      ⊎ ((m : Place) × IsAhead R b m × TransitiveClosure (OrdersDirectly R) m d)
  leave (one_step (program_order lt)) = inl lt
  leave {b = b} (one_step (synchronizes k l r t e f less w)) =
      inr (b, at_source b b k r e (source_no_begin r t w) refl (omega arith), one_step (synchronizes k l r t e f less w))
  leave {b = b} {d = d} (then_step {b = n} k step) = elim (leave k) [ inr w ↦ inr (w.0, w.1, then_step w.2 step) | inl lt ↦ on lt step ]
    where
      on : InProgramOrder b n → OrdersDirectly R n d → InProgramOrder b d
          ⊎ ((m : Place) × IsAhead R b m × TransitiveClosure (OrdersDirectly R) m d)
      on lt (program_order o) = inl (lt.0 ∙ o.0, let x = lt.1 in let y = o.1 in omega arith)
      on lt (synchronizes i l r t e f less w) = inr
          (n, at_source b n i r e (source_no_begin r t w) lt.0 (let x = lt.1 in omega arith), one_step (synchronizes i l r t e f less w))

  -- a commit at b or behind it in its list is ahead of b
  at_commit : (b m : Place) (e : Entry) → At (R m.thread) m.index e → IsCommit e → b.thread ≡ m.thread
      → b.index ≤ m.index → IsAhead R b m
  at_commit b m e there is own within =
      let v = commit_event R m e there is in
      at_source b m v.0 v.1 v.2 (λ g z. let y : Does (Begin g) ≡ Commits v.3.0 = sym z ∙ v.3.1 in cc) own within

  -- what happens before an entry of another thread has such an event ahead, or is one, that does so too
  pub ahead : (b d : Place) → b.thread ≢ d.thread → HappensBefore R b d → (m : Place) × IsAhead R b m × HappensBefore R m d
  ahead b d apart (by_steps k) = elim (leave k) [ inl lt ↦ absurd (apart lt.0) | inr w ↦ (w.0, w.1, by_steps w.2) ]
  ahead b d apart (from_commit i) = (b, at_commit b b i.made i.there i.is_commit refl (omega arith), from_commit i)
  ahead b d apart (through_commit n k i) = elim (leave k) [
    | inl lt ↦ (n, at_commit b n i.made i.there i.is_commit lt.0 (let x = lt.1 in omega arith), from_commit i)
    | inr w ↦ (w.0, w.1, through_commit n w.2 i)
  ]
