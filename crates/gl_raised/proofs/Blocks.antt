-- Each access of a well-formed record has a block, whose event is not the end of its thread.
use Rattle.std.proofs.Common.{◌≡◌, ◌≢◌, ℕ, zero, suc, ◌+◌, ◌<◌, List, take, refl, ap, ◌∙◌, subst, inl, inr, arith, Some, None}
use Rattle.std.specs.Prelude.{◌⊎◌, Option}
use Rattle.std.proofs.lemmas.Option.{slice_get_within, slice_get_cases}
use Rattle.std.proofs.Math.Nat.{eq-or-lt_of_le}
use Rattle.gl_model.specs.declared.event.Act.TheVariants.{Begin, End}
use Rattle.gl_model.specs.declared.event.Event.TheVariants.{Act as Does}
use Rattle.gl_model.specs.Entries.{Entry, Sync, Commit, Plain, Abort, Trim, Over}
use Rattle.gl_model.specs.Form.{At, Form, ListForm, IsTrim, IsBegin, IsEnd, IsOver}
use Rattle.gl_model.specs.Records.{Lists, Place, EntryAt, IsBlockOf, position_of, event_of}
use Rattle.gl_draws.specs.Ties.{last_position, BlockAt}
use Rattle.gl_raised.specs.Accesses.{IsAccess}
use Rattle.gl_draws.proofs.DrawPlaces.{no_event}

-- an entry is a trim or none
pub trim_or_none : (e : Entry) → IsTrim e ⊎ (IsTrim e → ⊥)
trim_or_none (Sync at act value) = inr (λ t. t)
trim_or_none (Commit at tx) = inr (λ t. t)
trim_or_none (Plain var nth cached write value raised) = inr (λ t. t)
trim_or_none (Abort tx why) = inr (λ t. t)
trim_or_none (Trim low) = inl tt
trim_or_none (Over ending) = inr (λ t. t)

-- a begin has a position
begin_event : (e : Entry) → IsBegin e → (p : ℕ) × (position_of e ≡ Some p)
begin_event (Sync at (Begin f) value) b = (at, refl)
begin_event (Sync at End value) b = absurd b
begin_event (Sync at act value) b = (at, refl)
begin_event (Commit at tx) b = absurd b
begin_event (Plain var nth cached write value raised) b = absurd b
begin_event (Abort tx why) b = absurd b
begin_event (Trim low) b = absurd b
begin_event (Over ending) b = absurd b

-- an access is no trim
access_no_trim : (e : Entry) → IsAccess e → IsTrim e → ⊥
access_no_trim (Trim low) a t = a
access_no_trim (Sync at act value) a t = t
access_no_trim (Commit at tx) a t = t
access_no_trim (Plain var nth cached write value raised) a t = t
access_no_trim (Abort tx why) a t = t
access_no_trim (Over ending) a t = t

-- where the first entries have no event they are trims
pub all_trims : (t : ℕ) (es : List Entry) → ListForm t es → (n : ℕ) → last_position (take n es) ≡ None → (k j : ℕ) (f : Entry) → j < k → j < n
    → At es j f → IsTrim f
all_trims t es form n none zero j f near within a = absurd (omega arith)
all_trims t es form n none (suc k) j f near within a = elim (trim_or_none f) [
  | inl trim ↦ trim
  | inr other ↦
      (let b = form.begins j f a other (λ i g b l. all_trims t es form n none k i g (omega arith) (omega arith) b) in
      let p = begin_event f b in absurd (no_event es n none j p.0 f a within p.1))
]

-- in a well-formed record each access stands in a block of its thread
pub has_block : (R : Lists) → Form R → (c : Place) (e : Entry) → EntryAt R c e → IsAccess e → (q : ℕ) × BlockAt (R c.thread) c.index q
has_block R form c e here is = from (last_position (take (suc c.index) (R c.thread))) refl
  where
    from : (o : Option ℕ) → last_position (take (suc c.index) (R c.thread)) ≡ o → (q : ℕ) × BlockAt (R c.thread) c.index q
    from (Some q) eq = (q, eq)
    from None eq = absurd (access_no_trim e is
        (all_trims c.thread (R c.thread) (form.formed c.thread) (suc c.index) eq (suc c.index) c.index e (omega arith) (omega arith) here))

-- an entry whose event is an end is one
pub end_entry : (e : Entry) → event_of e ≡ Some (Does End) → IsEnd e
end_entry (Sync at End value) i = tt
end_entry (Sync at (Begin f) value) i = absurd (cc)
end_entry (Sync at act value) i = let z : act ≡ End = cc in absurd (cc)
end_entry (Commit at tx) i = absurd (cc)
end_entry _ i = absurd (cc)

-- an access is not an end
access_no_end : (e : Entry) → IsAccess e → IsEnd e → ⊥
access_no_end (Sync at act value) a i = a
access_no_end (Commit at tx) a i = i
access_no_end (Plain var nth cached write value raised) a i = i
access_no_end (Abort tx why) a i = i
access_no_end (Trim low) a i = i
access_no_end (Over ending) a i = i

-- an access does not end the list
access_no_over : (e : Entry) → IsAccess e → IsOver e → ⊥
access_no_over (Sync at act value) a i = a
access_no_over (Commit at tx) a i = i
access_no_over (Plain var nth cached write value raised) a i = i
access_no_over (Abort tx why) a i = i
access_no_over (Trim low) a i = i
access_no_over (Over ending) a i = a

-- the event of an access's block is not an end
pub goes_on : (R : Lists) → Form R → (c : Place) (e : Entry) → EntryAt R c e → IsAccess e → (q : ℕ) → (b : IsBlockOf R c q)
    → b.event.event ≢ Does End
goes_on R form c e here is q b ends = elim (eq-or-lt_of_le b.within) [
  | inl same ↦ access_no_end e is (subst IsEnd (let x : At (R c.thread) c.index b.made.entry = rw same at b.made.there in cc) last)
  | inr lt ↦ elim (slice_get_cases (R c.thread) (b.index + 1)).1 [
    | inr none ↦ absurd (let n = slice_get_within (R c.thread) c.index e here in let m = none.0 in omega arith)
    | inl some ↦
        (let over = (f.over_after_end b.index b.made.entry some.0 b.made.there some.2).0 last in
        let long = f.nothing_after (b.index + 1) some.0 some.2 over in
        let n = slice_get_within (R c.thread) c.index e here in
        let at : c.index ≡ b.index + 1 = omega arith in
        access_no_over e is (subst IsOver (let x : At (R c.thread) (b.index + 1) e = rw at at here in cc) over))
  ]
]
  where
    f : ListForm c.thread (R c.thread)
    f = form.formed c.thread

    last : IsEnd b.made.entry
    last = end_entry b.made.entry (b.made.event ∙ ap Some ends)
