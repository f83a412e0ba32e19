-- After the last event of a well-formed record no thread is live, since each list ends with its thread's End.
use Rattle.std.proofs.Common.{◌≡◌, ◌≢◌, ℕ, zero, suc, ◌+◌, ◌-◌, ◌<◌, ◌≤◌, List, [], ◌∷◌, refl, sym, ap, subst, arith, ◌∙◌, Some, inl, inr}
use Rattle.std.specs.Prelude.{ℤ, ◌⊎◌}
use Rattle.gl_model.specs.declared.event.Act.{Act}
use Rattle.gl_model.specs.declared.event.Act.TheVariants.{Begin, End, Acq, Rel, VRead, VWrite, Fork, Join, Alloc, Print, Input, Fail}
use Rattle.gl_model.specs.declared.event.Event.TheVariants.{Act as Does}
use Rattle.gl_model.specs.declared.event.Stamp.{Stamp}
use Rattle.gl_model.specs.Entries.{Entry, Sync, Commit, Plain, Abort, Trim, Over}
use Rattle.gl_model.specs.Form.{Form, IsBegin, IsEnd, IsOver, IsTrim, ListForm, value_of}
use Rattle.gl_model.specs.Machine.{Setting, State, ThreadState, NeverForked, Forked, Running, Ended}
use Rattle.gl_model.specs.Records.{At, EntryAt, event_of, IsEventAt, Lists, Place, position_of}
use Rattle.gl_draws.proofs.DrawTies.{with_else}
use native.Mathlib.Decide.{ℕ_discrete}
use Rattle.gl_acts.specs.Acting.{IsLive, StepsUpTo}
use Rattle.gl_acts.proofs.Steps.{Becomes, becomes, stays, steps, is_forked, stays_ended, ends}
use Rattle.gl_acts.proofs.Runs.{HasEvents}

-- all events are below n
abbrev pub AreAllBelow : Lists → ℕ → Type 0
AreAllBelow R n = (c : Place) (p : ℕ) (s : Stamp) → IsEventAt R c p s → p < n

-- an entry with a position whose event is an act is that act's entry at the position
act_entry : (e : Entry) (p : ℕ) (act : Act) → position_of e ≡ Some p → event_of e ≡ Some (Does act) → (value : ℤ) × (e ≡ Sync p act value)
act_entry (Sync at a value) p act position event = let x : at ≡ p = cc in let y : a ≡ act = cc in (value, λ i. Sync (x i) (y i) value)
act_entry (Commit at tx) p act position event = absurd (cc)
act_entry (Plain var nth cached write value raised) p act position event = absurd (cc)
act_entry (Abort tx why) p act position event = absurd (cc)
act_entry (Trim low) p act position event = absurd (cc)
act_entry (Over ending) p act position event = absurd (cc)

-- whether a thread was never forked
is_new : (x : ThreadState) → (x ≡ NeverForked) ⊎ (x ≢ NeverForked)
is_new NeverForked = inl refl
is_new (Forked f v) = inr (λ e. cc)
is_new Running = inr (λ e. cc)
is_new Ended = inr (λ e. cc)

module _ (setting : Setting) (R : Lists) (n : ℕ) (events : HasEvents R n) (run : StepsUpTo setting R n) where
  -- each thread that was forked has a list
  pub has_list : R 0 ≢ [] → (p : ℕ) → p ≤ n → (t : ℕ) → (run.at p).threads t ≢ NeverForked → R t ≢ []
  has_list main zero le t forked = elim (ℕ_discrete t 0) [
    | yes e ↦ subst (λ z. R z ≢ []) (sym e) main
    | no ne ↦ absurd (forked (ap (λ (s : State). s.threads t) run.first ∙ with_else (λ _. NeverForked) 0 t
        (Forked setting.main (Rattle.std.specs.Prelude.pos 0)) ne))
  ]
  has_list main (suc p) le t forked =
      let less : p < n = omega arith in
      let e = events p less in
      let there : IsEventAt R e.0 p e.1.0 = e.1.1 in
      let more : suc p ≡ p + 1 = omega arith in
      let now : (run.at (p + 1)).threads t ≢ NeverForked = subst (λ z. (run.at z).threads t ≢ NeverForked) more forked in
      by_case e.0 e.1.0 there less now (becomes setting (run.at p) (run.at (p + 1)) e.1.0 t (value_of there.entry)
      (run.steps e.0 p e.1.0 less there)) (has_list main p (omega arith) t)
    where
      by_case : (c : Place) (s : Stamp) (there : IsEventAt R c p s) → p < n → (run.at (p + 1)).threads t ≢ NeverForked
          → Becomes (run.at p) (run.at (p + 1)) s t
          → ((run.at p).threads t ≢ NeverForked → R t ≢ []) → R t ≢ []
      by_case c s there less now (stays same) before = before (λ e. now (same ∙ e))
      by_case c s there less now (steps own not_new not_over) before = before not_new
      by_case c s there less now (is_forked f event never) before =
          let entry = act_entry there.entry p (Fork t f) there.position (there.event ∙ ap Some event) in
          run.lists c p t f entry.0 less (subst (λ (z : Entry). EntryAt R c z) entry.1 there.there)

  -- a thread that has ended stays so
  pub ended_on : (t p d : ℕ) → p + d ≤ n → (run.at p).threads t ≡ Ended → (run.at (p + d)).threads t ≡ Ended
  ended_on t p zero le ended = let e : p + 0 ≡ p = omega arith in subst (λ z. (run.at z).threads t ≡ Ended) (sym e) ended
  ended_on t p (suc d) le ended =
      let q : ℕ = p + d in
      let less : p + d < n = omega arith in
      let e = events (p + d) less in
      let there : IsEventAt R e.0 (p + d) e.1.0 = e.1.1 in
      let more : (p + d) + 1 ≡ p + suc d = omega arith in
      subst (λ z. (run.at z).threads t ≡ Ended) more
      (stays_ended setting (run.at (p + d)) (run.at (p + d + 1)) e.1.0 t (value_of there.entry) (run.steps e.0 (p + d) e.1.0 less there)
      (ended_on t p d (omega arith) ended))

-- an entry that is not the first of its list has one before it
at_before : (es : List Entry) (i : ℕ) (e : Entry) → At es (suc i) e → (f : Entry) × At es i f
at_before [] i e there = absurd (cc)
at_before (x ∷ es) zero e there = (x, refl)
at_before (x ∷ es) (suc i) e there = at_before es i e there

-- an entry that ends the list is not a trim
over_no_trim : (e : Entry) → IsOver e → IsTrim e → ⊥
over_no_trim (Over ending) over trim = trim
over_no_trim (Trim low) over trim = over
over_no_trim (Sync at act value) over trim = trim
over_no_trim (Commit at tx) over trim = trim
over_no_trim (Plain var nth cached write value raised) over trim = trim
over_no_trim (Abort tx why) over trim = trim

-- an entry that ends the list is not a begin
over_no_begin : (e : Entry) → IsOver e → IsBegin e → ⊥
over_no_begin (Over ending) over begins = begins
over_no_begin (Trim low) over begins = over
over_no_begin (Sync at act value) over begins = over
over_no_begin (Commit at tx) over begins = over
over_no_begin (Plain var nth cached write value raised) over begins = over
over_no_begin (Abort tx why) over begins = over

-- the entry of an end is an act with a position and a value
end_entry : (e : Entry) → IsEnd e → (p : ℕ) × ((value : ℤ) × (e ≡ Sync p End value))
end_entry (Sync at End value) is = (at, (value, refl))
end_entry (Sync at (Begin f) value) is = absurd is
end_entry (Sync at (Acq o) value) is = absurd is
end_entry (Sync at (Rel o) value) is = absurd is
end_entry (Sync at (VRead v) value) is = absurd is
end_entry (Sync at (VWrite v) value) is = absurd is
end_entry (Sync at (Fork u f) value) is = absurd is
end_entry (Sync at (Join u) value) is = absurd is
end_entry (Sync at (Alloc c) value) is = absurd is
end_entry (Sync at Print value) is = absurd is
end_entry (Sync at Input value) is = absurd is
end_entry (Sync at (Fail k) value) is = absurd is
end_entry (Over ending) is = absurd is
end_entry (Trim low) is = absurd is
end_entry (Commit at tx) is = absurd is
end_entry (Plain var nth cached write value raised) is = absurd is
end_entry (Abort tx why) is = absurd is

-- a list that is there has its thread's End
pub has_end : (R : Lists) (t : ℕ) → Form R → R t ≢ []
    → (i : ℕ) × ((p : ℕ) × IsEventAt R (record { thread = t; index = i }) p (record { thread = t; event = Does End }))
has_end R t form some = let over = form.ends t some in by_place over.0 over.1.0 over.1.1 over.1.2
  where
    formed : ListForm t (R t)
    formed = form.formed t

    by_place : (i : ℕ) (e : Entry) → At (R t) i e → IsOver e
        → (i : ℕ) × ((p : ℕ) × IsEventAt R (record { thread = t; index = i }) p (record { thread = t; event = Does End }))
    by_place zero e there over = absurd (over_no_begin e over (formed.begins zero e there (over_no_trim e over)
        (λ j f at less. absurd (omega arith))))
    by_place (suc i) e there over =
        let before = at_before (R t) i e there in
        let more : suc i ≡ i + 1 = omega arith in
        let is_end : IsEnd before.0 = (formed.over_after_end i before.0 e before.1 (subst (λ z. At (R t) z e) more there)).1 over in
        let known = end_entry before.0 is_end in
        let entry : Entry = Sync known.0 End known.1.0 in (
          i,
          (
            known.0,
            record {
              entry = entry;
              there = subst (λ (z : Entry). At (R t) i z) known.1.1 before.1;
              position = refl;
              event = refl;
              own = refl;
            },
          ),
        )

-- after the last event each thread that was forked has ended
pub all_ended : (setting : Setting) (R : Lists) (n : ℕ) → HasEvents R n → AreAllBelow R n → Form R → (run : StepsUpTo setting R n) (t : ℕ)
    → ((run.at n).threads t ≡ NeverForked) ⊎ ((run.at n).threads t ≡ Ended)
all_ended setting R n events all form run t = by (is_new ((run.at n).threads t))
  where
    over : R t ≢ [] → (run.at n).threads t ≡ Ended
    over some =
        let e = has_end R t form some in
        let c : Place = record { thread = t; index = e.0 } in
        let s : Stamp = record { thread = t; event = Does End } in
        let p : ℕ = e.1.0 in
        let there : IsEventAt R c p s = e.1.1 in
        let less : p < n = all c p s there in
        let here : (run.at (p + 1)).threads t ≡ Ended = ends setting (run.at p) (run.at (p + 1)) t (value_of there.entry)
        (run.steps c p s less there) in
        let far : (p + 1) + (n - (p + 1)) ≡ n = omega arith in
        subst (λ z. (run.at z).threads t ≡ Ended) far (ended_on setting R n events run t (p + 1) (n - (p + 1)) (omega arith) here)

    by : ((run.at n).threads t ≡ NeverForked) ⊎ ((run.at n).threads t ≢ NeverForked)
        → ((run.at n).threads t ≡ NeverForked) ⊎ ((run.at n).threads t ≡ Ended)
    by (inl new) = inl new
    by (inr forked) = inr (over (has_list setting R n events run form.main n (omega arith) t forked))

-- so none is live
pub none_live : (setting : Setting) (R : Lists) (n : ℕ) → HasEvents R n → AreAllBelow R n → Form R → (run : StepsUpTo setting R n) (t : ℕ)
    → IsLive (run.at n) t → ⊥
none_live setting R n events all form run t live = by (all_ended setting R n events all form run t)
  where
    by : ((run.at n).threads t ≡ NeverForked) ⊎ ((run.at n).threads t ≡ Ended) → ⊥
    by (inl new) = live.0 new
    by (inr ended) = live.1 ended
