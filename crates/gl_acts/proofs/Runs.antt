-- Runs up to a position: a longer one has the shorter ones in it, the record settles its states, and it goes on by one step more.
use Rattle.std.proofs.Common.{◌≡◌, ◌≢◌, ℕ, zero, suc, ◌+◌, ◌<◌, ◌≤◌, List, [], refl, sym, ap, subst, arith, ◌∙◌, Some}
use Rattle.std.specs.Prelude.{ℤ}
use native.Mathlib.Decide.{ℕ_discrete}
use Rattle.gl_model.specs.declared.event.Act.TheVariants.{Fork}
use Rattle.gl_model.specs.declared.event.Event.{Event}
use Rattle.gl_model.specs.declared.event.Stamp.{Stamp}
use Rattle.gl_model.specs.Entries.{Entry, Sync}
use Rattle.gl_model.specs.Form.{value_of}
use Rattle.gl_model.specs.Machine.{Setting, State, Step, start, with_at}
use Rattle.gl_model.specs.Records.{At, EntryAt, event_of, IsEventAt, Lists, Place}
use Rattle.gl_draws.proofs.DrawTies.{with_here, with_else}
use Rattle.gl_acts.specs.Acting.{StepsUpTo}
use Rattle.gl_acts.proofs.Steps.{AreWithin, one_next, within_step}

-- each position below n has an event
abbrev pub HasEvents : Lists → ℕ → Type 0
HasEvents R n = (p : ℕ) → p < n → (c : Place) × ((s : Stamp) × IsEventAt R c p s)

-- a run up to n is one up to each position before
abbrev pub shorter : (setting : Setting) (R : Lists) (m n : ℕ) → m ≤ n → StepsUpTo setting R n → StepsUpTo setting R m
shorter setting R m n le run = record {
  at = run.at;
  first = run.first;
  steps = λ c p s less e. run.steps c p s (omega arith) e;
  lists = λ c p u f value less there. run.lists c p u f value (omega arith) there;
}

-- before any event there is the start
abbrev pub no_steps : (setting : Setting) (R : Lists) → StepsUpTo setting R 0
no_steps setting R = record {
  at = λ _. start setting;
  first = refl;
  steps = λ c p s less e. absurd (omega arith);
  lists = λ c p u f value less there. absurd (omega arith);
}

-- two runs go through the same states
pub settled : (setting : Setting) (R : Lists) (n : ℕ) → HasEvents R n → (a b : StepsUpTo setting R n) (p : ℕ) → p ≤ n → a.at p ≡ b.at p
settled setting R n events a b zero le = a.first ∙ sym b.first
settled setting R n events a b (suc p) le =
    let less : p < n = omega arith in
    let e = events p less in
    let c : Place = e.0 in
    let s : Stamp = e.1.0 in
    let there : IsEventAt R c p s = e.1.1 in
    let same : a.at p ≡ b.at p = settled setting R n events a b p (omega arith) in
    let one : Step setting (b.at p) s (value_of there.entry) (a.at (p + 1)) = subst
    (λ (z : State). Step setting z s (value_of there.entry) (a.at (p + 1))) same (a.steps c p s less there) in
    let next : a.at (p + 1) ≡ b.at (p + 1) = one_next setting (b.at p) (a.at (p + 1)) (b.at (p + 1)) s (value_of there.entry) one
    (b.steps c p s less there) in
    let more : p + 1 ≡ suc p = omega arith in
    subst (λ z. a.at z ≡ b.at z) more next

-- an entry is one event with one value
pub same_entry : (es : List Entry) (i : ℕ) (e f : Entry) → At es i e → At es i f → e ≡ f
same_entry es i e f a b = let z : Some e ≡ Some f = sym a ∙ b in cc

-- equal entries have the same event
same_event : (e f : Entry) (x y : Event) → e ≡ f → event_of e ≡ Some x → event_of f ≡ Some y → x ≡ y
same_event e f x y same a b = let z : Some x ≡ Some y = sym a ∙ ap event_of same ∙ b in cc

-- the place has one entry
pub entry_same : (R : Lists) (c : Place) (p q : ℕ) (s r : Stamp) (a : IsEventAt R c p s) (b : IsEventAt R c q r) → a.entry ≡ b.entry
entry_same R c p q s r a b = same_entry (R c.thread) c.index a.entry b.entry a.there b.there

-- a run goes on by the event at its last position
module _ (setting : Setting) (R : Lists) (n : ℕ) (run : StepsUpTo setting R n) (c : Place) (s : Stamp) (e : IsEventAt R c n s)
    (next : State) where
  abbrev states : ℕ → State
  states = with_at run.at (n + 1) next

  -- up to position n the states of the longer run are those of the run
  before : (p : ℕ) → p ≤ n → states p ≡ run.at p
  before p le = with_else run.at (n + 1) p next (λ same. absurd (omega arith))

  -- as a step of the longer run
  abbrev IsStepOf : ℕ → Stamp → ℤ → Type 0
  IsStepOf p r value = Step setting (states p) r value (states (p + 1))

  -- each event below position n is a step of the longer run
  old_step : (d : Place) (p : ℕ) (r : Stamp) → p < n → (f : IsEventAt R d p r) → IsStepOf p r (value_of f.entry)
  old_step d p r less f =
      subst (λ (z : State). Step setting z r (value_of f.entry) (states (p + 1))) (sym (before p (omega arith)))
      (subst (λ (z : State). Step setting (run.at p) r (value_of f.entry) z) (sym (before (p + 1) (omega arith))) (run.steps d p r less f))

  -- if the event at position n steps from the run's state there to the next one, it is a step of the longer run
  last_step : Step setting (run.at n) s (value_of e.entry) next → IsStepOf n s (value_of e.entry)
  last_step step =
      subst (λ (z : State). Step setting z s (value_of e.entry) (states (n + 1))) (sym (before n (omega arith)))
      (subst (λ (z : State). Step setting (run.at n) s (value_of e.entry) z) (sym (with_here run.at (n + 1) next)) step)

  -- it is the only event there
  same_step : (d : Place) (r : Stamp) (f : IsEventAt R d n r) → d ≡ c → IsStepOf n s (value_of e.entry) → IsStepOf n r (value_of f.entry)
  same_step d r f at step =
      let there : EntryAt R c f.entry = subst (λ (z : Place). EntryAt R z f.entry) at f.there in
      let entry : e.entry ≡ f.entry = same_entry (R c.thread) c.index e.entry f.entry e.there there in
      let thread : s.thread ≡ r.thread = e.own ∙ sym (f.own ∙ ap (λ (z : Place). z.thread) at) in
      let event : s.event ≡ r.event = same_event e.entry f.entry s.event r.event entry e.event f.event in
      let stamp : s ≡ r = λ i. record { thread = thread i; event = event i } in
      subst (λ (z : Stamp). IsStepOf n z (value_of f.entry)) stamp (subst (λ (z : Entry). IsStepOf n s (value_of z)) entry step)

  -- where no other place has an event at n, this one is a step from there, and a thread that it forks has a list, the run goes up to n + 1
  pub longer : ((d : Place) (r : Stamp) → IsEventAt R d n r → d ≡ c) → Step setting (run.at n) s (value_of e.entry) next
      → ((u f : ℕ) (value : ℤ) → e.entry ≡ Sync n (Fork u f) value → R u ≢ []) → StepsUpTo setting R (n + 1)
  longer only step lists = record {
    at = states;
    first = before 0 (omega arith) ∙ run.first;
    steps = λ d p r less f. elim (ℕ_discrete p n) [
      | yes same ↦ at_last d p r f same
      | no ne ↦ old_step d p r (omega (arith, ne)) f
    ];
    lists = λ d p u f value less there. elim (ℕ_discrete p n) [
      | yes same ↦ forked d p u f value there same
      | no ne ↦ run.lists d p u f value (omega (arith, ne)) there
    ];
  }
    where
      at_last : (d : Place) (p : ℕ) (r : Stamp) (f : IsEventAt R d p r) → p ≡ n → IsStepOf p r (value_of f.entry)
      at_last d p r f same =
          let here : IsEventAt R d n r = record {
            entry = f.entry;
            there = f.there;
            position = f.position ∙ ap Some same;
            event = f.event;
            own = f.own;
          } in
          subst (λ z. IsStepOf z r (value_of f.entry)) (sym same) (same_step d r here (only d r here) (last_step step))

      forked : (d : Place) (p u f : ℕ) (value : ℤ) → EntryAt R d (Sync p (Fork u f) value) → p ≡ n → R u ≢ []
      forked d p u f value there same =
          let entry : Entry = Sync n (Fork u f) value in
          let in_list : EntryAt R d entry = subst (λ z. EntryAt R d (Sync z (Fork u f) value)) same there in
          let r : Stamp = record { thread = d.thread; event = Rattle.gl_model.specs.declared.event.Event.TheVariants.Act (Fork u f) } in
          let here : IsEventAt R d n r = record { entry = entry; there = in_list; position = refl; event = refl; own = refl } in
          let at : d ≡ c = only d r here in
          let at_c : EntryAt R c entry = subst (λ (z : Place). EntryAt R z entry) at in_list in
          lists u f value (same_entry (R c.thread) c.index e.entry entry e.there at_c)

  pub longer_at : (only : (d : Place) (r : Stamp) → IsEventAt R d n r → d ≡ c) (step : Step setting (run.at n) s (value_of e.entry) next)
      (lists : (u f : ℕ) (value : ℤ) → e.entry ≡ Sync n (Fork u f) value → R u ≢ []) → (longer only step lists).at (n + 1) ≡ next
  unfolding longer
  longer_at only step lists = with_here run.at (n + 1) next

-- within so many steps no monitor is entered more often
pub within_run : (setting : Setting) (R : Lists) (n : ℕ) → HasEvents R n → (run : StepsUpTo setting R n) (p : ℕ) → p ≤ n
    → AreWithin p (run.at p)
within_run setting R n events run zero le = subst (λ (z : State). AreWithin 0 z) (sym run.first) (λ o t d owned. absurd (cc))
within_run setting R n events run (suc p) le =
    let less : p < n = omega arith in
    let e = events p less in
    let there : IsEventAt R e.0 p e.1.0 = e.1.1 in
    let more : p + 1 ≡ suc p = omega arith in
    let next : AreWithin (p + 1) (run.at (p + 1)) = within_step p (run.at p) (run.at (p + 1))
    (within_run setting R n events run p (omega arith)) setting e.1.0 (value_of there.entry) (run.steps e.0 p e.1.0 less there) in
    subst (λ z. AreWithin z (run.at z)) more next
