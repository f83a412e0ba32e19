-- The record is walked by the places of its events: how far the walk has come, and what the next event tells.
use Rattle.std.proofs.Common.{◌≡◌, ◌≢◌, ℕ, zero, suc, ◌+◌, ◌<◌, ◌≤◌, ◌^◌, Bool, true, false, List, [], ◌∷◌, length, refl, sym, ap, subst, arith, ◌∙◌, Some, inl, inr, map}
use Rattle.std.specs.Prelude.{ℤ, ◌⊎◌, slice_get, slice_index_or}
use Rattle.gl_model.specs.declared.event.Act.TheVariants.{Fork}
use Rattle.gl_model.specs.declared.event.Stamp.{Stamp}
use Rattle.gl_model.specs.Entries.{Entry, Sync}
use Rattle.gl_model.specs.Form.{Form, Listed, value_of}
use Rattle.gl_model.specs.Machine.{Setting, State, start}
use Rattle.gl_model.specs.Records.{EntryAt, event_of, IsEventAt, Lists, Place, position_of}
use Rattle.gl_places.specs.declared.place.Place.{Place as StoredPlace}
use Rattle.gl_places.specs.Places.{AreEventPlaces, seen}
use Rattle.gl_state.specs.ListView.{ListView}
use Rattle.gl_state.specs.States.{IsStateOf, monitor_state}
use Rattle.gl_acts.specs.Acting.{ActFailsFirst, RunsMachine, StepsUpTo}
use Rattle.gl_acts.specs.Applying.{Applies, AreShallow}
use Rattle.gl_acts.specs.Making.{GoesOn, HasForked, Makes, Stops}
use Rattle.gl_acts.proofs.Firsts.{some_below, whole}
use Rattle.gl_acts.proofs.Runs.{HasEvents, longer, longer_at, no_steps, same_entry, settled, shorter, within_run}

-- the events below position k are steps, and l is the state that they lead to
pub record IsFar (setting : Setting) (R : Lists) (k : ℕ) (l : ListView) : Type 0 where
  pub run : StepsUpTo setting R k
  pub is : IsStateOf l (run.at k)

-- at one place of the walk stands one place of the record
place_one : (cs : List Place) (k : ℕ) (c d : Place) → slice_get cs k ≡ Some c → slice_get cs k ≡ Some d → d ≡ c
place_one cs k c d a b = let z : Some d ≡ Some c = sym b ∙ a in cc

-- a fork with a position has that position as its own
fork_at : (e : Entry) (at p u f : ℕ) (value : ℤ) → e ≡ Sync at (Fork u f) value → position_of e ≡ Some p → e ≡ Sync p (Fork u f) value
fork_at e at p u f value is position =
    let told : Some at ≡ Some p = sym (ap position_of is) ∙ position in
    let same : at ≡ p = cc in
    is ∙ ap (λ n. Sync n (Fork u f) value) same

module _ (setting : Setting) (R : Lists) (cs : List Place) (places : AreEventPlaces R cs) where
  -- each position below has an event
  walk_events : (k : ℕ) → k ≤ length cs → HasEvents R k
  walk_events k le p less = let c = some_below cs p (omega arith) in (c.0, (places p c.0).0 c.1)

  -- the next event is a step
  pub goes_on : (k : ℕ) (c : Place) (l l' : ListView) → slice_get cs k ≡ Some c → IsFar setting R k l → GoesOn setting R c l l'
      → IsFar setting R (k + 1) l'
  goes_on k c l l' here far goes =
      let e = (places k c).0 here in
      let s : Stamp = e.0 in
      let there : IsEventAt R c k s = e.1 in
      let next = (goes k s there).1 (far.run.at k) far.is in
      let only : (d : Place) (r : Stamp) → IsEventAt R d k r → d ≡ c = λ d r f. place_one cs k c d here ((places k d).1 (r, f)) in
      let lists : (u f : ℕ) (value : ℤ) → there.entry ≡ Sync k (Fork u f) value → R u ≢ [] = λ u f value is. (goes k s there).0 k u f value
      is in
      record {
        run = longer setting R k far.run c s there next.0 only next.1 lists;
        is = subst (λ (z : State). IsStateOf l' z) (sym (longer_at setting R k far.run c s there next.0 only next.1 lists)) next.2;
      }

  -- the next event is none, or forks a thread that has no list
  pub stops : (k : ℕ) (c : Place) (l : ListView) → k ≤ length cs → slice_get cs k ≡ Some c → IsFar setting R k l → Stops setting R c l
      → ActFailsFirst setting R c
  stops k c l le here far stopped =
      let e = (places k c).0 here in
      let s : Stamp = e.0 in
      let there : IsEventAt R c k s = e.1 in
      inl (k, record { before = far.run; event = s; there = there; wrong = λ more. wrong s there more (stopped k s there) })
    where
      wrong : (s : Stamp) (there : IsEventAt R c k s) → StepsUpTo setting R (k + 1)
          → (HasForked R there.entry → ⊥) ⊎ Rattle.gl_acts.specs.Applying.IsNoStepFrom setting s (value_of there.entry) l → ⊥
      wrong s there more (inl none) = none (λ at u f value is. more.lists c k u f value (omega arith)
          (subst (λ (z : Entry). EntryAt R c z) (fork_at there.entry at k u f value is there.position) there.there))
      wrong s there more (inr none) =
          let same : far.run.at k ≡ more.at k = settled setting R k (walk_events k le) far.run
          (shorter setting R k (k + 1) (omega arith) more) k (omega arith) in
          none (more.at k) (more.at (k + 1)) (subst (λ (z : State). IsStateOf l z) same far.is) (more.steps c k s (omega arith) there)

  -- no monitor was entered more often than there were events
  pub are_shallow : (k : ℕ) (l : ListView) → k ≤ length cs → length cs < 2 ^ 62 → IsFar setting R k l → AreShallow l
  are_shallow k l le few far o near = record {
    few = λ m owned.
        let low : m.1 ≤ k = within_run setting R k (walk_events k le) far.run k (omega arith) o m.0 m.1
        (far.is.monitors o ∙ ap monitor_state owned) in
        omega arith;
  }

  -- all events are steps
  pub walked : (l : ListView) → Form R → Listed R → IsFar setting R (length cs) l → RunsMachine setting R
  walked l form listed far = whole setting R cs form listed places far.run

-- before any event
pub at_start : (setting : Setting) (R : Lists) (l : ListView) → IsStateOf l (start setting) → IsFar setting R 0 l
at_start setting R l is = record { run = no_steps setting R; is = is }

-- the entry at the place tells what the place tells
module _ (setting : Setting) (R : Lists) (c : Place) (l l' : ListView) (e : Entry) (there : EntryAt R c e) where
  -- where a thread that the entry forks has a list, an answer that tells whether its event is a step tells whether the record goes on there
  pub makes : (b : Bool) → HasForked R e
      → ((s : Stamp) → s.thread ≡ c.thread → event_of e ≡ Some s.event → Applies setting s (value_of e) l l' b) → Makes setting R c l l' b
  makes true forked applies = λ p s x.
      let same : e ≡ x.entry = same_entry (R c.thread) c.index e x.entry there x.there in (
        subst (λ (z : Entry). HasForked R z) same forked,
        subst (λ (z : Entry). Rattle.gl_acts.specs.Applying.IsStepFrom setting s
            (value_of z) l l') same (applies s x.own (ap event_of same ∙ x.event)),
      )
  makes false forked applies = λ p s x.
      let same : e ≡ x.entry = same_entry (R c.thread) c.index e x.entry there x.there in
      inr (subst (λ (z : Entry). Rattle.gl_acts.specs.Applying.IsNoStepFrom setting s (value_of z) l) same
      (applies s x.own (ap event_of same ∙ x.event)).0)

  -- where the entry forks a thread that has no list, the record stops there
  pub forks_none : (HasForked R e → ⊥) → Stops setting R c l
  forks_none none p s x =
      let same : e ≡ x.entry = same_entry (R c.thread) c.index e x.entry there x.there in
      inl (λ forked. none (subst (λ (z : Entry). HasForked R z) (sym same) forked))

-- where there is no entry there is no event
pub no_entry : (setting : Setting) (R : Lists) (c : Place) (l : ListView) → ((e : Entry) → EntryAt R c e → ⊥) → Stops setting R c l
no_entry setting R c l none p s x = absurd (none x.entry x.there)

-- where the places of the program stand, as definitions see them
pub seen_at : (xs : List StoredPlace) (k : ℕ) (d : StoredPlace) → k < length xs
    → slice_get (map seen xs) k ≡ Some (seen (slice_index_or xs k d))
seen_at [] k d less = absurd (omega arith)
seen_at (x ∷ xs) zero d less = refl
seen_at (x ∷ xs) (suc k) d less = seen_at xs k d (omega arith)
