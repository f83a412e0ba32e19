-- The record, the list of events and the draws of a trace, when a thread makes an event.
use Rattle.std.proofs.Common.{◌≡◌, ◌≢◌, ℕ, ◌+◌, ◌<◌, ◌==◌, List, [], ◌∷◌, ◌++◌, length, refl, ap, subst, sym, ◌∙◌, inl, inr, Some, true, false, eq-eqb, ne_eqb, length-append}
use Rattle.std.specs.Prelude.{pos}
use Rattle.std.proofs.lemmas.Option.{slice_get_within}
use native.Mathlib.Decide.{ℕ_discrete}
use Rattle.gl_model.specs.declared.event.Act.{Act}
use Rattle.gl_model.specs.declared.event.Act.TheVariants.{End}
use Rattle.gl_model.specs.declared.event.Event.TheVariants.{Act as Does}
use Rattle.gl_model.specs.declared.event.Stamp.{Stamp}
use Rattle.gl_model.specs.Edges.{EventAt}
use Rattle.gl_model.specs.Entries.{Entry, Sync}
use Rattle.gl_model.specs.Form.{At, Draws, EntryForm, value_of}
use Rattle.gl_model.specs.Machine.{Setting, State, Step, Allows, Running, start, trace_setting}
use Rattle.gl_model.specs.Records.{Lists, Place, EntryAt, position_of}
use Rattle.gl_model.specs.Trace.{with_entry}
use Rattle.gl_draws.specs.Draws.{Draw, Among, EachDraw, word_of}
use Rattle.gl_draws.specs.Events.{AreEvents}
use Rattle.gl_draws.specs.Ties.{last_position, AreDrawn, IsRepeat}
use Rattle.gl_lines.specs.Traced.{Traced, with_event, with_last}
use Rattle.gl_draws.specs.Verdicts.{IsBehind, IsCommitWhat, IsNamed, IsRight, IsPlaced, DrawHolds}
use Rattle.gl_draws.proofs.Runs.{allows_push}
use Rattle.gl_draws.proofs.DrawTies.{drawn_push}
use Rattle.gl_draws.proofs.EventTies.{new_event, events_own, events_other, last_own}
use Rattle.gl_draws.proofs.Pushes.{at_cases, last_push}
use Rattle.gl_draws.proofs.Reaching.{event_back}
use Rattle.gl_draws.proofs.VerdictGrowth.{placed_grows, each_map}

-- what holds of a draw whatever was said of it
pub record DrawFits (h : List Stamp) (x : ℕ) (d : Draw) (ds : List Draw) : Type 0 where
  pub placed : IsPlaced h d
  pub rises : (a : Draw) → Among ds a → a.thread ≡ d.thread → IsBehind a.block d.block d.what
  pub agrees : (a : Draw) → Among ds a → IsCommitWhat a.what → IsCommitWhat d.what → a.block < d.block
  pub named : IsNamed x (length ds) d.what

-- with what was said of it
pub fits_holds : (h : List Stamp) (x : ℕ) (d : Draw) (ds : List Draw) → DrawFits h x d ds → IsRight h x ds d.thread d.block d.what
    → DrawHolds h x d ds
fits_holds h x d ds f r = record { placed = f.placed; rises = f.rises; agrees = f.agrees; named = f.named; right = r }

-- what holds of each draw, whatever was said of it, holds with more events
pub fits_grow : (h more : List Stamp) (x : ℕ) (ds : List Draw) → EachDraw (DrawFits h x) ds → EachDraw (DrawFits (h ++ more) x) ds
fits_grow h more x ds all = each_map (DrawFits h x) (DrawFits (h ++ more) x)
    (λ d es f. record { placed = placed_grows h more d f.placed; rises = f.rises; agrees = f.agrees; named = f.named }) ds all

-- thread t has a last event, which is no End
pub record IsGoing (h : List Stamp) (t : ℕ) (es : List Entry) : Type 0 where
  pub position : ℕ
  pub last : last_position es ≡ Some position
  pub goes_on : (s : Stamp) → EventAt h position s → s.event ≢ Does End

-- a run of the machine in which each value is 0
abbrev pub RunsZero : Setting → State → List Stamp → State → Type 0
RunsZero setting old [] new = new ≡ old
RunsZero setting old (s ∷ rest) new = (mid : State) × Step setting old s (pos 0) mid × RunsZero setting mid rest new

-- a run with values 0 and one step more with value 0 is such a run
pub zero_push : (setting : Setting) (old mid new : State) (l : List Stamp) (s : Stamp) → Step setting mid s (pos 0) new
    → RunsZero setting old l mid → RunsZero setting old (l ++ s ∷ []) new
zero_push setting old mid new [] s step r = (new, subst (λ k. Step setting k s (pos 0) new) r step, refl)
zero_push setting old mid new (x ∷ l) s step r = (r.0, r.1, zero_push setting r.0 mid new l s step r.2)

-- the record, the list of events and the draws belong together, and the machine allows the events
pub record IsRecorded (s : Traced) (now : State) : Type 0 where
  pub allowed : Allows trace_setting s.history now
  pub next : s.tracing.next ≡ length s.history
  pub numbers : (x : ℕ) → s.tracing.numbers x ≡ length (s.draws x)
  pub events : (t : ℕ) → AreEvents s.history t (s.tracing.lists t)
  pub drawn : (t : ℕ) → AreDrawn s.draws t (s.tracing.lists t) []
  pub going : (t : ℕ) → now.threads t ≡ Running → IsGoing s.history t (s.tracing.lists t)
  pub fit : (x : ℕ) → EachDraw (DrawFits s.history x) (s.draws x)
  pub alone : (c : Place) (e : Entry) → EntryAt s.tracing.lists c e → IsRepeat e → ⊥
  pub formed : (c : Place) (e : Entry) → EntryAt s.tracing.lists c e → EntryForm c.thread e
  pub words : (x : ℕ) → word_of x (s.draws x) ≡ pos 0
  -- all values are 0
  pub zeros : (c : Place) (e : Entry) → EntryAt s.tracing.lists c e → value_of e ≡ pos 0
  pub quiet : (v : ℕ) → now.volatiles v ≡ pos 0
  pub zero_run : RunsZero trace_setting (start trace_setting) s.history now

-- the list of thread t is that before with the entry at its end
pub entry_own : (R : Lists) (t : ℕ) (e : Entry) → with_entry R t e t ≡ R t ++ e ∷ []
entry_own R t e = let b : (t == t) ≡ true = eq-eqb t t refl in rw b refl

-- the lists of the other threads stay as they were
pub entry_else : (R : Lists) (t w : ℕ) (e : Entry) → w ≢ t → with_entry R t e w ≡ R w
entry_else R t w e other = let b : (w == t) ≡ false = ne_eqb w t other in rw b refl

-- what holds of the longer list and of all others holds of each list
pub each_list : (P : ℕ → List Entry → Type 0) (R : Lists) (t : ℕ) (e : Entry) → P t (R t ++ e ∷ []) → ((w : ℕ) → w ≢ t → P w (R w))
    → (w : ℕ) → P w (with_entry R t e w)
each_list P R t e own others w = elim (ℕ_discrete w t) [
  | yes same ↦ subst (λ z. P z (with_entry R t e z)) (sym same) (subst (P t) (sym (entry_own R t e)) own)
  | no other ↦ subst (P w) (sym (entry_else R t w e other)) (others w other)
]

-- no repeat comes by an entry that is none
pub alone_push : (R : Lists) (t : ℕ) (e : Entry) → ((c : Place) (f : Entry) → EntryAt R c f → IsRepeat f → ⊥) → (IsRepeat e → ⊥)
    → (c : Place) (f : Entry) → EntryAt (with_entry R t e) c f → IsRepeat f → ⊥
alone_push R t e alone none c f there = each_list (λ w es. (i : ℕ) (g : Entry) → At es i g → IsRepeat g → ⊥) R t e
    (λ i g at r. elim (at_cases (R t) e g i at) [
      | inl old ↦ alone (record { thread = t; index = i }) g old r
      | inr new ↦ none (subst IsRepeat new.1 r)
    ])
    (λ w other i g at. alone (record { thread = w; index = i }) g at) c.thread c.index f there

-- where each entry has the form of its thread's entries, so it is with one more that has it
pub formed_push : (R : Lists) (t : ℕ) (e : Entry) → ((c : Place) (f : Entry) → EntryAt R c f → EntryForm c.thread f) → EntryForm t e
    → (c : Place) (f : Entry) → EntryAt (with_entry R t e) c f → EntryForm c.thread f
formed_push R t e formed form c f there = each_list (λ w es. (i : ℕ) (g : Entry) → At es i g → EntryForm w g) R t e
    (λ i g at. elim (at_cases (R t) e g i at) [
      | inl old ↦ formed (record { thread = t; index = i }) g old
      | inr new ↦ subst (EntryForm t) (sym new.1) form
    ])
    (λ w other i g at. formed (record { thread = w; index = i }) g at) c.thread c.index f there

-- where each entry has the value 0, so it is with one more that has it
pub zeros_push : (R : Lists) (t : ℕ) (e : Entry) → ((c : Place) (f : Entry) → EntryAt R c f → value_of f ≡ pos 0) → value_of e ≡ pos 0
    → (c : Place) (f : Entry) → EntryAt (with_entry R t e) c f → value_of f ≡ pos 0
zeros_push R t e zeros own c f there = each_list (λ w es. (i : ℕ) (g : Entry) → At es i g → value_of g ≡ pos 0) R t e
    (λ i g at. elim (at_cases (R t) e g i at) [
      | inl old ↦ zeros (record { thread = t; index = i }) g old
      | inr new ↦ ap value_of new.1
          ∙ own
    ])
    (λ w other i g at. zeros (record { thread = w; index = i }) g at) c.thread c.index f there

-- a thread that goes on does so when the list of events grows
pub going_grows : (h more : List Stamp) (t : ℕ) (es : List Entry) → AreEvents h t es → IsGoing h t es → IsGoing (h ++ more) t es
going_grows h more t es k g =
    let l = last_own h t es k g.position g.last in
    record {
      position = g.position;
      last = g.last;
      goes_on = λ s e. g.goes_on s (event_back h more g.position s (slice_get_within h g.position l.event l.here) e);
    }

-- with a new event of its own that is no End, a thread goes on
pub going_new : (h : List Stamp) (t : ℕ) (es : List Entry) (x : Stamp) (e : Entry) → position_of e ≡ Some (length h) → x.event ≢ Does End
    → IsGoing (h ++ x ∷ []) t (es ++ e ∷ [])
going_new h t es x e at goes = record {
  position = length h;
  last = last_push es e
      ∙ ap (λ o. Rattle.gl_draws.specs.Ties.or_else o (last_position es)) at;
  goes_on = λ s here over. goes (rw (same s here) over);
}
  where
    same : (s : Stamp) → EventAt (h ++ x ∷ []) (length h) s → x.event ≡ s.event
    same s here = let new = new_event h x in let eq : x ≡ s = cc in ap (λ (z : Stamp). z.event) eq

module _ (s : Traced) (now : State) (r : IsRecorded s now) (t : ℕ) (act : Act) (new : State)
    (step : Step trace_setting now (record { thread = t; event = Does act }) (pos 0) new) (calm : (v : ℕ) → new.volatiles v ≡ pos 0)
    (stays : new.threads t ≡ Running → act ≢ End) (others : (w : ℕ) → w ≢ t → new.threads w ≡ Running → now.threads w ≡ Running) where
  abbrev x : Stamp
  x = record { thread = t; event = Does act }

  abbrev e : Entry
  e = Sync s.tracing.next act (pos 0)

  -- the event's entry has the position that comes next in the history
  at : position_of e ≡ Some (length s.history)
  at = ap Some r.next

  -- the event's entry draws no number
  none : (y k : ℕ) → Draws e y k → ⊥
  none y k (inl d) = d
  none y k (inr d) = d

  -- behind the event the record, the events and the draws belong together, in the state after the step
  pub event_recorded : IsRecorded (with_event t act s) new
  event_recorded = record {
    allowed = allows_push trace_setting (start trace_setting) now new s.history x (pos 0) step r.allowed;
    next = ap (λ n. n + 1) r.next ∙ sym (length-append s.history (x ∷ []));
    numbers = r.numbers;
    events = each_list (λ w es. AreEvents (s.history ++ x ∷ []) w es) s.tracing.lists t e
        (events_own s.history t (s.tracing.lists t) (r.events t) x e refl at refl)
        (λ w other. events_other s.history w (s.tracing.lists w) (r.events w) x (λ eq. other (sym eq)));
    drawn = each_list (λ w es. AreDrawn s.draws w es []) s.tracing.lists t e
        (drawn_push s.draws t (s.tracing.lists t) [] e none (r.drawn t)) (λ w other. r.drawn w);
    going = each_list (λ w es. new.threads w ≡ Running → IsGoing (s.history ++ x ∷ []) w es) s.tracing.lists t e
        (λ runs. going_new s.history t (s.tracing.lists t) x e at (λ over. stays runs (let z : act ≡ End = cc in z)))
        (λ w other runs. going_grows s.history (x ∷ []) w (s.tracing.lists w) (r.events w) (r.going w (others w other runs)));
    fit = λ y. fits_grow s.history (x ∷ []) y (s.draws y) (r.fit y);
    alone = alone_push s.tracing.lists t e r.alone (λ z. z);
    formed = formed_push s.tracing.lists t e r.formed (λ z. refl);
    words = r.words;
    zeros = zeros_push s.tracing.lists t e r.zeros refl;
    quiet = calm;
    zero_run = zero_push trace_setting (start trace_setting) now new s.history x step r.zero_run;
  }

-- the same with the mark that the thread has ended
pub last_recorded : (s : Traced) (now : State) (t : ℕ) → IsRecorded (with_event t End s) now → IsRecorded (with_last t s) now
last_recorded s now t r = record {
  allowed = r.allowed;
  next = r.next;
  numbers = r.numbers;
  events = r.events;
  drawn = r.drawn;
  going = r.going;
  fit = r.fit;
  alone = r.alone;
  formed = r.formed;
  words = r.words;
  zeros = r.zeros;
  quiet = r.quiet;
  zero_run = r.zero_run;
}
