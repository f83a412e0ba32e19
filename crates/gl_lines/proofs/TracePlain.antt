-- The record and the draws of a trace, when a thread makes a plain access.
use Rattle.std.proofs.Common.{◌≡◌, ◌≢◌, ℕ, ◌+◌, ◌≤◌, ◌==◌, List, [], ◌∷◌, ◌++◌, length, refl, ap, subst, sym, ◌∙◌, arith, Some, None, true, false, Bool, not, eq-eqb, ne_eqb}
use Rattle.std.specs.Prelude.{◌&&◌, if◌then◌else◌, pos, unwrap_or}
use native.Mathlib.Decide.{ℕ_discrete}
use Rattle.gl_model.specs.declared.event.Stamp.{Stamp}
use Rattle.gl_model.specs.Entries.{Entry, Plain}
use Rattle.gl_model.specs.Form.{EntryForm}
use Rattle.gl_model.specs.Machine.{State, Running, with_at}
use Rattle.gl_model.specs.Records.{position_of}
use Rattle.gl_draws.specs.Draws.{Entered, Draw, draw, Among, EachDraw, word_of}
use Rattle.gl_draws.specs.Events.{AreEvents}
use Rattle.gl_draws.specs.Ties.{or_else, last_position, AreDrawn}
use Rattle.gl_lines.specs.Traced.{Traced, block_of, after_plain}
use Rattle.gl_draws.specs.Verdicts.{IsPlaced}
use Rattle.gl_draws.proofs.DrawTies.{drawn_mark, drawn_other}
use Rattle.gl_draws.proofs.EventTies.{LastOwn, last_own, events_push}
use Rattle.gl_draws.proofs.LastOnes.{each_at}
use Rattle.gl_draws.proofs.Pushes.{last_push}
use Rattle.gl_lines.proofs.TraceEvents.{DrawFits, IsGoing, IsRecorded, each_list, alone_push, formed_push, zeros_push}
use Rattle.gl_lines.proofs.TraceMachine.{with_at-here, with_at-else}

-- an entry that is no event leaves its thread where it is
pub going_push : (h : List Stamp) (t : ℕ) (es : List Entry) (e : Entry) → position_of e ≡ None → IsGoing h t es → IsGoing h t (es ++ e ∷ [])
going_push h t es e none g = record {
  position = g.position;
  last = last_push es e ∙ ap (λ o. or_else o (last_position es)) none
      ∙ g.last;
  goes_on = g.goes_on;
}

module _ (s : Traced) (now : State) (r : IsRecorded s now) (t : ℕ) (running : now.threads t ≡ Running) where
  -- the running thread has a last event, which is no End
  g : IsGoing s.history t (s.tracing.lists t)
  g = r.going t running

  -- the block of the thread is the position of its last event
  pub block_is : last_position (s.tracing.lists t) ≡ Some (block_of t s)
  block_is = subst (λ o. o ≡ Some (unwrap_or o 0)) (sym g.last) refl

  -- the position that is taken as the thread's block is that of its last event, which has its entry in the list
  pub block_here : LastOwn s.history t (s.tracing.lists t) (r.events t) (block_of t s)
  block_here = last_own s.history t (s.tracing.lists t) (r.events t) (block_of t s) block_is

  -- the position of the thread's last event is its block
  same_block : g.position ≡ block_of t s
  same_block = let a = g.last in let b = block_is in cc

  -- this event is no End
  pub block_goes_on : block_here.event.event
      ≡ Rattle.gl_model.specs.declared.event.Event.TheVariants.Act Rattle.gl_model.specs.declared.event.Act.TheVariants.End → ⊥
  block_goes_on over = g.goes_on block_here.event
      (subst (λ p. Rattle.gl_model.specs.Edges.EventAt s.history p block_here.event) (sym same_block) block_here.here) over

  -- its own draws were made there or before
  pub own_below : (y : ℕ) (a : Draw) → Among (s.draws y) a → a.thread ≡ t → a.block ≤ block_of t s
  own_below y a among own =
      let f = each_at (DrawFits s.history y) (s.draws y) a (r.fit y) among in
      block_here.upto a.block f.1.placed.event f.1.placed.here (f.1.placed.own ∙ own)

  module _ (x : ℕ) (write raised : Bool) where
    abbrev e : Entry
    e = Plain x (s.tracing.numbers x) false write (pos 0) raised

    abbrev d : Draw
    d = draw t (block_of t s) (Entered (Plain x (s.tracing.numbers x) false write (pos 0) raised))

    abbrev new : ℕ → List Draw
    new = with_at s.draws x (draw t (block_of t s) (Entered (Plain x (s.tracing.numbers x) false write (pos 0) raised)) ∷ s.draws x)

    -- what holds of the draws of each variable
    pub each_variable : (P : ℕ → List Draw → Type 0) → P x (d ∷ s.draws x) → ((y : ℕ) → y ≢ x → P y (s.draws y)) → (y : ℕ) → P y (new y)
    each_variable P here others y = elim (ℕ_discrete y x) [
      | yes same ↦ subst (λ z. P z (new z)) (sym same) (subst (P x) (sym (with_at-here s.draws x (d ∷ s.draws x))) here)
      | no other ↦ subst (P y) (sym (with_at-else s.draws x y (d ∷ s.draws x) other)) (others y other)
    ]

    -- behind the access the next number of each variable is the count of its draws
    numbers : (y : ℕ) → (if y == x then s.tracing.numbers x + 1 else s.tracing.numbers y) ≡ length (new y)
    numbers y = elim (ℕ_discrete y x) [
      | yes same ↦ (let b : (y == x) ≡ true = eq-eqb y x same in let n = r.numbers x in rw b (omega arith))
      | no other ↦ (let b : (y == x) ≡ false = ne_eqb y x other in rw b (r.numbers y))
    ]

    -- the access's draw is placed
    pub placed : IsPlaced s.history d
    placed = record { event = block_here.event; here = block_here.here; own = block_here.own; goes_on = block_goes_on; is = tt }

    -- it fits the draws of x
    pub plain_fits : DrawFits s.history x d (s.draws x)
    plain_fits = record {
      placed = placed;
      rises = λ a among own. own_below x a among own;
      agrees = λ a among c f. absurd f;
      named = ((refl, r.numbers x), tt);
    }

    -- the draws of thread t are tied to its list with the access's entry
    drawn_here : AreDrawn new t (s.tracing.lists t ++ e ∷ []) []
    drawn_here = subst (λ n. AreDrawn (with_at s.draws x (draw t (block_of t s) (Entered (Plain x n false write (pos 0) raised))
        ∷ s.draws x)) t (s.tracing.lists t ++ Plain x n false write (pos 0) raised ∷ []) []) (sym (r.numbers x))
        (drawn_mark s.draws x t (block_of t s) (s.tracing.lists t) [] write raised (pos 0) block_is (r.drawn t))

    -- the access's entry has the form of an entry of thread t, raised or not
    form : (b : Bool) → EntryForm t (Plain x (s.tracing.numbers x) false write (pos 0) b)
    form true = (refl, λ z. refl)
    form false = tt

    -- the word of x is 0 whether the access wrote 0 or left it as it was
    word : (w : Bool) → (if w then pos 0 else word_of x (s.draws x)) ≡ pos 0
    word true = refl
    word false = r.words x

    -- behind the access the record, the events and the draws belong together, in the same state of the machine
    pub plain_recorded : IsRecorded (after_plain t x write raised s) now
    plain_recorded = record {
      allowed = r.allowed;
      next = r.next;
      numbers = numbers;
      events = each_list (λ w es. AreEvents s.history w es) s.tracing.lists t e
          (events_push s.history t (s.tracing.lists t) (r.events t) e refl) (λ w other. r.events w);
      drawn = each_list (λ w es. AreDrawn new w es []) s.tracing.lists t e drawn_here
          (λ w other. drawn_other s.draws x d w (s.tracing.lists w) [] (λ eq. other (sym eq)) (r.drawn w));
      going = each_list (λ w es. now.threads w ≡ Running → IsGoing s.history w es) s.tracing.lists t e
          (λ runs. going_push s.history t (s.tracing.lists t) e refl (r.going t runs)) (λ w other runs. r.going w runs);
      fit = each_variable (λ y ds. EachDraw (DrawFits s.history y) ds) (plain_fits, r.fit x) (λ y other. r.fit y);
      alone = alone_push s.tracing.lists t e r.alone (λ z. let k : false ≡ true = z in cc);
      formed = formed_push s.tracing.lists t e r.formed (form raised);
      words = each_variable (λ y ds. word_of y ds ≡ pos 0) (word (write && not raised)) (λ y other. r.words y);
      zeros = zeros_push s.tracing.lists t e r.zeros refl;
      quiet = r.quiet;
      zero_run = r.zero_run;
    }
