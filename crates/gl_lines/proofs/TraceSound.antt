-- What the lines of a sound trace leave belongs together.
use Rattle.std.proofs.Common.{◌≡◌, ℕ, zero, suc, ◌≤◌, ◌==◌, List, [], ◌∷◌, ◌++◌, length, take, refl, ap, subst, sym, ◌∙◌, inl, inr, arith, Some, true, false, Bool}
use Rattle.std.specs.Prelude.{◌||◌, if◌then◌else◌, pos, slice_get}
use Rattle.std.proofs.lemmas.List.{take_all, map-append, length-map}
use Rattle.std.proofs.lemmas.Option.{slice_get_cases, slice_get-map}
use Rattle.gl_model.specs.declared.event.Act.TheVariants.{Begin}
use Rattle.gl_model.specs.declared.event.Event.TheVariants.{Act as Does}
use Rattle.gl_model.specs.Machine.{State, Step, Running, Forked, NeverForked, start, trace_setting, with_at}
use Rattle.gl_model.specs.Trace.{Line}
use Rattle.gl_lines.specs.Traced.{Traced, after_line, after_each, at_first, traced}
use Rattle.gl_lines.specs.TraceStates.{steps_of, AreSound, thread_of}
use Rattle.gl_lines.proofs.TraceEvents.{IsRecorded, event_recorded}
use Rattle.gl_lines.proofs.TraceLines.{IsTraced, next_traced}
use Rattle.gl_lines.proofs.TraceMachine.{none_kept}

-- nothing has been traced
abbrev nothing : Traced
nothing = record { tracing = record { lists = λ _. []; next = 0; numbers = λ _. 0; ended = λ _. false }; history = []; draws = λ _. [] }

-- the state before the first line
abbrev pub first_state : State
first_state = record (start trace_setting) { threads = with_at (start trace_setting).threads 0 Running }

-- at the start no thread runs
none_runs : (b : Bool) → (if b then Forked 0 (pos 0) else NeverForked) ≡ Running → ⊥
none_runs true e = cc
none_runs false e = cc

-- where nothing was made all belongs together
nothing_recorded : IsRecorded nothing (start trace_setting)
nothing_recorded = record {
  allowed = refl;
  next = refl;
  numbers = λ x. refl;
  events = λ t. record {
    listed = λ i p e ev a b c. absurd (cc);
    made = λ p s e own. absurd (cc);
    rise = λ i j p q e f a b lt c d. absurd (cc);
  };
  drawn = λ t. record {
    kept = λ x k d a own. absurd a;
    made = λ x k i e a b. absurd (cc);
    in_flight = λ o c. absurd (let l = c.1 in omega arith);
    rise = λ x k m i j e f a b lt c d. absurd (cc);
  };
  going = λ t runs. absurd (none_runs (t == 0) runs);
  fit = λ x. tt;
  alone = λ c e there r. cc;
  formed = λ c e there. absurd (cc);
  words = λ x. refl;
  zeros = λ c e there. absurd (cc);
  quiet = λ v. refl;
  zero_run = refl;
}

-- the begin of thread 0 is a step from the start
begins : Step trace_setting (start trace_setting) (record { thread = 0; event = Does (Begin 0) }) (pos 0) first_state
begins = record { may = refl; effect = refl }

-- before the first line all belongs together
first_recorded : IsRecorded at_first first_state
first_recorded = event_recorded nothing (start trace_setting) nothing_recorded 0 (Begin 0) first_state begins (λ v. refl) (λ r e. cc) others
  where
    others : (w : ℕ) → (w ≡ 0 → ⊥) → first_state.threads w ≡ Running → (start trace_setting).threads w ≡ Running
    others w other r = here (w == 0) refl r
      where
        here : (b : Bool) → (w == 0) ≡ b → (if b then Running else if b then Forked 0 (pos 0) else NeverForked) ≡ Running
            → (start trace_setting).threads w ≡ Running
        here true e i = absurd (other (Rattle.std.proofs.lemmas.Bool.eqb-true w 0 e))
        here false e i = absurd (cc)

-- what is there before the first line belongs to no steps
pub first_traced : IsTraced [] at_first first_state
first_traced = record {
  recorded = first_recorded;
  state = record { threads = λ t. here (t == 0); monitors = λ m. refl };
  kept = none_kept;
  ended = λ u. refl;
}
  where
    here : (b : Bool) → (if b then Running else if b then Forked 0 (pos 0) else NeverForked) ≡ thread_of (b || false) false
    here true = refl
    here false = refl

-- what lines leave with one more at the end is what that line leaves after them
pub each_push : (lines : List Line) (l : Line) (s : Traced) → after_each (lines ++ l ∷ []) s ≡ after_line l (after_each lines s)
each_push [] l s = refl
each_push (k ∷ lines) l s = each_push lines l (after_line k s)

-- what the lines leave with one more is what that leaves after them
pub traced_push : (lines : List Line) (l : Line) → traced (lines ++ l ∷ []) ≡ after_line l (traced lines)
traced_push lines l = each_push lines l at_first

-- the steps with one line more are those and its own
pub steps_push : (lines : List Line) (l : Line) → steps_of (lines ++ l ∷ []) ≡ steps_of lines ++ (l.thread, l.item) ∷ []
steps_push lines l = map-append (λ (k : Line). (k.thread, k.item)) lines (l ∷ [])

-- the first k + 1 are the first k, and then the one at k
pub take_one : {A : Type 0} (xs : List A) (k : ℕ) (x : A) → slice_get xs k ≡ Some x → take (suc k) xs ≡ take k xs ++ x ∷ []
take_one [] k x e = absurd (cc)
take_one (y ∷ xs) zero x e = let same : y ≡ x = cc in rw same refl
take_one (y ∷ xs) (suc k) x e = ap (λ ys. y ∷ ys) (take_one xs k x e)

module _ (lines : List Line) (sound : AreSound lines) where
  -- the step at place k is that of the line at place k
  pub step_at : (k : ℕ) (l : Line) → slice_get lines k ≡ Some l → slice_get (steps_of lines) k ≡ Some (l.thread, l.item)
  step_at k l e = slice_get-map (λ (l : Line). (l.thread, l.item)) lines k
      ∙ ap (Rattle.std.specs.Prelude.option_map (λ (l : Line). (l.thread, l.item))) e

  -- what the first k lines leave belongs together, in some state of the machine
  pub up_to : (k : ℕ) → k ≤ length lines → (now : State) × IsTraced (take k (steps_of lines)) (after_each (take k lines) at_first) now
  up_to zero le = (first_state, first_traced)
  up_to (suc k) le = elim ((slice_get_cases lines k).1) [
    | inl c ↦
        (let e : slice_get lines k ≡ Some c.0 = c.2 in
        let before = up_to k (omega arith) in
        let f = sound.clean k (c.0.thread, c.0.item) (step_at k c.0 e) in
        let n = next_traced (take k (steps_of lines)) (after_each (take k lines) at_first) before.0 before.1 c.0 (sound.in_range k c.0 e) f
        in (
          n.0,
          subst (λ ss. IsTraced ss (after_each (take (suc k) lines) at_first) n.0)
              (sym (take_one (steps_of lines) k (c.0.thread, c.0.item) (step_at k c.0 e)))
              (subst (λ z. IsTraced (take k (steps_of lines) ++ (c.0.thread, c.0.item) ∷ []) z n.0)
              (sym (ap (λ ls. after_each ls at_first) (take_one lines k c.0 e) ∙ each_push (take k lines) c.0 at_first)) n.1),
        ))
    | inr c ↦ absurd (let m = c.0 in omega arith)
  ]

  -- so does what all lines leave
  pub sound_traced : (now : State) × IsTraced (steps_of lines) (traced lines) now
  sound_traced =
      let u = up_to (length lines) (omega arith) in
      let n : length (steps_of lines) ≡ length lines = length-map lines (λ (l : Line). (l.thread, l.item)) in (
        u.0,
        subst (λ ss. IsTraced ss (traced lines) u.0) (take_all (length lines) (steps_of lines) (omega arith))
            (subst (λ ls. IsTraced (take (length lines) (steps_of lines)) (after_each ls at_first) u.0)
            (take_all (length lines) lines (omega arith)) u.1),
      )
