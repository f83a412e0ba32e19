-- What a step of the machine settles, and what it keeps.
use Rattle.std.proofs.Common.{◌≡◌, ◌≢◌, ℕ, zero, suc, ◌+◌, ◌≤◌, refl, sym, ap, subst, arith, ◌∙◌, Some, ne_eqb}
use Rattle.std.specs.Prelude.{ℤ, if◌then◌else◌}
use native.Mathlib.Decide.{ℕ_discrete}
use Rattle.gl_model.specs.declared.event.Act.{Act}
use Rattle.gl_model.specs.declared.event.Act.TheVariants.{Begin, End, Acq, Rel, VRead, VWrite, Fork, Join, Alloc, Print, Input, Fail}
use Rattle.gl_model.specs.declared.event.Event.{Event}
use Rattle.gl_model.specs.declared.event.Event.TheVariants.{Act as Does, Commit}
use Rattle.gl_model.specs.declared.event.Stamp.{Stamp}
use Rattle.gl_model.specs.Machine.{Setting, State, ThreadState, NeverForked, Forked, Running, Ended, MonitorState, Free, Owned, Entered, MayStep, ActEffect, Effect, Step, with_at, left_once}
use Rattle.gl_draws.proofs.DrawTies.{with_here, with_else}

-- a monitor that a thread enters becomes one and the same
one_entered : (t : ℕ) (old m n : MonitorState) → Entered t old m → Entered t old n → m ≡ n
one_entered t Free m n x y = x ∙ sym y
one_entered t (Owned owner depth) m n x y = x.1 ∙ sym y.1

-- a monitor that is owned to one more than two depths is owned to one depth
one_depth : (s : MonitorState) (t d e : ℕ) → s ≡ Owned t (d + 1) → s ≡ Owned t (e + 1) → d ≡ e
one_depth s t d e x y = let z : d + 1 ≡ e + 1 = cc in omega arith

-- an act from one state, with one value, gives one state
same_act : (setting : Setting) (old a b : State) (t : ℕ) (act : Act) (value : ℤ) → ActEffect setting old t act value a
    → ActEffect setting old t act value b → a ≡ b
same_act setting old a b t (Begin f) value x y = x ∙ sym y
same_act setting old a b t End value x y = x ∙ sym y
same_act setting old a b t (Acq o) value x y =
    x.2 ∙ ap (λ (m : MonitorState). record old { monitors = with_at old.monitors o m }) (one_entered t (old.monitors o) x.0 y.0 x.1 y.1)
    ∙ sym y.2
same_act setting old a b t (Rel o) value x y =
    x.2 ∙ ap (λ (d : ℕ). record old { monitors = with_at old.monitors o (left_once t d) }) (one_depth (old.monitors o) t x.0 y.0 x.1 y.1)
    ∙ sym y.2
same_act setting old a b t (VRead v) value x y = x.1 ∙ sym y.1
same_act setting old a b t (VWrite v) value x y = x ∙ sym y
same_act setting old a b t (Fork u f) value x y = x.1 ∙ sym y.1
same_act setting old a b t (Join u) value x y = x.1 ∙ sym y.1
same_act setting old a b t (Alloc c) value x y =
    let same : x.0 ≡ y.0 = some_same x.0 y.0 (sym x.1 ∙ y.1) in
    x.4 ∙ ap (λ (n : ℕ × ℕ). record old {
      next_object = old.next_object + 1;
      next_variable = old.next_variable + n.0;
      next_volatile = old.next_volatile + n.1;
    }) same ∙ sym y.4
  where
    some_same : (m n : ℕ × ℕ) → Some m ≡ Some n → m ≡ n
    some_same m n e = cc
same_act setting old a b t Print value x y = x ∙ sym y
same_act setting old a b t Input value x y = x.1 ∙ sym y.1
same_act setting old a b t (Fail k) value x y = x.1 ∙ sym y.1

-- an event from one state, with one value, gives one state
same_effect : (setting : Setting) (old a b : State) (t : ℕ) (event : Event) (value : ℤ) → Effect setting old t event value a
    → Effect setting old t event value b → a ≡ b
same_effect setting old a b t (Does act) value x y = same_act setting old a b t act value x y
same_effect setting old a b t (Commit xs) value x y = x ∙ sym y

-- an event leads from a state to one state at most
pub one_next : (setting : Setting) (old a b : State) (s : Stamp) (value : ℤ) → Step setting old s value a → Step setting old s value b
    → a ≡ b
one_next setting old a b s value x y = same_effect setting old a b s.thread s.event value x.effect y.effect

-- equal states have equal threads
threads_of : (a b : State) → a ≡ b → (t : ℕ) → a.threads t ≡ b.threads t
threads_of a b e t = ap (λ (s : State). s.threads t) e

-- what becomes of a thread by a step: it stays; it is the one that steps, and was forked or ran before; or it was never forked, and is
-- forked now
pub data Becomes (old new : State) (s : Stamp) (t : ℕ) : Type 0 where
  stays : new.threads t ≡ old.threads t → Becomes old new s t
  steps : t ≡ s.thread → old.threads t ≢ NeverForked → old.threads t ≢ Ended → Becomes old new s t
  is_forked : (f : ℕ) → s.event ≡ Does (Fork t f) → old.threads t ≡ NeverForked → Becomes old new s t

-- a running thread is neither never forked nor ended
runs_on : (x : ThreadState) → x ≡ Running → (x ≢ NeverForked) × (x ≢ Ended)
runs_on x e = ((λ n. absurd (cc)), (λ n. absurd (cc)))

-- a thread that was forked and has not begun is neither never forked nor ended
was_forked : (x : ThreadState) (f : ℕ) (value : ℤ) → x ≡ Forked f value → (x ≢ NeverForked) × (x ≢ Ended)
was_forked x f value e = ((λ n. absurd (cc)), (λ n. absurd (cc)))

module _ (setting : Setting) (old new : State) (s : Stamp) (t : ℕ) where
  -- if only the state of the thread that steps changes, and it was forked and had not ended, each thread becomes what a step makes of it
  changes_own : (x : ThreadState) → (old.threads s.thread ≢ NeverForked) × (old.threads s.thread ≢ Ended)
      → ((k : ℕ) → new.threads k ≡ with_at old.threads s.thread x k) → Becomes old new s t
  changes_own x was is = elim (ℕ_discrete t s.thread) [
    | yes e ↦ steps e (subst (λ z. old.threads z ≢ NeverForked) (sym e) was.0) (subst (λ z. old.threads z ≢ Ended) (sym e) was.1)
    | no ne ↦ stays (is t ∙ with_else old.threads s.thread t x ne)
  ]

  -- if only the state of the thread that is forked changes, and it was never forked, each thread becomes what a step makes of it
  changes_child : (u f : ℕ) (x : ThreadState) → s.event ≡ Does (Fork u f) → old.threads u ≡ NeverForked
      → ((k : ℕ) → new.threads k ≡ with_at old.threads u x k) → Becomes old new s t
  changes_child u f x event new_one is = elim (ℕ_discrete t u) [
    | yes e ↦ is_forked f (event ∙ ap (λ z. Does (Fork z f)) (sym e)) (ap old.threads e ∙ new_one)
    | no ne ↦ stays (is t ∙ with_else old.threads u t x ne)
  ]

  -- by an act each thread becomes what a step makes of it
  by_act : (act : Act) (value : ℤ) → s.event ≡ Does act → MayStep (old.threads s.thread) (Does act) value
      → ActEffect setting old s.thread act value new → Becomes old new s t
  by_act (Begin f) value event may x = changes_own Running (was_forked (old.threads s.thread) f value may)
      (λ k. ap (λ (z : State). z.threads k) x)
  by_act End value event may x = changes_own Ended (runs_on (old.threads s.thread) may) (λ k. ap (λ (z : State). z.threads k) x)
  by_act (Acq o) value event may x = stays (ap (λ (z : State). z.threads t) x.2)
  by_act (Rel o) value event may x = stays (ap (λ (z : State). z.threads t) x.2)
  by_act (VRead v) value event may x = stays (ap (λ (z : State). z.threads t) x.1)
  by_act (VWrite v) value event may x = stays (ap (λ (z : State). z.threads t) x)
  by_act (Fork u f) value event may x = changes_child u f (Forked f value) event x.0.2 (λ k. ap (λ (z : State). z.threads k) x.1)
  by_act (Join u) value event may x = stays (ap (λ (z : State). z.threads t) x.1)
  by_act (Alloc c) value event may x = stays (ap (λ (z : State). z.threads t) x.4)
  by_act Print value event may x = stays (ap (λ (z : State). z.threads t) x)
  by_act Input value event may x = stays (ap (λ (z : State). z.threads t) x.1)
  by_act (Fail k) value event may x = stays (ap (λ (z : State). z.threads t) x.1)

  -- by an act or a commit each thread becomes what a step makes of it
  by_event : (event : Event) (value : ℤ) → s.event ≡ event → MayStep (old.threads s.thread) event value
      → Effect setting old s.thread event value new → Becomes old new s t
  by_event (Does act) value is may x = by_act act value is may x
  by_event (Commit xs) value is may x = stays (ap (λ (z : State). z.threads t) x)

  -- by a step each thread becomes what a step may make of it
  pub becomes : (value : ℤ) → Step setting old s value new → Becomes old new s t
  becomes value step = by_event s.event value refl step.may step.effect

  -- a thread that has ended stays so
  pub stays_ended : (value : ℤ) → Step setting old s value new → old.threads t ≡ Ended → new.threads t ≡ Ended
  stays_ended value step ended = by_case (becomes value step)
    where
      by_case : Becomes old new s t → new.threads t ≡ Ended
      by_case (stays e) = e ∙ ended
      by_case (steps own not_new not_over) = absurd (not_over ended)
      by_case (is_forked f event never) = absurd (cc)

-- a thread that ends has ended
pub ends : (setting : Setting) (old new : State) (t : ℕ) (value : ℤ) → Step setting old (record { thread = t; event = Does End }) value new
    → new.threads t ≡ Ended
ends setting old new t value step = ap (λ (z : State). z.threads t) step.effect ∙ with_here old.threads t Ended

-- no monitor was entered more often than so
abbrev pub AreWithin : ℕ → State → Type 0
AreWithin most s = (o t d : ℕ) → s.monitors o ≡ Owned t d → d ≤ most

-- two ways of being owned that are equal have one depth
owned_depth : (t u d e : ℕ) → Owned t d ≡ Owned u e → d ≡ e
owned_depth t u d e p = cc

module _ (most : ℕ) (old new : State) (within : AreWithin most old) where
  -- if no monitor changes, each is entered at most once more than the bound
  same_within : ((o : ℕ) → new.monitors o ≡ old.monitors o) → AreWithin (most + 1) new
  same_within same o t d is = let low = within o t d (sym (same o) ∙ is) in omega arith

  -- if one monitor changes, and is then entered at most once more than the bound, so is each
  changed_within : (g : ℕ) (m : MonitorState) → ((t d : ℕ) → m ≡ Owned t d → d ≤ most + 1)
      → ((o : ℕ) → new.monitors o ≡ with_at old.monitors g m o) → AreWithin (most + 1) new
  changed_within g m low is o t d owned = elim (ℕ_discrete o g) [
    | yes e ↦ low t d (sym (with_here old.monitors g m) ∙ ap (with_at old.monitors g m) (sym e) ∙ sym (is o) ∙ owned)
    | no ne ↦ (let l = within o t d (sym (with_else old.monitors g o m ne) ∙ sym (is o) ∙ owned) in omega arith)
  ]

  -- a monitor that was entered once more is entered at most once more than the bound
  entered_within : (a g : ℕ) (x m : MonitorState) → old.monitors g ≡ x → Entered a x m → (t d : ℕ) → m ≡ Owned t d → d ≤ most + 1
  entered_within a g Free m at in' t d is = let e : 1 ≡ d = owned_depth a t 1 d (sym in' ∙ is) in omega arith
  entered_within a g (Owned w k) m at in' t d is =
      let e : k + 1 ≡ d = owned_depth a t (k + 1) d (sym in'.1 ∙ is) in
      let low : k ≤ most = within g w k at in
      omega arith

  -- a monitor that was left once is entered at most once more than the bound
  left_within : (a g k : ℕ) → old.monitors g ≡ Owned a (k + 1) → (t d : ℕ) → left_once a k ≡ Owned t d → d ≤ most + 1
  left_within a g zero at t d is = absurd (cc)
  left_within a g (suc k) at t d is =
      let z : left_once a (suc k) ≡ Owned a (suc k) = ap (λ b. if b then Free else Owned a (suc k))
      (ne_eqb (suc k) 0 (λ e. absurd (omega arith))) in
      let e : suc k ≡ d = owned_depth a t (suc k) d (sym z ∙ is) in
      let low = within g a (suc k + 1) at in
      omega arith

  -- after an act each monitor is entered at most once more than the bound
  within_act : (setting : Setting) (a : ℕ) (act : Act) (value : ℤ) → ActEffect setting old a act value new → AreWithin (most + 1) new
  within_act setting a (Begin f) value x = same_within (λ o. ap (λ (z : State). z.monitors o) x)
  within_act setting a End value x = same_within (λ o. ap (λ (z : State). z.monitors o) x)
  within_act setting a (Acq g) value x = changed_within g x.0 (entered_within a g (old.monitors g) x.0 refl x.1)
      (λ o. ap (λ (z : State). z.monitors o) x.2)
  within_act setting a (Rel g) value x = changed_within g (left_once a x.0) (left_within a g x.0 x.1)
      (λ o. ap (λ (z : State). z.monitors o) x.2)
  within_act setting a (VRead v) value x = same_within (λ o. ap (λ (z : State). z.monitors o) x.1)
  within_act setting a (VWrite v) value x = same_within (λ o. ap (λ (z : State). z.monitors o) x)
  within_act setting a (Fork u f) value x = same_within (λ o. ap (λ (z : State). z.monitors o) x.1)
  within_act setting a (Join u) value x = same_within (λ o. ap (λ (z : State). z.monitors o) x.1)
  within_act setting a (Alloc c) value x = same_within (λ o. ap (λ (z : State). z.monitors o) x.4)
  within_act setting a Print value x = same_within (λ o. ap (λ (z : State). z.monitors o) x)
  within_act setting a Input value x = same_within (λ o. ap (λ (z : State). z.monitors o) x.1)
  within_act setting a (Fail k) value x = same_within (λ o. ap (λ (z : State). z.monitors o) x.1)

  -- after an act or a commit each monitor is entered at most once more than the bound
  within_effect : (setting : Setting) (a : ℕ) (event : Event) (value : ℤ) → Effect setting old a event value new → AreWithin (most + 1) new
  within_effect setting a (Does act) value x = within_act setting a act value x
  within_effect setting a (Commit xs) value x = same_within (λ o. ap (λ (z : State). z.monitors o) x)

  -- a step enters a monitor once more at most
  pub within_step : (setting : Setting) (s : Stamp) (value : ℤ) → Step setting old s value new → AreWithin (most + 1) new
  within_step setting s value step = within_effect setting s.thread s.event value step.effect
