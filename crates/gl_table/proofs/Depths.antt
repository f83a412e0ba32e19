-- A thread has entered no monitor more often than it made events.
use Rattle.std.proofs.Common.{◌≡◌, ℕ, zero, suc, ◌+◌, ◌≤◌, ◌==◌, List, [], ◌∷◌, refl, sym, ap, subst, arith, ◌∙◌, inl, inr, true, false, Bool, eq-eqb, ne_eqb}
use Rattle.std.specs.Prelude.{ℤ, ◌⊎◌, if◌then◌else◌}
use native.Mathlib.Decide.{ℕ_discrete}
use Rattle.gl_model.specs.declared.event.Act.TheVariants.{Begin, End, Acq, Rel, VRead, VWrite, Fork, Join, Alloc, Print, Input, Fail}
use Rattle.gl_model.specs.declared.event.Event.{Event}
use Rattle.gl_model.specs.declared.event.Event.TheVariants.{Act as Does, Commit}
use Rattle.gl_model.specs.declared.event.Stamp.{Stamp}
use Rattle.gl_model.specs.Machine.{Setting, State, MonitorState, Free, Owned, Entered, Effect, Run, Allows, start, with_at, left_once}
use Rattle.gl_draws.proofs.DrawTies.{with_here, with_else}
use Rattle.gl_draws.specs.Forming.{events_by}

-- two ways of being owned that are equal have one thread and one depth
owned_same : (t u d e : ℕ) → Owned t d ≡ Owned u e → (t ≡ u) × (d ≡ e)
owned_same t u d e p = (cc, cc)

-- the thread a has entered it at most so often, or once more than before
abbrev Before : State → ℕ → ℕ → ℕ → ℕ → Type 0
Before s o a t d = ((d' : ℕ) × (s.monitors o ≡ Owned t d') × (d ≤ d'))
    ⊎ ((a ≡ t) × ((d ≤ 1) ⊎ ((d' : ℕ) × (s.monitors o ≡ Owned t d') × (d ≤ d' + 1))))

-- a monitor that did not change was owned before by the thread, to the same depth
same_before : (s new : State) (o a t d : ℕ) → new.monitors ≡ s.monitors → new.monitors o ≡ Owned t d → Before s o a t d
same_before s new o a t d e p = inl (d, sym (ap (λ (f : ℕ → MonitorState). f o) e) ∙ p, omega arith)

-- who owns a monitor that was entered is who entered it, at most one deeper than before
entered_before : (s : State) (o a t d : ℕ) (old m : MonitorState) → s.monitors o ≡ old → Entered a old m → m ≡ Owned t d → Before s o a t d
entered_before s o a t d Free m is e p = let q = owned_same a t 1 d (sym e ∙ p) in inr (q.0, inl (let x = q.1 in omega arith))
entered_before s o a t d (Owned w k) m is e p = let q = owned_same a t (k + 1) d (sym e.1 ∙ p)
    in inr (q.0, inr (k, is ∙ ap (λ z. Owned z k) (e.0 ∙ q.0), (let x = q.1 in omega arith)))

-- who owns a monitor that was left owned it before, no less deep
left_before : (s : State) (o a t d k : ℕ) → s.monitors o ≡ Owned a (k + 1) → left_once a k ≡ Owned t d → Before s o a t d
left_before s o a t d zero is p = absurd (cc)
left_before s o a t d (suc k) is p =
    let z : left_once a (suc k) ≡ Owned a (suc k) =
    ap (λ b. if b then Free else Owned a (suc k)) (ne_eqb (suc k) 0 (λ e. absurd (omega arith))) in
    let q = owned_same a t (suc k) d (sym z ∙ p) in
    inl (suc k + 1, is ∙ ap (λ z. Owned z (suc k + 1)) q.0, (let x = q.1 in omega arith))

-- where one monitor is set, who owns a monitor owned it before or entered it, if that is so of the one that was set
at_monitor : (s : State) (g : ℕ) (m : MonitorState) (o a t d : ℕ) → (m ≡ Owned t d → Before s g a t d) → with_at s.monitors g m o
    ≡ Owned t d → Before s o a t d
at_monitor s g m o a t d here p = elim (ℕ_discrete o g) [
  | yes e ↦ subst (λ z. Before s z a t d) (sym e)
      (here (sym (with_here s.monitors g m) ∙ subst (λ z. with_at s.monitors g m z ≡ Owned t d) e p))
  | no ne ↦ inl (d, sym (with_else s.monitors g o m ne) ∙ p, omega arith)
]

-- who owns a monitor after an event owned it before as deep, or made the event and is at most one deeper
effect_before : (setting : Setting) (s new : State) (a : ℕ) (event : Event) (value : ℤ) → Effect setting s a event value new → (o t d : ℕ)
    → new.monitors o ≡ Owned t d → Before s o a t d
effect_before setting s new a (Commit xs) value e o t d p = same_before s new o a t d (ap (λ (z : State). z.monitors) e) p
effect_before setting s new a (Does (Begin f)) value e o t d p = same_before s new o a t d (ap (λ (z : State). z.monitors) e) p
effect_before setting s new a (Does End) value e o t d p = same_before s new o a t d (ap (λ (z : State). z.monitors) e) p
effect_before setting s new a (Does (Acq g)) value e o t d p =
    at_monitor s g e.0 o a t d (entered_before s g a t d (s.monitors g) e.0 refl e.1) (sym (ap (λ (z : State). z.monitors o) e.2) ∙ p)
effect_before setting s new a (Does (Rel g)) value e o t d p =
    at_monitor s g (left_once a e.0) o a t d (left_before s g a t d e.0 e.1) (sym (ap (λ (z : State). z.monitors o) e.2) ∙ p)
effect_before setting s new a (Does (VRead v)) value e o t d p = same_before s new o a t d (ap (λ (z : State). z.monitors) e.1) p
effect_before setting s new a (Does (VWrite v)) value e o t d p = same_before s new o a t d (ap (λ (z : State). z.monitors) e) p
effect_before setting s new a (Does (Fork u f)) value e o t d p = same_before s new o a t d (ap (λ (z : State). z.monitors) e.1) p
effect_before setting s new a (Does (Join u)) value e o t d p = same_before s new o a t d (ap (λ (z : State). z.monitors) e.1) p
effect_before setting s new a (Does (Alloc c)) value e o t d p = same_before s new o a t d (ap (λ (z : State). z.monitors) e.4) p
effect_before setting s new a (Does Print) value e o t d p = same_before s new o a t d (ap (λ (z : State). z.monitors) e) p
effect_before setting s new a (Does Input) value e o t d p = same_before s new o a t d (ap (λ (z : State). z.monitors) e.1) p
effect_before setting s new a (Does (Fail k)) value e o t d p = same_before s new o a t d (ap (λ (z : State). z.monitors) e.1) p

-- the counts of a function of threads, with one more for thread a
abbrev one_more : (ℕ → ℕ) → ℕ → ℕ → ℕ
one_more n a t = if a == t then suc (n t) else n t

-- one more on the left or the right of a sum is the same, as the test decides
more_by : (b : Bool) (n k m : ℕ) → m ≡ (if b then suc n else n) + k → m ≡ n + (if b then suc k else k)
more_by true n k m e = omega arith
more_by false n k m e = e

-- one more for a thread leaves no count less
at_least : (n : ℕ → ℕ) (a t : ℕ) → n t ≤ one_more n a t
at_least n a t = by_bool (a == t)
  where
    by_bool : (b : Bool) → n t ≤ (if b then suc (n t) else n t)
    by_bool true = omega arith
    by_bool false = omega arith

-- if depths were within counts at the start of a run, they are within the counts and each thread's events at its end
run_depth : (setting : Setting) (s now : State) (log : List Stamp) (n : ℕ → ℕ) → Run setting s log now
    → ((o t d : ℕ) → s.monitors o ≡ Owned t d → d ≤ n t) → (o t d : ℕ) → now.monitors o ≡ Owned t d → d ≤ n t + events_by t log
run_depth setting s now [] n run low o t d p = let a = low o t d (sym (ap (λ (z : State). z.monitors o) run) ∙ p) in omega arith
run_depth setting s now (x ∷ log) n run low o t d p =
    let mid = run.1 in
    let step = run.2 in
    let r = run_depth setting mid now log (one_more n x.thread) run.3
    (λ g u k q. bound g u k (effect_before setting s mid x.thread x.event run.0 step.effect g u k q)) o t d p in
    let e : one_more n x.thread t + events_by t log
    ≡ n t + events_by t (x ∷ log) = more_by (x.thread == t) (n t) (events_by t log) (one_more n x.thread t + events_by t log) refl in
    omega arith
  where
    one_here : (u : ℕ) → x.thread ≡ u → one_more n x.thread u ≡ suc (n u)
    one_here u e = ap (λ b. if b then suc (n u) else n u) (eq-eqb x.thread u e)

    bound : (g u k : ℕ) → Before s g x.thread u k → k ≤ one_more n x.thread u
    bound g u k (inl (d', is, le)) = let a = low g u d' is in let b = at_least n x.thread u in omega arith
    bound g u k (inr (e, inl le)) = let a = one_here u e in omega arith
    bound g u k (inr (e, inr (d', is, le))) = let a = one_here u e in let b = low g u d' is in omega arith

-- in an allowed log a thread owns a monitor to no more depth than it has events
pub depth_law : (setting : Setting) (log : List Stamp) (now : State) → Allows setting log now → (o t d : ℕ) → now.monitors o ≡ Owned t d
    → d ≤ events_by t log
depth_law setting log now allowed o t d p = let a =
    run_depth setting (start setting) now log (λ _. 0) allowed (λ g u k e. absurd (cc)) o t d p in omega arith
