-- Who owns a monitor while a thread makes no event.
use Rattle.std.proofs.Common.{◌≡◌, ◌≢◌, ℕ, zero, suc, ◌+◌, ◌<◌, ◌==◌, List, [], ◌∷◌, take, refl, sym, ◌∙◌, ap, subst, arith, Some, true, false, Bool}
use Rattle.std.specs.Prelude.{◌↔◌, ℤ, slice_get, if◌then◌else◌}
use native.Mathlib.Decide.{ℕ_discrete}
use Rattle.gl_model.specs.declared.event.Act.TheVariants.{Begin, End, Acq, Rel, VRead, VWrite, Fork, Join, Alloc, Print, Input, Fail}
use Rattle.gl_model.specs.declared.event.Event.{Event}
use Rattle.gl_model.specs.declared.event.Event.TheVariants.{Act as Does, Commit}
use Rattle.gl_model.specs.declared.event.Stamp.{Stamp}
use Rattle.gl_model.specs.Infos.{AreLeastOwned}
use Rattle.gl_model.specs.Machine.{Setting, State, MonitorState, Free, Owned, Owns, Run, Entered, Effect, left_once, with_at}
use Rattle.gl_draws.proofs.DrawTies.{with_here, with_else}

-- the same monitors are owned by t
SameOwner : ℕ → (ℕ → MonitorState) → (ℕ → MonitorState) → Type 0
SameOwner t f g = (o : ℕ) → ((d : ℕ) × (f o ≡ Owned t d)) ↔ ((d : ℕ) × (g o ≡ Owned t d))

-- a monitor has one owner
owned_one : (t u d e : ℕ) → Owned t d ≡ Owned u e → t ≡ u
owned_one t u d e h = cc

module _ (t u : ℕ) (other : u ≢ t) where
  -- a monitor that u enters is t's neither before nor after
  entered_not : (m n : MonitorState) → Entered u m n → ((d : ℕ) → m ≡ Owned t d → ⊥) × ((d : ℕ) → n ≡ Owned t d → ⊥)
  entered_not Free n e = (λ d z. absurd (let k : Free ≡ Owned t d = z in cc), λ d z. other (owned_one u t 1 d (sym e ∙ z)))
  entered_not (Owned owner depth) n e = (
    λ d z. other (sym e.0 ∙ owned_one owner t depth d z),
    λ d z. other
        (owned_one u t (depth + 1) d (sym e.1 ∙ z)),
  )

  -- a monitor that u left once is not t's
  left_not : (depth d : ℕ) → left_once u depth ≡ Owned t d → ⊥
  left_not depth d z = here (depth == 0) z
    where
      here : (b : Bool) → (if b then Free else Owned u depth) ≡ Owned t d → ⊥
      here true z = absurd (let k : Free ≡ Owned t d = z in cc)
      here false z = other (owned_one u t depth d z)

  -- one monitor changes, which t owns neither before nor after
  changed : (f g : ℕ → MonitorState) (p : ℕ) (m : MonitorState) → g ≡ with_at f p m → ((d : ℕ) → f p ≡ Owned t d → ⊥)
      → ((d : ℕ) → m ≡ Owned t d → ⊥) → SameOwner t f g
  unfolding SameOwner
  changed f g p m is before after o = elim (ℕ_discrete o p) [
    | yes same ↦ (
      λ w. absurd (before w.0 (ap f (sym same) ∙ w.1)),
      λ w. absurd
          (after w.0 (sym (with_here f p m) ∙ ap (λ k. k p) (sym is) ∙ ap g (sym same) ∙ w.1)),
    )
    | no apart ↦ (let e : g o ≡ f o = ap (λ k. k o) is ∙ with_else f p o m apart in (λ w. (w.0, e ∙ w.1), λ w. (w.0, sym e ∙ w.1)))
  ]

  -- where no monitor changed, t owns the same ones
  same : (f g : ℕ → MonitorState) → g ≡ f → SameOwner t f g
  unfolding SameOwner
  same f g e o = (λ w. (w.0, ap (λ k. k o) e ∙ w.1), λ w. (w.0, ap (λ k. k o) (sym e) ∙ w.1))

  -- by an event of u the monitors that t owns stay the same
  effect_keeps : (setting : Setting) (old new : State) (e : Event) (value : ℤ) → Effect setting old u e value new
      → SameOwner t old.monitors new.monitors
  effect_keeps setting old new (Does (Begin f)) value e = same old.monitors new.monitors (ap (λ (s : State). s.monitors) e)
  effect_keeps setting old new (Does End) value e = same old.monitors new.monitors (ap (λ (s : State). s.monitors) e)
  effect_keeps setting old new (Does (Acq p)) value e = let n = entered_not (old.monitors p) e.0 e.1
      in changed old.monitors new.monitors p e.0 (ap (λ (s : State). s.monitors) e.2) n.0 n.1
  effect_keeps setting old new (Does (Rel p)) value e =
      changed old.monitors new.monitors p (left_once u e.0) (ap (λ (s : State). s.monitors) e.2)
      (λ d z. other (owned_one u t (e.0 + 1) d (sym e.1 ∙ z))) (left_not e.0)
  effect_keeps setting old new (Does (VRead v)) value e = same old.monitors new.monitors (ap (λ (s : State). s.monitors) e.1)
  effect_keeps setting old new (Does (VWrite v)) value e = same old.monitors new.monitors (ap (λ (s : State). s.monitors) e)
  effect_keeps setting old new (Does (Fork w f)) value e = same old.monitors new.monitors (ap (λ (s : State). s.monitors) e.1)
  effect_keeps setting old new (Does (Join w)) value e = same old.monitors new.monitors (ap (λ (s : State). s.monitors) e.1)
  effect_keeps setting old new (Does (Alloc c)) value e = same old.monitors new.monitors (ap (λ (s : State). s.monitors) e.4)
  effect_keeps setting old new (Does Print) value e = same old.monitors new.monitors (ap (λ (s : State). s.monitors) e)
  effect_keeps setting old new (Does Input) value e = same old.monitors new.monitors (ap (λ (s : State). s.monitors) e.1)
  effect_keeps setting old new (Does (Fail k)) value e = same old.monitors new.monitors (ap (λ (s : State). s.monitors) e.1)
  effect_keeps setting old new (Commit xs) value e = same old.monitors new.monitors (ap (λ (s : State). s.monitors) e)

-- the state behind the first k events, where thread t makes none behind them, with its monitors as later
pub record StateAt (setting : Setting) (old : State) (h : List Stamp) (k t : ℕ) (now : State) : Type 0 where
  pub state : State
  pub run : Run setting old (take k h) state
  pub owns : (o : ℕ) → Owns state t o ↔ Owns now t o

-- after the first k events, which have all of thread t's, t owns the monitors that it owns at the end
pub state_at : (setting : Setting) (old now : State) (h : List Stamp) (k t : ℕ) → Run setting old h now
    → ((p : ℕ) (s : Stamp) → slice_get h p ≡ Some s → s.thread ≡ t → p < k) → StateAt setting old h k t now
unfolding SameOwner
state_at setting old now [] zero t r upto =
    record { state = old; run = refl; owns = λ o. subst (λ (s : State). Owns old t o ↔ Owns s t o) (sym r) (λ w. w, λ w. w) }
state_at setting old now [] (suc k) t r upto =
    record { state = old; run = refl; owns = λ o. subst (λ (s : State). Owns old t o ↔ Owns s t o) (sym r) (λ w. w, λ w. w) }
state_at setting old now (s ∷ h) zero t r upto =
    let rest = state_at setting r.1 now h zero t r.3 (λ p x e own. let n = upto (suc p) x e own in absurd (omega arith)) in
    let step = effect_keeps t s.thread (λ own. let n = upto 0 s refl own in omega arith) setting old r.1 s.event r.0 r.2.effect in
    record {
      state = old;
      run = refl;
      owns = λ o. let a = step o in let b = rest.owns o in let e = rest.run
          in (λ w. b.0 (subst (λ (z : State). Owns z t o) (sym e) (a.0 w)), λ w. a.1 (subst (λ (z : State). Owns z t o) e (b.1 w)));
    }
state_at setting old now (s ∷ h) (suc k) t r upto =
    let rest = state_at setting r.1 now h k t r.3 (λ p x e own. let n = upto (suc p) x e own in omega arith) in
    record { state = rest.state; run = (r.0, r.1, r.2, rest.run); owns = rest.owns }

-- the least owned monitors are the same
pub least_owned : (a b : State) (t : ℕ) (held : List ℕ) → ((o : ℕ) → Owns a t o ↔ Owns b t o) → AreLeastOwned b t held
    → AreLeastOwned a t held
least_owned a b t held same l = record {
  rising = l.rising;
  owned = λ o c. (same o).1 (l.owned o c);
  at_most_four = l.at_most_four;
  least = λ o w. l.least o ((same o).0 w);
}
