-- What is true of each state that the machine allows: threads begin with main or a function that may be forked, and an owned monitor was
-- entered.
use Rattle.std.proofs.Common.{◌≡◌, ℕ, zero, suc, ◌+◌, ◌<◌, List, [], ◌∷◌, sym, ap, subst, arith, ◌∙◌, inl, inr, ne_eqb}
use Rattle.std.specs.Prelude.{ℤ, pos, Contains, if◌then◌else◌}
use native.Mathlib.Decide.{ℕ_discrete}
use Rattle.gl_model.specs.declared.event.Act.TheVariants.{Begin, End, Acq, Rel, VRead, VWrite, Fork, Join, Alloc, Print, Input, Fail}
use Rattle.gl_model.specs.declared.event.Event.{Event}
use Rattle.gl_model.specs.declared.event.Event.TheVariants.{Act as Does, Commit}
use Rattle.gl_model.specs.declared.event.Stamp.{Stamp}
use Rattle.gl_model.specs.declared.limits.TheConstants.{FUNCTIONS}
use Rattle.gl_model.specs.Machine.{Setting, State, ThreadState, NeverForked, Forked, Running, Ended, MonitorState, Free, Owned, Entered, Effect, Run, start, with_at, left_once}
use Rattle.gl_draws.proofs.DrawTies.{with_here, with_else}
use Rattle.gl_state.specs.declared.state.Stage.TheVariants as stage
use Rattle.gl_state.specs.Acts.{stage_of}
use Rattle.gl_state.specs.ListView.{ListView}
use Rattle.gl_state.specs.States.{thread_state, monitor_state}
use Rattle.std.specs.Prelude.{IfOk}
use Rattle.std.proofs.Common.{Result, Ok, Err}
use Rattle.gl_table.specs.PassView.{PassView, view_of}
use Rattle.gl_table.specs.TableView.{TableView}
use Rattle.gl_model.specs.declared.event.Act.TheVariants as act
use Rattle.gl_events.specs.Answers.{IsDone}
use Rattle.gl_events.specs.declared.done.Done.{Done}
use Rattle.gl_rule.specs.Taken.{StateTold}
use Rattle.gl_rule.specs.View.{View}
use Rattle.gl_table.proofs.Doing.{shallow}
use Rattle.gl_events.specs.Acting.{IsSound, MayStart}

record IsGood (setting : Setting) (s : State) : Type 0 where
  forked : (t f : ℕ) (v : ℤ) → s.threads t ≡ Forked f v → MayStart setting f × (t ≡ 0 → v ≡ pos 0)
  entered : (o u d : ℕ) → s.monitors o ≡ Owned u d → 0 < d

-- two forks that are the same are of the same function and value
forked_same : (f g : ℕ) (v w : ℤ) → Forked f v ≡ Forked g w → (f ≡ g) × (v ≡ w)
forked_same f g v w e = (cc, cc)

-- two ways of being owned that are equal have one depth
owned_depth : (u t d k : ℕ) → Owned u d ≡ Owned t k → d ≡ k
owned_depth u t d k e = cc

-- one thread changed
threads_good : (setting : Setting) (s : State) (g : ℕ) (x : ThreadState) → IsGood setting s
    → ((f : ℕ) (v : ℤ) → x ≡ Forked f v → MayStart setting f × (g ≡ 0 → v ≡ pos 0))
    → (t f : ℕ) (v : ℤ) → with_at s.threads g x t ≡ Forked f v → MayStart setting f × (t ≡ 0 → v ≡ pos 0)
threads_good setting s g x good here t f v is = elim (ℕ_discrete t g) [
  | yes e ↦ let r = here f v (sym (with_here s.threads g x) ∙ subst (λ z. with_at s.threads g x z ≡ Forked f v) e is)
      in (r.0, λ z. r.1 (sym e ∙ z))
  | no ne ↦ good.forked t f v (sym (with_else s.threads g t x ne) ∙ is)
]

-- one monitor changed
monitors_good : (setting : Setting) (s : State) (g : ℕ) (m : MonitorState) → IsGood setting s → ((u d : ℕ) → m ≡ Owned u d → 0 < d)
    → (o u d : ℕ) → with_at s.monitors g m o ≡ Owned u d → 0 < d
monitors_good setting s g m good here o u d is = elim (ℕ_discrete o g) [
  | yes e ↦ here u d (sym (with_here s.monitors g m) ∙ subst (λ z. with_at s.monitors g m z ≡ Owned u d) e is)
  | no ne ↦ good.entered o u d (sym (with_else s.monitors g o m ne) ∙ is)
]

-- a monitor that was entered is owned to a depth above zero
entered_deep : (a : ℕ) (old m : MonitorState) → Entered a old m → (u d : ℕ) → m ≡ Owned u d → 0 < d
entered_deep a Free m e u d is = let k = owned_depth a u 1 d (sym e ∙ is) in omega arith
entered_deep a (Owned w k) m e u d is = let j = owned_depth w u (k + 1) d (ap (λ z. Owned z (k + 1)) e.0 ∙ sym e.1 ∙ is) in omega arith

-- a monitor that was left and is owned still is owned to a depth above zero
left_deep : (a k : ℕ) (u d : ℕ) → left_once a k ≡ Owned u d → 0 < d
left_deep a zero u d is = absurd (cc)
left_deep a (suc k) u d is =
    let z : left_once a (suc k) ≡ Owned a (suc k) =
    ap (λ b. if b then Free else Owned a (suc k)) (ne_eqb (suc k) 0 (λ e. absurd (omega arith))) in
    let j = owned_depth a u (suc k) d (sym z ∙ is) in
    omega arith

-- the effect of an event keeps a good state good
effect_good : (setting : Setting) (s new : State) (a : ℕ) (event : Event) (value : ℤ) → IsGood setting s
    → Effect setting s a event value new → IsGood setting new
effect_good setting s new a (Commit xs) value good e = subst (IsGood setting) (sym e) good
effect_good setting s new a (Does (Begin f)) value good e =
    subst (IsGood setting) (sym e) (record {
      forked = threads_good setting s a Running good (λ f v is. absurd (cc));
      entered = good.entered;
    })
effect_good setting s new a (Does End) value good e =
    subst (IsGood setting) (sym e) (record { forked = threads_good setting s a Ended good (λ f v is. absurd (cc)); entered = good.entered })
effect_good setting s new a (Does (Acq g)) value good e =
    subst (IsGood setting) (sym e.2) (record {
      forked = good.forked;
      entered = monitors_good setting s g e.0 good (entered_deep a (s.monitors g) e.0 e.1);
    })
effect_good setting s new a (Does (Rel g)) value good e =
    subst (IsGood setting) (sym e.2) (record {
      forked = good.forked;
      entered = monitors_good setting s g (left_once a e.0) good (left_deep a e.0);
    })
effect_good setting s new a (Does (VRead v)) value good e = subst (IsGood setting) (sym e.1) good
effect_good setting s new a (Does (VWrite v)) value good e =
    subst (IsGood setting) (sym e) (record { forked = good.forked; entered = good.entered })
effect_good setting s new a (Does (Fork u f)) value good e = subst (IsGood setting) (sym e.1)
    (record {
      forked = threads_good setting s u (Forked f value) good
          (λ g w is. (subst (MayStart setting) (forked_same f g value w is).0 (inr e.0.3), λ z. absurd (let some = e.0.0 in omega arith)));
      entered = good.entered;
    })
effect_good setting s new a (Does (Join u)) value good e = subst (IsGood setting) (sym e.1) good
effect_good setting s new a (Does (Alloc c)) value good e =
    subst (IsGood setting) (sym e.4) (record { forked = good.forked; entered = good.entered })
effect_good setting s new a (Does Print) value good e =
    subst (IsGood setting) (sym e) (record { forked = good.forked; entered = good.entered })
effect_good setting s new a (Does Input) value good e =
    subst (IsGood setting) (sym e.1) (record { forked = good.forked; entered = good.entered })
effect_good setting s new a (Does (Fail k)) value good e = subst (IsGood setting) (sym e.1) good

-- a run keeps a good state good
run_good : (setting : Setting) (s now : State) (log : List Stamp) → IsGood setting s → Run setting s log now → IsGood setting now
run_good setting s now [] good run = subst (IsGood setting) (sym run) good
run_good setting s now (x ∷ log) good run =
    run_good setting run.1 now log (effect_good setting s run.1 x.thread x.event run.0 good run.2.effect) run.3

-- the first state is good
start_good : (setting : Setting) → IsGood setting (start setting)
start_good setting = record {
  forked = λ t f v is. elim (ℕ_discrete t 0) [
    | yes e ↦ let r = forked_same setting.main f (pos 0) v (sym (with_here (λ _. NeverForked) 0 (Forked setting.main (pos 0)))
        ∙ subst (λ z. (start setting).threads z ≡ Forked f v) e is) in (inl (sym r.0), λ _. sym r.1)
    | no ne ↦ absurd (let z : NeverForked ≡ Forked f v = sym (with_else (λ _. NeverForked) 0 t (Forked setting.main (pos 0)) ne) ∙ is in cc)
  ];
  entered = λ o u d is. absurd (cc);
}

-- the state that a pass was told of is good
state_good : (setting : Setting) (v : View) (l : ListView) → (told : StateTold setting v l) → IsGood setting told.now
state_good setting v l told = run_good setting (start setting) told.now told.log (start_good setting) told.allowed

-- a thread that was forked begins with main or with a function that may be forked
pub starts_with : (setting : Setting) (v : View) (l : ListView) (t f : ℕ) (value : ℤ) → StateTold setting v l → stage_of l t
    ≡ stage.Forked f value → MayStart setting f
starts_with setting v l t f value told is = ((state_good setting v l told).forked t f value (told.is.threads t ∙ ap thread_state is)).0

-- a list that a pass was told of is sound, if functions that a thread may start with are ones that there are
pub sound : (setting : Setting) (v : View) (l : ListView) (t : ℕ) → StateTold setting v l → ((f : ℕ) → MayStart setting f → f < FUNCTIONS)
    → IsSound setting t l
sound setting v l t told near =
    let good = state_good setting v l told in record {
      forked = λ f value is. let r = good.forked t f value (told.is.threads t ∙ ap thread_state is) in (near f r.0, r.1);
      entered = λ o m is. good.entered o m.0 m.1 (told.is.monitors o ∙ ap monitor_state is);
      shallow = λ o. shallow setting v l o told;
    }

-- main and the functions that may be forked are ones that there are
pub start_near : (setting : Setting) (main : ℕ) → main ≡ setting.main → main < FUNCTIONS
    → ((f : ℕ) → Contains setting.forkable f → f < FUNCTIONS) → (f : ℕ) → MayStart setting f → f < FUNCTIONS
start_near setting main is near forkable f (inl e) = subst (λ n. n < FUNCTIONS) (is ∙ sym e) near
start_near setting main is near forkable f (inr has) = forkable f has

-- what begins with main or a function that may be forked
pub done_starts : (z : TableView) (p q : PassView) (d : Done) → IsDone z p q (act.Begin d.func) d.value d → MayStart z.key.setting d.func
done_starts z p q d is = starts_with z.key.setting (view_of p) is.state p.own.id d.func d.value is.looked.told is.may.1

module _ {A E : Type 0} where
  -- what follows from what holds of a good result holds of it
  pub ok_map : (P Q : A → Type 0) → ((x : A) → P x → Q x) → (r : Result A E) → IfOk r P → IfOk r Q
  ok_map P Q f (Ok x) h = f x h
  ok_map P Q f (Err e) h = h
