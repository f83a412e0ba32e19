-- An act that the state allows: it is a step of the machine, and its entry has the form of one.
use Rattle.std.proofs.Common.{◌≡◌, ℕ, ◌+◌, ◌-◌, ◌<◌, sym, ap, subst, arith, ◌∙◌, Some, inl, inr}
use Rattle.std.specs.Prelude.{pos, ℤ}
use Rattle.gl_model.specs.declared.event.Act.{Act}
use Rattle.gl_model.specs.declared.event.Act.TheVariants.{Begin, End, Acq, Rel, VRead, VWrite, Fork, Join, Alloc, Print, Input, Fail}
use Rattle.gl_model.specs.Elements.{IsActInRange}
use Rattle.gl_model.specs.Entries.{Sync}
use Rattle.gl_model.specs.Form.{EntryForm, HasNoValue}
use Rattle.gl_model.specs.Machine.{Setting, State, Running}
use Rattle.gl_state.proofs.Entering.{enters_step}
use Rattle.gl_state.proofs.Steps.{IsStep, begins_step, ends_step, leaves_step, reads_step, writes_step, forks_step, joins_step, makes_step, prints_step, takes_input_step, not_owner_step, heap_full_step, threads_full_step, input_end_step, bad_thread_step}
use Rattle.gl_state.specs.Entering.{monitor_of}
use Rattle.gl_state.specs.ListView.{ListView}
use Rattle.gl_state.specs.States.{IsStateOf}
use Rattle.gl_events.specs.Acting.{MayAct, MayFail, Becomes}

-- the ids in the act are ones that there are
pub in_range : (setting : Setting) (t : ℕ) (l : ListView) (act : Act) (value : ℤ) → MayAct setting t l act value → IsActInRange act
in_range setting t l (Begin f) value may = may.0
in_range setting t l End value may = tt
in_range setting t l (Acq o) value may = may.0
in_range setting t l (Rel o) value may = may.0
in_range setting t l (VRead v) value may = may.0
in_range setting t l (VWrite v) value may = may
in_range setting t l (Fork u f) value may = (may.1.near, may.0)
in_range setting t l (Join u) value may = may.0
in_range setting t l (Alloc c) value may = may.0
in_range setting t l Print value may = tt
in_range setting t l Input value may = tt
in_range setting t l (Fail k) value may = tt

-- an act that failed has value zero, if its code is one that has no value
fail_form : (setting : Setting) (t : ℕ) (l : ListView) (k : ℕ) (value : ℤ) → MayFail setting t l k value → HasNoValue t (Fail k) → value
    ≡ pos 0
fail_form setting t l k value (inl m) h = absurd (h.0 m.0)
fail_form setting t l k value (inr (inl m)) h = absurd (h.1 m.0)
fail_form setting t l k value (inr (inr (inl m))) h = m.1
fail_form setting t l k value (inr (inr (inr (inl m)))) h = m.1
fail_form setting t l k value (inr (inr (inr (inr m)))) h = absurd (h.2 m.0)

-- an act that may be done makes an entry of the form that its thread's list has
pub form : (setting : Setting) (t : ℕ) (l : ListView) (act : Act) (value : ℤ) (n : ℕ) → MayAct setting t l act value
    → EntryForm t (Sync n act value)
form setting t l (Begin f) value n may = may.2
form setting t l End value n may = λ _. may
form setting t l (Acq o) value n may = λ _. may.1
form setting t l (Rel o) value n may = λ _. may.1
form setting t l (VRead v) value n may = λ h. absurd h
form setting t l (VWrite v) value n may = λ h. absurd h
form setting t l (Fork u f) value n may = λ h. absurd h
form setting t l (Join u) value n may = λ _. may.1
form setting t l (Alloc c) value n may = λ h. absurd h
form setting t l Print value n may = λ h. absurd h
form setting t l Input value n may = λ h. absurd h
form setting t l (Fail k) value n may = fail_form setting t l k value may

-- an act that may fail is a step of the machine
fails_step : (setting : Setting) (t : ℕ) (l : ListView) (now : State) (k : ℕ) (value : ℤ) → now.threads t ≡ Running → IsStateOf l now
    → MayFail setting t l k value → IsStep setting t l (Fail k) value now
fails_step setting t l now k value runs is (inl m) =
    subst (λ j. IsStep setting t l (Fail j) value now) (sym m.0)
    (subst (λ (v : ℤ). IsStep setting t l (Fail 5) v now) (sym m.1.1) (not_owner_step setting t m.1.0 l now runs is m.1.2 m.1.3))
fails_step setting t l now k value runs is (inr (inl m)) =
    subst (λ j. IsStep setting t l (Fail j) value now) (sym m.0)
    (subst (λ (v : ℤ). IsStep setting t l (Fail 6) v now) (sym m.1.1)
    (heap_full_step setting t m.1.0 m.1.2.0 l now runs is m.1.2.1 m.1.2.2))
fails_step setting t l now k value runs is (inr (inr (inl m))) =
    subst (λ j. IsStep setting t l (Fail j) value now) (sym m.0)
    (subst (λ (v : ℤ). IsStep setting t l (Fail 7) v now) (sym m.1) (threads_full_step setting t l now runs is m.2))
fails_step setting t l now k value runs is (inr (inr (inr (inl m)))) =
    subst (λ j. IsStep setting t l (Fail j) value now) (sym m.0)
    (subst (λ (v : ℤ). IsStep setting t l (Fail 8) v now) (sym m.1) (input_end_step setting t l now runs is m.2))
fails_step setting t l now k value runs is (inr (inr (inr (inr m)))) =
    subst (λ j. IsStep setting t l (Fail j) value now) (sym m.0)
    (subst (λ (v : ℤ). IsStep setting t l (Fail 11) v now) (sym m.1.1) (bad_thread_step setting t m.1.0 l now runs is m.1.2 m.1.3))

-- the thread runs, but where the act is its first
abbrev pub Runs : ℕ → Act → State → Type 0
Runs t (Begin f) now = Unit {0}
Runs t End now = now.threads t ≡ Running
Runs t (Acq o) now = now.threads t ≡ Running
Runs t (Rel o) now = now.threads t ≡ Running
Runs t (VRead v) now = now.threads t ≡ Running
Runs t (VWrite v) now = now.threads t ≡ Running
Runs t (Fork u f) now = now.threads t ≡ Running
Runs t (Join u) now = now.threads t ≡ Running
Runs t (Alloc c) now = now.threads t ≡ Running
Runs t Print now = now.threads t ≡ Running
Runs t Input now = now.threads t ≡ Running
Runs t (Fail k) now = now.threads t ≡ Running

-- a thread that runs may do any act
pub runs_at : (t : ℕ) (act : Act) (now : State) → now.threads t ≡ Running → Runs t act now
runs_at t (Begin f) now runs = tt
runs_at t End now runs = runs
runs_at t (Acq o) now runs = runs
runs_at t (Rel o) now runs = runs
runs_at t (VRead v) now runs = runs
runs_at t (VWrite v) now runs = runs
runs_at t (Fork u f) now runs = runs
runs_at t (Join u) now runs = runs
runs_at t (Alloc c) now runs = runs
runs_at t Print now runs = runs
runs_at t Input now runs = runs
runs_at t (Fail k) now runs = runs

-- where the value of the entry is known to be 0
of_zero : (setting : Setting) (t : ℕ) (l' : ListView) (act : Act) (value : ℤ) (now : State) → value ≡ pos 0
    → IsStep setting t l' act (pos 0) now → IsStep setting t l' act value now
of_zero setting t l' act value now e step = subst (λ (v : ℤ). IsStep setting t l' act v now) (sym e) step

-- the act is a step of the machine
pub acts_step : (setting : Setting) (t : ℕ) (act : Act) (value : ℤ) (l l' : ListView) (now : State) → MayAct setting t l act value
    → Becomes setting t act value l l' → Runs t act now → IsStateOf l now → IsStep setting t l' act value now
acts_step setting t (Begin f) value l l' now may to runs is =
    subst (λ (z : ListView). IsStep setting t z (Begin f) value now) (sym to.1) (begins_step setting t l now f value to.0 is may.1)
acts_step setting t End value l l' now may to runs is =
    subst (λ (z : ListView). IsStep setting t z End value now) (sym to.1)
    (of_zero setting t (Rattle.gl_state.specs.Acts.with_stage l t Rattle.gl_state.specs.declared.state.Stage.TheVariants.Ended) End value
    now
    may (ends_step setting t l now to.0 is runs))
acts_step setting t (Acq o) value l l' now may to runs is =
    of_zero setting t l' (Acq o) value now may.1 (enters_step setting t o l l' now runs is to)
acts_step setting t (Rel o) value l l' now may to runs is =
    of_zero setting t l' (Rel o) value now may.1 (leaves_step setting t o l l' now runs is to)
acts_step setting t (VRead v) value l l' now may to runs is =
    subst (λ (z : ListView). IsStep setting t z (VRead v) value now) (sym to)
    (subst (λ (w : ℤ). IsStep setting t l (VRead v) w now) (sym may.1) (reads_step setting t v l now runs is))
acts_step setting t (VWrite v) value l l' now may to runs is =
    subst (λ (z : ListView). IsStep setting t z (VWrite v) value now) (sym to.1) (writes_step setting t v value l now to.0 runs is)
acts_step setting t (Fork u f) value l l' now may to runs is =
    subst (λ (z : ListView). IsStep setting t z (Fork u f) value now) (sym to.1)
    (forks_step setting t u f value l now to.0 is runs may.1 may.2)
acts_step setting t (Join u) value l l' now may to runs is =
    subst (λ (z : ListView). IsStep setting t z (Join u) value now) (sym to)
    (of_zero setting t l (Join u) value now may.1 (joins_step setting t u l now runs is may.2))
acts_step setting t (Alloc c) value l l' now may to runs is =
    let fields = may.1.0 in
    let same : fields ≡ to.0 = some_same fields to.0 (sym may.1.1 ∙ to.1) in
    let step = makes_step setting t c fields l now runs is may.1.1 may.1.2 in
    subst (λ (z : ListView). IsStep setting t z (Alloc c) value now) (ap (λ (n : ℕ × ℕ). Rattle.gl_state.specs.Acts.with_object l n) same
    ∙ sym to.2) (subst (λ (v : ℤ). IsStep setting t (Rattle.gl_state.specs.Acts.with_object l fields) (Alloc c) v now) (sym may.1.3) step)
  where
    some_same : (a b : ℕ × ℕ) → Some a ≡ Some b → a ≡ b
    some_same a b e = cc
acts_step setting t Print value l l' now may to runs is =
    subst (λ (z : ListView). IsStep setting t z Print value now) (sym to) (prints_step setting t value l now runs is)
acts_step setting t Input value l l' now may to runs is =
    subst (λ (z : ListView). IsStep setting t z Input value now) (sym to) (takes_input_step setting t value l now runs is may)
acts_step setting t (Fail k) value l l' now may to runs is =
    subst (λ (z : ListView). IsStep setting t z (Fail k) value now) (sym to) (fails_step setting t l now k value runs is may)

-- a monitor that the thread entered may be left
pub may_leave : (l : ListView) (t o owner depth : ℕ) → monitor_of l o ≡ Some (owner, depth) → owner ≡ t → 0 < depth → (d : ℕ)
    × (monitor_of l o ≡ Some (t, d + 1))
may_leave l t o owner depth is same some = let e : depth ≡ (depth - 1) + 1 = omega arith
    in (depth - 1, is ∙ ap (λ n. Some (n, depth)) same ∙ ap (λ n. Some (t, n)) e)

-- a thread that owns a monitor may leave it
pub may_rel : (setting : Setting) (t : ℕ) (l : ListView) (o : ℕ) (a : Act) (value : ℤ) → a ≡ Rel o → value ≡ pos 0
    → o < Rattle.gl_model.specs.declared.limits.TheConstants.MONITORS → ((d : ℕ) × (monitor_of l o ≡ Some (t, d + 1)))
    → MayAct setting t l a value
may_rel setting t l o a value is zero near owned = subst (λ (z : Act). MayAct setting t l z value) (sym is) (near, zero, owned)
