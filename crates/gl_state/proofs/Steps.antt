-- Each act, as it changes the list's state, is a step of the machine.
use Rattle.std.proofs.Common.{◌≡◌, ◌≢◌, ℕ, zero, suc, ◌+◌, ◌<◌, ◌==◌, if◌then◌else◌, List, [], ◌∷◌, ◌++◌, length, refl, sym, ap, subst, arith, ◌∙◌, Some, None, Bool, true, false, inl, inr}
use Rattle.std.specs.Prelude.{◌⊎◌, pos, ℤ, slice_index_or, slice_set, slice_get, Option, Contains}
use native.Mathlib.Decide.{ℕ_discrete}
use Rattle.gl_model.specs.declared.event.Act.{Act}
use Rattle.gl_model.specs.declared.event.Act.TheVariants.{Begin, End, Rel, VRead, VWrite, Fork, Join, Alloc, Print, Input, Fail}
use Rattle.gl_model.specs.declared.event.Event.TheVariants.{Act as Does}
use Rattle.gl_model.specs.declared.limits.TheConstants.{THREADS, MONITORS}
use Rattle.gl_model.specs.Machine.{Setting, State, Step, NeverForked, Forked, Running, Ended, Owned, Refuses, not_owner, heap_full, threads_full, input_end, bad_thread, with_at, left_once, Free, Fits, reference}
use Rattle.gl_draws.proofs.DrawTies.{with_here, with_else}
use Rattle.gl_state.specs.declared.state.Stage.{Stage}
use Rattle.gl_state.specs.declared.state.Stage.TheVariants as stage
use Rattle.gl_state.specs.Acts.{is_live, stage_of, word_in, IsLeastNew, HasRoom, reference_in, with_stage, with_word, with_object, with_input, left_as, Leaves}
use Rattle.gl_state.specs.Entering.{monitor_of}
use Rattle.gl_state.specs.ListView.{ListView}
use Rattle.gl_state.specs.States.{IsQuiet, IsStateOf, thread_state, monitor_state}

-- the act of thread t is a step of the machine, by which the list's state becomes l'
abbrev pub IsStep : Setting → ℕ → ListView → Act → ℤ → State → Type 0
IsStep setting t l' act value now = (new : State) × Step setting now (record { thread = t; event = Does act }) value new × IsStateOf l' new

module _ {A : Type 0} where
  -- a list with x set at a place that it has has x there
  set_here : (l : List A) (o : ℕ) (x d : A) → o < length l → slice_index_or (slice_set l o x) o d ≡ x
  set_here [] o x d near = absurd (omega arith)
  set_here (y ∷ l) zero x d near = refl
  set_here (y ∷ l) (suc o) x d near = set_here l o x d (omega arith)

  -- a list with x set at a place has at each other place what it had
  set_else : (l : List A) (o k : ℕ) (x d : A) → k ≢ o → slice_index_or (slice_set l o x) k d ≡ slice_index_or l k d
  set_else [] o k x d ne = refl
  set_else (y ∷ l) zero zero x d ne = absurd (ne refl)
  set_else (y ∷ l) zero (suc k) x d ne = refl
  set_else (y ∷ l) (suc o) zero x d ne = refl
  set_else (y ∷ l) (suc o) (suc k) x d ne = set_else l o k x d (λ e. ne (ap suc e))

  -- a function that stands for a list, each changed at o
  changed : {B : Type 0} (f : A → B) (g : ℕ → B) (l : List A) (o : ℕ) (x d : A) → ((k : ℕ) → g k ≡ f (slice_index_or l k d)) → o < length l
      → (k : ℕ) → with_at g o (f x) k ≡ f (slice_index_or (slice_set l o x) k d)
  changed f g l o x d same near k = elim (ℕ_discrete k o) [
    | yes e ↦ subst (λ z. with_at g o (f x) z ≡ f (slice_index_or (slice_set l o x) z d)) (sym e) (with_here g o (f x)
        ∙ ap f (sym (set_here l o x d near)))
    | no ne ↦ with_else g o k (f x) ne ∙ same k ∙ ap f (sym (set_else l o k x d ne))
  ]

-- setting the stage of a thread in the list's state sets it in the machine's
stage_set : (l : ListView) (now : State) (t : ℕ) (s : Stage) → IsStateOf l now → t < length l.threads
    → IsStateOf (with_stage l t s) (record now { threads = with_at now.threads t (thread_state s) })
stage_set l now t s is near = record {
  threads = changed thread_state now.threads l.threads t s stage.Never is.threads near;
  monitors = is.monitors;
  volatiles = is.volatiles;
  next_object = is.next_object;
  next_variable = is.next_variable;
  next_volatile = is.next_volatile;
  inputs_taken = is.inputs_taken;
}

-- a stage that means never forked is the stage of a thread that was not
never : (s : Stage) → thread_state s ≡ NeverForked → s ≡ stage.Never
never stage.Never e = refl
never (stage.Forked f v) e = absurd (cc)
never stage.Running e = absurd (cc)
never stage.Ended e = absurd (cc)

-- a thread that was forked begins, as a step of the machine
pub begins_step : (setting : Setting) (t : ℕ) (l : ListView) (now : State) (f : ℕ) (value : ℤ) → t < length l.threads → IsStateOf l now
    → stage_of l t ≡ stage.Forked f value → IsStep setting t (with_stage l t stage.Running) (Begin f) value now
begins_step setting t l now f value near is forked = (
  record now { threads = with_at now.threads t Running },
  record { may = is.threads t ∙ ap thread_state forked; effect = refl },
  stage_set
      l now t stage.Running is near,
)

-- a running thread ends, as a step of the machine
pub ends_step : (setting : Setting) (t : ℕ) (l : ListView) (now : State) → t < length l.threads → IsStateOf l now → now.threads t ≡ Running
    → IsStep setting t (with_stage l t stage.Ended) End (pos 0) now
ends_step setting t l now near is runs = (
  record now { threads = with_at now.threads t Ended },
  record { may = runs; effect = refl },
  stage_set l now t stage.Ended is near,
)

-- a running thread forks the least new thread in a function that may be forked, as a step of the machine
pub forks_step : (setting : Setting) (t u f : ℕ) (value : ℤ) (l : ListView) (now : State) → u < length l.threads → IsStateOf l now
    → now.threads t ≡ Running → IsLeastNew l u → Contains setting.forkable f
    → IsStep setting t (with_stage l u (stage.Forked f value)) (Fork u f) value now
forks_step setting t u f value l now near is runs new may = (
  record now { threads = with_at now.threads u (Forked f value) },
  record {
    may = runs;
    effect = (
      (
        new.some,
        new.near,
        is.threads u
            ∙ ap thread_state new.new,
        may,
        λ least w some less e. new.least w some less (never (stage_of l w) (sym (is.threads w) ∙ e)),
      ),
      refl,
    );
  },
  stage_set l now u (stage.Forked f value) is near,
)

-- a monitor that was left is the same in both states
left_state : (t depth : ℕ) → monitor_state (left_as t depth) ≡ left_once t depth
left_state t depth = by (depth == 0)
  where
    by : (b : Bool) → monitor_state (if b then None else Some (t, depth)) ≡ (if b then Free else Owned t depth)
    by true = refl
    by false = refl

-- a running thread leaves a monitor that it owns, as a step of the machine
pub leaves_step : (setting : Setting) (t o : ℕ) (l l' : ListView) (now : State) → now.threads t ≡ Running → IsStateOf l now
    → Leaves t o l l' → IsStep setting t l' (Rel o) (pos 0) now
leaves_step setting t o l l' now runs is leaves =
    let x = left_as t leaves.depth in
    let new : State = record now { monitors = with_at now.monitors o (left_once t leaves.depth) } in
    let same : (k : ℕ) → with_at now.monitors o (left_once t leaves.depth) k
    ≡ monitor_state (slice_index_or (slice_set l.monitors o x) k None) =
    λ k. ap (λ m. with_at now.monitors o m k) (sym (left_state t leaves.depth))
    ∙ changed monitor_state now.monitors l.monitors o x None is.monitors leaves.near k in (
      new,
      record { may = runs; effect = (leaves.depth, (is.monitors o ∙ ap monitor_state leaves.owned), refl) },
      subst (λ z. IsStateOf z new) (sym leaves.is)
          (record {
            threads = is.threads;
            monitors = same;
            volatiles = is.volatiles;
            next_object = is.next_object;
            next_variable = is.next_variable;
            next_volatile = is.next_volatile;
            inputs_taken = is.inputs_taken;
          }),
    )

-- a running thread reads a volatile, as a step of the machine
pub reads_step : (setting : Setting) (t v : ℕ) (l : ListView) (now : State) → now.threads t ≡ Running → IsStateOf l now
    → IsStep setting t l (VRead v) (word_in l v) now
reads_step setting t v l now runs is = (now, record { may = runs; effect = (sym (is.volatiles v), refl) }, is)

-- a running thread writes a volatile that there is, as a step of the machine
pub writes_step : (setting : Setting) (t v : ℕ) (value : ℤ) (l : ListView) (now : State) → v < length l.volatiles → now.threads t ≡ Running
    → IsStateOf l now → IsStep setting t (with_word l v value) (VWrite v) value now
writes_step setting t v value l now near runs is = (
  record now { volatiles = with_at now.volatiles v value },
  record { may = runs; effect = refl },
  record {
    threads = is.threads;
    monitors = is.monitors;
    volatiles = changed (λ z. z) now.volatiles l.volatiles v value (pos 0) is.volatiles near;
    next_object = is.next_object;
    next_variable = is.next_variable;
    next_volatile = is.next_volatile;
    inputs_taken = is.inputs_taken;
  },
)

-- a running thread joins one that has ended, as a step of the machine
pub joins_step : (setting : Setting) (t u : ℕ) (l : ListView) (now : State) → now.threads t ≡ Running → IsStateOf l now → stage_of l u
    ≡ stage.Ended → IsStep setting t l (Join u) (pos 0) now
joins_step setting t u l now runs is ended = (now, record { may = runs; effect = (is.threads u ∙ ap thread_state ended, refl) }, is)

-- what has room in the list's state fits in the machine's
fits_of : (l : ListView) (now : State) (fields : ℕ × ℕ) → IsStateOf l now → HasRoom l fields → Fits now fields
fits_of l now fields is room = record {
  object = subst (λ n. n < MONITORS) (sym is.next_object) room.object;
  variables = (let e = is.next_variable in let r = room.variables in omega arith);
  volatiles = (let e = is.next_volatile in let r = room.volatiles in omega arith);
}

-- what fits in the machine's state has room in the list's
of_fits : (l : ListView) (now : State) (fields : ℕ × ℕ) → IsStateOf l now → Fits now fields → HasRoom l fields
of_fits l now fields is fits = record {
  object = subst (λ n. n < MONITORS) is.next_object fits.object;
  variables = (let e = is.next_variable in let r = fits.variables in omega arith);
  volatiles = (let e = is.next_volatile in let r = fits.volatiles in omega arith);
}

-- the reference of a new object is the same in both states
reference_same : (l : ListView) (now : State) (c : ℕ) → IsStateOf l now → reference_in l c ≡ reference now c
reference_same l now c is = let a = is.next_object in let b = is.next_variable in let d = is.next_volatile in omega arith

-- a running thread makes an object of a class that there is room for, as a step of the machine
pub makes_step : (setting : Setting) (t c : ℕ) (fields : ℕ × ℕ) (l : ListView) (now : State) → now.threads t ≡ Running → IsStateOf l now
    → slice_get setting.classes c ≡ Some fields → HasRoom l fields
    → IsStep setting t (with_object l fields) (Alloc c) (pos (reference_in l c)) now
makes_step setting t c fields l now runs is class room = (
  record now {
    next_object = now.next_object + 1;
    next_variable = now.next_variable + fields.0;
    next_volatile = now.next_volatile + fields.1;
  },
  record { may = runs; effect = (fields, class, fits_of l now fields is room, ap pos (reference_same l now c is), refl) },
  record {
    threads = is.threads;
    monitors = is.monitors;
    volatiles = is.volatiles;
    next_object = ap (λ n. n + 1) is.next_object;
    next_variable = ap (λ n. n + fields.0) is.next_variable;
    next_volatile = ap (λ n. n + fields.1) is.next_volatile;
    inputs_taken = is.inputs_taken;
  },
)

-- a running thread prints, as a step of the machine
pub prints_step : (setting : Setting) (t : ℕ) (value : ℤ) (l : ListView) (now : State) → now.threads t ≡ Running → IsStateOf l now
    → IsStep setting t l Print value now
prints_step setting t value l now runs is = (
  record now { output = now.output ++ value ∷ [] },
  record { may = runs; effect = refl },
  record {
    threads = is.threads;
    monitors = is.monitors;
    volatiles = is.volatiles;
    next_object = is.next_object;
    next_variable = is.next_variable;
    next_volatile = is.next_volatile;
    inputs_taken = is.inputs_taken;
  },
)

-- a running thread takes the next input, as a step of the machine
pub takes_input_step : (setting : Setting) (t : ℕ) (value : ℤ) (l : ListView) (now : State) → now.threads t ≡ Running → IsStateOf l now
    → slice_get setting.inputs l.inputs_taken ≡ Some value → IsStep setting t (with_input l) Input value now
takes_input_step setting t value l now runs is has = (
  record now { inputs_taken = now.inputs_taken + 1 },
  record { may = runs; effect = (ap (slice_get setting.inputs) is.inputs_taken ∙ has, refl) },
  record {
    threads = is.threads;
    monitors = is.monitors;
    volatiles = is.volatiles;
    next_object = is.next_object;
    next_variable = is.next_variable;
    next_volatile = is.next_volatile;
    inputs_taken = ap (λ n. n + 1) is.inputs_taken;
  },
)

-- a running thread fails with what the state refuses, as a step of the machine
fails : (setting : Setting) (t code : ℕ) (value : ℤ) (l : ListView) (now : State) → now.threads t ≡ Running → IsStateOf l now
    → Refuses setting now t code value → IsStep setting t l (Fail code) value now
fails setting t code value l now runs is refuses = (now, record { may = runs; effect = (refuses, refl) }, is)

-- a monitor whose state is owned by a thread to a depth is told as that thread and depth
owned_as : (m : Option (ℕ × ℕ)) (t depth : ℕ) → monitor_state m ≡ Owned t depth → m ≡ Some (t, depth)
owned_as None t depth e = absurd (cc)
owned_as (Some o) t depth e = let a : o.0 ≡ t = cc in let b : o.1 ≡ depth = cc in ap Some (λ i. (a i, b i))

-- of a monitor that the thread does not own
pub not_owner_step : (setting : Setting) (t o : ℕ) (l : ListView) (now : State) → now.threads t ≡ Running → IsStateOf l now → o < MONITORS
    → ((depth : ℕ) → monitor_of l o ≡ Some (t, depth) → ⊥) → IsStep setting t l (Fail 5) (pos o) now
not_owner_step setting t o l now runs is near other =
    fails setting t 5 (pos o) l now runs is (not_owner refl o refl near
    (λ owns. other owns.0 (owned_as (monitor_of l o) t owns.0 (sym (is.monitors o) ∙ owns.1))))

-- of a class whose object does not fit
pub heap_full_step : (setting : Setting) (t c : ℕ) (fields : ℕ × ℕ) (l : ListView) (now : State) → now.threads t ≡ Running
    → IsStateOf l now → slice_get setting.classes c ≡ Some fields → (HasRoom l fields → ⊥) → IsStep setting t l (Fail 6) (pos c) now
heap_full_step setting t c fields l now runs is class full =
    fails setting t 6 (pos c) l now runs is (heap_full refl c refl fields class (λ fits. full (of_fits l now fields is fits)))

-- where the threads but 0 were all forked
pub threads_full_step : (setting : Setting) (t : ℕ) (l : ListView) (now : State) → now.threads t ≡ Running → IsStateOf l now
    → ((w : ℕ) → 0 < w → w < THREADS → stage_of l w ≢ stage.Never) → IsStep setting t l (Fail 7) (pos 0) now
threads_full_step setting t l now runs is full =
    fails setting t 7 (pos 0) l now runs is (threads_full refl
    (λ u some near e. full u some near (never (stage_of l u) (sym (is.threads u) ∙ e))))

-- where all inputs were taken
pub input_end_step : (setting : Setting) (t : ℕ) (l : ListView) (now : State) → now.threads t ≡ Running → IsStateOf l now
    → slice_get setting.inputs l.inputs_taken ≡ None → IsStep setting t l (Fail 8) (pos 0) now
input_end_step setting t l now runs is none =
    fails setting t 8 (pos 0) l now runs is (input_end refl (ap (slice_get setting.inputs) is.inputs_taken ∙ none))

-- of a thread that was never forked
pub bad_thread_step : (setting : Setting) (t u : ℕ) (l : ListView) (now : State) → now.threads t ≡ Running → IsStateOf l now → u < THREADS
    → stage_of l u ≡ stage.Never → IsStep setting t l (Fail 11) (pos u) now
bad_thread_step setting t u l now runs is near new =
    fails setting t 11 (pos u) l now runs is (bad_thread refl u refl near (is.threads u ∙ ap thread_state new))

-- where no thread is live the machine has none
pub none_live : (l : ListView) (now : State) → IsStateOf l now → ((t : ℕ) → is_live (stage_of l t) ≡ false) → IsQuiet now
none_live l now is none t = by (stage_of l t) (none t) (is.threads t)
  where
    by : (s : Stage) → is_live s ≡ false → now.threads t ≡ thread_state s → (now.threads t ≡ NeverForked) ⊎ (now.threads t ≡ Ended)
    by stage.Never e same = inl same
    by stage.Ended e same = inr same
    by stage.Running e same = absurd (cc)
    by (stage.Forked f v) e same = absurd (cc)
