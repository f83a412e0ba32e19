-- What a thread does to the coded state is a step of the machine, and what it is refused is refused there.
use Rattle.std.proofs.Common.{◌≡◌, ℕ, zero, suc, ◌+◌, ◌-◌, ◌<◌, ◌≤◌, ◌==◌, Bool, true, false, List, ◌∷◌, length, refl, sym, ap, subst, arith, ◌∙◌, inl, inr, Some, None, Option, cond}
use Rattle.std.specs.Prelude.{ℤ, pos, Contains, MatchBool, nat_eq, slice_get, option_map, filter}
use Rattle.std.specs.List.{range_with_len}
use Rattle.std.proofs.lemmas.Bool.Decides.{nat_tests}
use Rattle.std.proofs.lemmas.List.Elements.{All-contains, filter_passes}
use Rattle.std.proofs.lemmas.Option.{slice_get_cases, slice_get-map}
use native.Mathlib.Decide.{ℕ_discrete}
use Rattle.gl_bytecode.specs.Instructions.{args_of}
use Rattle.gl_bytecode.specs.Lawful.{forkable_of, setting_of}
use Rattle.gl_bytecode.specs.Programs.{Bytecode, Function, function_at}
use Rattle.gl_bytecode.specs.declared.object.Fields.{Fields}
use Rattle.gl_model.specs.declared.event.Act.{Act}
use Rattle.gl_model.specs.declared.event.Act.TheVariants.{Begin, Acq, Rel, Alloc, Print, Fail}
use Rattle.gl_model.specs.declared.event.Event.TheVariants.{Act as Does, Commit as Commits}
use Rattle.gl_model.specs.declared.event.Stamp.{Stamp}
use Rattle.gl_model.specs.Entries.{Entry, Sync, Commit}
use Rattle.gl_model.specs.Form.{value_of}
use Rattle.gl_model.specs.declared.tx.Tx.{Tx}
use Rattle.gl_model.specs.Records.{event_of, variables_of}
use Rattle.gl_model.specs.Machine.{Setting, State, Running, Owned, Refuses, not_owner, heap_full, threads_full, input_end, bad_thread, NeverForked}
use Rattle.gl_state.proofs.Entering.{enters_step}
use Rattle.gl_state.proofs.Steps.{begins_step, leaves_step, makes_step, prints_step}
use Rattle.gl_state.specs.declared.state.Stage.{Stage}
use Rattle.gl_state.specs.declared.state.Stage.TheVariants as stage
use Rattle.gl_state.specs.Acts.{HasRoom, Leaves, reference_in, stage_of, with_object, with_stage}
use Rattle.gl_state.specs.Entering.{Enters, monitor_of}
use Rattle.gl_state.specs.ListView.{ListView}
use Rattle.gl_state.specs.States.{IsStateOf, monitor_state, thread_state}
use Rattle.gl_acts.specs.Applying.{act_by, Applies, IsStepFrom}
use Rattle.gl_acts.specs.Refusing.{IsFull, IsNotOwner, IsUnforked}

-- a thread that was forked with this function and argument begins
pub begun : (setting : Setting) (t func : ℕ) (argument value : ℤ) (act : Act) (l l' : ListView) → t < length l.threads
    → stage_of l t ≡ stage.Forked func argument
    → act ≡ Begin func → argument ≡ value → l' ≡ with_stage l t stage.Running → IsStepFrom setting (act_by t act) value l l'
begun setting t func argument value act l l' near forked begins same becomes =
    subst (λ (a : Act). IsStepFrom setting (act_by t a) value l l') (sym begins)
    (subst (λ (z : ListView). IsStepFrom setting (act_by t (Begin func)) value l z) (sym becomes)
    (subst (λ (v : ℤ). IsStepFrom setting (act_by t (Begin func)) v l (with_stage l t stage.Running)) same
    (λ now is. begins_step setting t l now func argument near is forked)))

-- a monitor was entered this often
pub owned_as : (m : Option (ℕ × ℕ)) (t depth : ℕ) → monitor_state m ≡ Owned t depth → m ≡ Some (t, depth)
owned_as None t depth e = absurd (cc)
owned_as (Some o) t depth e = let a : o.0 ≡ t = cc in let b : o.1 ≡ depth = cc in ap Some (λ i. (a i, b i))

-- a stage that means never forked is the stage of a thread that was not
never : (s : Stage) → thread_state s ≡ NeverForked → s ≡ stage.Never
never stage.Never e = refl
never (stage.Forked f v) e = absurd (cc)
never stage.Running e = absurd (cc)
never stage.Ended e = absurd (cc)

-- what a thread that runs does
module _ (setting : Setting) (t : ℕ) (value : ℤ) (l : ListView) (runs : stage_of l t ≡ stage.Running) where
  -- in each state that is coded so, the thread runs
  running : (now : State) → IsStateOf l now → now.threads t ≡ Running
  running now is = is.threads t ∙ ap thread_state runs

  -- where the thread enters the monitor in the coded state, acquiring it is a step of the machine
  pub acquired : (o : ℕ) (l' : ListView) → Enters t o l l' → IsStepFrom setting (act_by t (Acq o)) value l l'
  acquired o l' enters now is =
      let step = enters_step setting t o l l' now (running now is) is enters in
      (step.0, record { may = step.1.may; effect = step.1.effect }, step.2)

  -- where it leaves the monitor there, releasing it is one
  pub released : (o : ℕ) (l' : ListView) → Leaves t o l l' → IsStepFrom setting (act_by t (Rel o)) value l l'
  released o l' leaves now is =
      let step = leaves_step setting t o l l' now (running now is) is leaves in
      (step.0, record { may = step.1.may; effect = step.1.effect }, step.2)

  -- where an object of the class has room, allocating it is one, with its reference as the value
  pub made : (c : ℕ) (fields : ℕ × ℕ) (l' : ListView) → slice_get setting.classes c ≡ Some fields → HasRoom l fields
      → pos (reference_in l c) ≡ value
      → l' ≡ with_object l fields → IsStepFrom setting (act_by t (Alloc c)) value l l'
  made c fields l' class room same becomes =
      subst (λ (z : ListView). IsStepFrom setting (act_by t (Alloc c)) value l z) (sym becomes)
      (subst (λ (v : ℤ). IsStepFrom setting (act_by t (Alloc c)) v l (with_object l fields)) same
      (λ now is. makes_step setting t c fields l now (running now is) is class room))

  -- a print is one, and leaves the coded state
  pub printed : IsStepFrom setting (act_by t Print) value l l
  printed now is = prints_step setting t value l now (running now is) is

  -- of a monitor that the thread is not in
  outside : (now : State) → IsStateOf l now → Refuses setting now t 5 value → IsNotOwner l t value
  outside now is (not_owner code o named near not_in) = (
    o,
    named,
    near,
    λ depth owned. not_in
        (depth, is.monitors o ∙ ap monitor_state owned),
  )
  outside now is (heap_full code c named fields class full) = absurd (omega arith)
  outside now is (threads_full code full) = absurd (omega arith)
  outside now is (input_end code end) = absurd (omega arith)
  outside now is (bad_thread code u named near new) = absurd (omega arith)

  -- of a class whose object does not fit
  full_there : (now : State) → IsStateOf l now → Refuses setting now t 6 value → IsFull setting l value
  full_there now is (not_owner code o named near not_in) = absurd (omega arith)
  full_there now is (heap_full code c named fields class full) = (
    c,
    named,
    (
      fields,
      class,
      λ room. full (record {
        object = subst (λ n. n < Rattle.gl_model.specs.declared.limits.TheConstants.MONITORS) (sym is.next_object) room.object;
        variables = (let e = is.next_variable in let r = room.variables in omega arith);
        volatiles = (let e = is.next_volatile in let r = room.volatiles in omega arith);
      }),
    ),
  )
  full_there now is (threads_full code full) = absurd (omega arith)
  full_there now is (input_end code end) = absurd (omega arith)
  full_there now is (bad_thread code u named near new) = absurd (omega arith)

  -- of a thread that was never forked
  unforked_there : (now : State) → IsStateOf l now → Refuses setting now t 11 value → IsUnforked l value
  unforked_there now is (not_owner code o named near not_in) = absurd (omega arith)
  unforked_there now is (heap_full code c named fields class full) = absurd (omega arith)
  unforked_there now is (threads_full code full) = absurd (omega arith)
  unforked_there now is (input_end code end) = absurd (omega arith)
  unforked_there now is (bad_thread code u named near new) = (u, named, near, never (stage_of l u) (sym (is.threads u) ∙ new))

  -- where the answer tells whether the coded state refuses, it tells whether the machine does
  told : (code : ℕ) (Q : Type 0) (b : Bool) → (Q → (now : State) → IsStateOf l now → Refuses setting now t code value)
      → ((now : State) → IsStateOf l now → Refuses setting now t code value → Q)
      → MatchBool b Q (Q → ⊥) → Applies setting (act_by t (Fail code)) value l l b
  told code Q true refuses back holds = λ now is. (now, record { may = running now is; effect = (refuses holds now is, refl) }, is)
  told code Q false refuses back fails = ((λ now next is step. fails (back now is step.effect.0)), refl)

  -- an answer that tells whether the value is a monitor that the thread is
  -- not in tells whether a Fail with the code 5 and that value is a step
  pub fails_as_not_owner : (code : ℕ) (b : Bool) → code ≡ 5 → MatchBool b (IsNotOwner l t value) (IsNotOwner l t value → ⊥)
      → Applies setting (act_by t (Fail code)) value l l b
  fails_as_not_owner code b is_code answer =
      subst (λ n. Applies setting (act_by t (Fail n)) value l l b) (sym is_code)
      (told 5 (IsNotOwner l t value) b
      (λ q now is. not_owner refl q.0 q.1 q.2 (λ owns. q.3 owns.0 (owned_as (monitor_of l q.0) t owns.0 (sym (is.monitors q.0) ∙ owns.1))))
      outside answer)

  -- one that tells whether the value is a class whose next object does not fit tells whether a Fail with the code 6 is a step
  pub fails_as_full : (code : ℕ) (b : Bool) → code ≡ 6 → MatchBool b (IsFull setting l value) (IsFull setting l value → ⊥)
      → Applies setting (act_by t (Fail code)) value l l b
  fails_as_full code b is_code answer =
      subst (λ n. Applies setting (act_by t (Fail n)) value l l b) (sym is_code)
      (told 6 (IsFull setting l value) b
      (λ q now is. heap_full refl q.0 q.1 q.2.0 q.2.1 (λ fits. q.2.2 (record {
        object = subst (λ n. n < Rattle.gl_model.specs.declared.limits.TheConstants.MONITORS) is.next_object fits.object;
        variables = (let e = is.next_variable in let r = fits.variables in omega arith);
        volatiles = (let e = is.next_volatile in let r = fits.volatiles in omega arith);
      })))
      full_there answer)

  -- one that tells whether the value is a thread that was never forked tells whether a Fail with the code 11 is a step
  pub fails_as_unforked : (code : ℕ) (b : Bool) → code ≡ 11 → MatchBool b (IsUnforked l value) (IsUnforked l value → ⊥)
      → Applies setting (act_by t (Fail code)) value l l b
  fails_as_unforked code b is_code answer =
      subst (λ n. Applies setting (act_by t (Fail n)) value l l b) (sym is_code)
      (told 11 (IsUnforked l value) b (λ q now is. bad_thread refl q.0 q.1 q.2 (is.threads q.0 ∙ ap thread_state q.3)) unforked_there
      answer)

-- the machine is set up with the classes of the program
pub class_in : (P : Bytecode) (inputs : List ℤ) (c : ℕ) (o : Option (ℕ × ℕ)) (fields : ℕ × ℕ)
    → o ≡ option_map (λ (F : Fields). (F.plain, F.volatile)) (slice_get P.classes c) → o ≡ Some fields
    → slice_get (setting_of P inputs).classes c ≡ Some fields
class_in P inputs c o fields same is = slice_get-map (λ (F : Fields). (F.plain, F.volatile)) P.classes c ∙ sym same ∙ is

-- a number from a to below a + n that passes the test is among the range's that do
in_range : (p : ℕ → Bool) (a n f : ℕ) → a ≤ f → f < a + n → p f ≡ true → Contains (filter p (range_with_len a n)) f
in_range p a zero f low high is = absurd (omega arith)
in_range p a (suc n) f low high is = elim (ℕ_discrete a f) [
  | yes same ↦ (let here : p a ≡ true = (rw same is) in rw here (0, omega arith, same))
  | no other ↦ by_test (p a) (in_range p (a + 1) n f (omega (arith, other)) (omega arith) is)
] where
  by_test : (b : Bool) → Contains (filter p (range_with_len (a + 1) n)) f
      → Contains (cond b (a ∷ filter p (range_with_len (a + 1) n)) (filter p (range_with_len (a + 1) n))) f
  by_test true there = (suc there.0, (let less = there.1 in omega arith), there.2)
  by_test false there = there

-- a function of one argument that a program has stands below its number of functions
function_below : (P : Bytecode) (f : ℕ) (o : Option Function) → function_at P f ≡ o → (args_of o == 1) ≡ true → f < length P.functions
function_below P f None there one = absurd (cc)
function_below P f (Some F) there one = elim ((slice_get_cases P.functions f).1)
    [ inl in' ↦ in'.1 | inr out ↦ absurd (let none = out.1 in cc) ]

-- the functions of one argument are those that a thread may be forked with
pub forkable : (P : Bytecode) (f n : ℕ) → n ≡ args_of (function_at P f)
    → MatchBool (nat_eq n 1) (Contains (forkable_of P) f) (Contains (forkable_of P) f → ⊥)
forkable P f n is = by (args_of (function_at P f) == 1) refl (ap (λ k. k == 1) is)
  where
    by : (b : Bool) → (args_of (function_at P f) == 1) ≡ b → (n == 1) ≡ (args_of (function_at P f) == 1)
        → MatchBool (n == 1) (Contains (forkable_of P) f) (Contains (forkable_of P) f → ⊥)
    by true one same = subst (λ b. MatchBool b (Contains (forkable_of P) f) (Contains (forkable_of P) f → ⊥)) (sym (same ∙ one))
        (in_range (λ g. args_of (function_at P g) == 1) 0 (length P.functions) f (omega arith)
        (let less = function_below P f (function_at P f) refl one in omega arith) one)
    by false one same = subst (λ b. MatchBool b (Contains (forkable_of P) f) (Contains (forkable_of P) f → ⊥)) (sym (same ∙ one))
        (λ in'. let yes' : (args_of (function_at P f) == 1) ≡ true = All-contains (λ x. (args_of (function_at P x) == 1) ≡ true)
        (forkable_of P) f (filter_passes (λ g. args_of (function_at P g) == 1) (range_with_len 0 (length P.functions))) in' in absurd
        (cc))

-- the depth to which a monitor is owned, zero where nobody owns it
abbrev depth_in : Option (ℕ × ℕ) → ℕ
depth_in None = 0
depth_in (Some m) = m.1

-- the thread has entered the monitor exactly where it owns it with a depth above 0
pub entered_where : (t o depth : ℕ) (l : ListView) → monitor_of l o ≡ Some (t, depth) → (b : Bool)
    → Rattle.std.specs.Prelude.nat_lt 0 depth ≡ b
    → MatchBool b ((d : ℕ) × (monitor_of l o ≡ Some (t, d + 1))) (((d : ℕ) × (monitor_of l o ≡ Some (t, d + 1))) → ⊥)
entered_where t o depth l is true test =
    let some : 0 < depth = grind (arith, nat_tests) in
    let e : depth ≡ (depth - 1) + 1 = omega arith in
    (depth - 1, is ∙ ap (λ n. Some (t, n)) e)
entered_where t o depth l is false test = λ held.
    let none : depth ≡ 0 = grind (arith, nat_tests) in
    let d : ℕ = held.0 in
    let same : depth ≡ d + 1 = ap depth_in (sym is ∙ held.1) in
    omega arith

-- the act that an entry has is the one that was applied
module _ (setting : Setting) (t : ℕ) (l l' : ListView) (b : Bool) where
  -- what is told of an act is told of one that is equal to it
  pub of_act : (value : ℤ) (act known : Act) → act ≡ known → Applies setting (act_by t known) value l l' b
      → Applies setting (act_by t act) value l l' b
  of_act value act known is applies = subst (λ (a : Act). Applies setting (act_by t a) value l l' b) (sym is) applies

  -- what is told of the act and the value of an entry is told of the event that the entry has
  pub of_entry : (e : Entry) (at : ℕ) (act : Act) (value : ℤ) → e ≡ Sync at act value → Applies setting (act_by t act) value l l' b
      → (s : Stamp) → s.thread ≡ t → event_of e ≡ Some s.event → Applies setting s (value_of e) l l' b
  of_entry e at act value is applies s own event =
      let told : Some (Does act) ≡ Some s.event = sym (ap event_of is) ∙ event in
      let same : Does act ≡ s.event = cc in
      let stamp : act_by t act ≡ s = λ i. record { thread = sym own i; event = same i } in
      subst (λ (z : Stamp). Applies setting z (value_of e) l l' b) stamp
      (subst (λ (z : Entry). Applies setting (act_by t act) (value_of z) l l' b) (sym is) applies)

  -- so is what is told of a commit on any variables, where the entry is a commit
  pub of_commit : (e : Entry) (at : ℕ) (tx : Tx) → e ≡ Commit at tx
      → ((xs : List ℕ) → Applies setting (record { thread = t; event = Commits xs }) (pos 0) l l' b)
      → (s : Stamp) → s.thread ≡ t → event_of e ≡ Some s.event → Applies setting s (value_of e) l l' b
  of_commit e at tx is applies s own event =
      let xs : List ℕ = variables_of tx in
      let told : Some (Commits xs) ≡ Some s.event = sym (ap event_of is) ∙ event in
      let same : Commits xs ≡ s.event = cc in
      let first : Stamp = record { thread = t; event = Commits xs } in
      let stamp : first ≡ s = λ i. record { thread = sym own i; event = same i } in
      subst (λ (z : Stamp). Applies setting z (value_of e) l l' b) stamp
      (subst (λ (z : Entry). Applies setting first (value_of z) l l' b) (sym is) (applies xs))
