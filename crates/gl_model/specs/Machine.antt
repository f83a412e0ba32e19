-- The one-memory machine, in its synchronization part: no plain access and no data word. It is this project's own: what the bytecode's
-- threads may do to what they share, one event after another.
use Rattle.std.specs.Prelude.{◌≡◌, ◌≢◌, ℕ, ℤ, Bool, true, false, pos, ◌+◌, ◌*◌, ◌^◌, ◌<◌, ◌≤◌, ◌==◌, if◌then◌else◌, List, [], ◌∷◌, ◌++◌, Contains, slice_get, Some, None}
use Rattle.gl_model.specs.declared.event.Act.{Act}
use Rattle.gl_model.specs.declared.event.Act.TheVariants.{Begin, End, Acq, Rel, VRead, VWrite, Fork, Join, Alloc, Print, Input, Fail}
use Rattle.gl_model.specs.declared.event.Event.{Event}
use Rattle.gl_model.specs.declared.event.Event.TheVariants.{Act as Does, Commit}
use Rattle.gl_model.specs.declared.event.Stamp.{Stamp}
use Rattle.gl_model.specs.declared.limits.TheConstants.{THREADS, MONITORS, VOLATILES, VARIABLES}

-- what becomes of a thread
pub data ThreadState : Type 0 where
  NeverForked : ThreadState
  Forked : (func : ℕ) → (argument : ℤ) → ThreadState
  Running : ThreadState
  Ended : ThreadState

-- a monitor is free, or has an owner who entered it so many times
pub data MonitorState : Type 0 where
  Free : MonitorState
  Owned : (owner : ℕ) → (depth : ℕ) → MonitorState

-- what the machine is set up with
pub record Setting : Type 0 where
  -- of each class its data fields and its volatile fields
  pub classes : List (ℕ × ℕ)
  pub inputs : List ℤ
  -- the function that thread 0 begins with
  pub main : ℕ
  -- the functions that a thread may be forked with
  pub forkable : List ℕ
  -- a fork takes the least thread that was never forked; in a trace it takes any
  pub takes_least : Bool

-- what threads share, but for the data words
pub record State : Type 0 where
  pub threads : ℕ → ThreadState
  pub monitors : ℕ → MonitorState
  pub volatiles : ℕ → ℤ
  -- the numbers that the next object takes
  pub next_object : ℕ
  pub next_variable : ℕ
  pub next_volatile : ℕ
  pub inputs_taken : ℕ
  pub output : List ℤ

-- f, but at k this value
abbrev pub with_at : {A : Type 0} → (ℕ → A) → ℕ → A → ℕ → A
with_at f k a j = if j == k then a else f j

-- at the start all words are 0, thread 0 is forked with the function of main and the argument 0, and nothing else is there
abbrev pub start : Setting → State
start setting = record {
  threads = with_at (λ _. NeverForked) 0 (Forked setting.main (pos 0));
  monitors = λ _. Free;
  volatiles = λ _. pos 0;
  next_object = 0;
  next_variable = 0;
  next_volatile = 0;
  inputs_taken = 0;
  output = [];
}

-- an object with so many data fields and volatile fields can be made
pub record Fits (s : State) (fields : ℕ × ℕ) : Type 0 where
  pub object : s.next_object < MONITORS
  pub variables : s.next_variable + fields.0 ≤ VARIABLES
  pub volatiles : s.next_volatile + fields.1 ≤ VOLATILES

-- the reference of the next object, of class c
abbrev pub reference : State → ℕ → ℕ
reference s c = 1 + s.next_object + 2 ^ 8 * c + 2 ^ 16 * s.next_variable + 2 ^ 32 * s.next_volatile

-- thread t has entered the monitor
abbrev pub Owns : State → ℕ → ℕ → Type 0
Owns s t o = (depth : ℕ) × (s.monitors o ≡ Owned t depth)

-- the thread may take this step: it runs, but for the step by which it begins
abbrev pub MayStep : ThreadState → Event → ℤ → Type 0
MayStep state (Does (Begin f)) value = state ≡ Forked f value
MayStep state (Does End) value = state ≡ Running
MayStep state (Does (Acq o)) value = state ≡ Running
MayStep state (Does (Rel o)) value = state ≡ Running
MayStep state (Does (VRead v)) value = state ≡ Running
MayStep state (Does (VWrite v)) value = state ≡ Running
MayStep state (Does (Fork u f)) value = state ≡ Running
MayStep state (Does (Join u)) value = state ≡ Running
MayStep state (Does (Alloc c)) value = state ≡ Running
MayStep state (Does Print) value = state ≡ Running
MayStep state (Does Input) value = state ≡ Running
MayStep state (Does (Fail code)) value = state ≡ Running
MayStep state (Commit xs) value = state ≡ Running

-- entered once more by t
abbrev pub Entered : ℕ → MonitorState → MonitorState → Type 0
Entered t Free new = new ≡ Owned t 1
Entered t (Owned owner depth) new = (owner ≡ t) × (new ≡ Owned t (depth + 1))

-- left once by t
abbrev pub left_once : ℕ → ℕ → MonitorState
left_once t depth = if depth == 0 then Free else Owned t depth

-- thread u may be forked with this function
abbrev pub MayFork : Setting → State → ℕ → ℕ → Type 0
MayFork setting s u f =
    (0 < u) × (u < THREADS) × (s.threads u ≡ NeverForked) × Contains setting.forkable f ×
    (setting.takes_least ≡ true → (w : ℕ) → 0 < w → w < u → s.threads w ≢ NeverForked)

-- the setting of a trace: no class, no input, the function 0, and any thread may be forked
abbrev pub trace_setting : Setting
trace_setting = record { classes = []; inputs = []; main = 0; forkable = 0 ∷ []; takes_least = false }

-- the state refuses what thread t asked for, so that it fails with this code and value
pub data Refuses (setting : Setting) (s : State) (t code : ℕ) (value : ℤ) : Type 0 where
  not_owner : code ≡ 5 → (o : ℕ) → value ≡ pos o → o < MONITORS → (Owns s t o → ⊥) → Refuses setting s t code value
  heap_full :
      code ≡ 6 → (c : ℕ) → value ≡ pos c → (fields : ℕ × ℕ) → slice_get setting.classes c ≡ Some fields → (Fits s fields → ⊥) →
      Refuses setting s t code value
  threads_full : code ≡ 7 → ((u : ℕ) → 0 < u → u < THREADS → s.threads u ≢ NeverForked) → Refuses setting s t code value
  input_end : code ≡ 8 → slice_get setting.inputs s.inputs_taken ≡ None → Refuses setting s t code value
  bad_thread : code ≡ 11 → (u : ℕ) → value ≡ pos u → u < THREADS → s.threads u ≡ NeverForked → Refuses setting s t code value

-- what thread t does leads from the one state to the other; the value is what its entry carries
abbrev pub ActEffect : Setting → State → ℕ → Act → ℤ → State → Type 0
ActEffect setting old t (Begin f) value new = new ≡ record old { threads = with_at old.threads t Running }
ActEffect setting old t End value new = new ≡ record old { threads = with_at old.threads t Ended }
ActEffect setting old t (Acq o) value new =
    (m : MonitorState) × Entered t (old.monitors o) m × (new ≡ record old { monitors = with_at old.monitors o m })
ActEffect setting old t (Rel o) value new =
    (depth : ℕ) × (old.monitors o ≡ Owned t (depth + 1)) × (new ≡ record old { monitors = with_at old.monitors o (left_once t depth) })
ActEffect setting old t (VRead v) value new = (value ≡ old.volatiles v) × (new ≡ old)
ActEffect setting old t (VWrite v) value new = new ≡ record old { volatiles = with_at old.volatiles v value }
ActEffect setting old t (Fork u f) value new =
    MayFork setting old u f × (new ≡ record old { threads = with_at old.threads u (Forked f value) })
ActEffect setting old t (Join u) value new = (old.threads u ≡ Ended) × (new ≡ old)
ActEffect setting old t (Alloc c) value new =
    (fields : ℕ × ℕ) × (slice_get setting.classes c ≡ Some fields) × Fits old fields × (value ≡ pos (reference old c)) ×
    (new ≡
    record old {
      next_object = old.next_object + 1;
      next_variable = old.next_variable + fields.0;
      next_volatile = old.next_volatile + fields.1;
    })
ActEffect setting old t Print value new = new ≡ record old { output = old.output ++ value ∷ [] }
ActEffect setting old t Input value new =
    (slice_get setting.inputs old.inputs_taken ≡ Some value) × (new ≡ record old { inputs_taken = old.inputs_taken + 1 })
ActEffect setting old t (Fail code) value new = Refuses setting old t code value × (new ≡ old)

-- a commit changes nothing here
abbrev pub Effect : Setting → State → ℕ → Event → ℤ → State → Type 0
Effect setting old t (Does act) value new = ActEffect setting old t act value new
Effect setting old t (Commit xs) value new = new ≡ old

-- one step of the machine, by an event and the value that its entry carries
pub record Step (setting : Setting) (old : State) (s : Stamp) (value : ℤ) (new : State) : Type 0 where
  pub may : MayStep (old.threads s.thread) s.event value
  pub effect : Effect setting old s.thread s.event value new

-- a run of the machine, with some values
abbrev pub Run : Setting → State → List Stamp → State → Type 0
Run setting old [] new = new ≡ old
Run setting old (s ∷ rest) new = (value : ℤ) × (mid : State) × Step setting old s value mid × Run setting mid rest new

-- the machine allows these events, one after another, with some values, and is then in this state
abbrev pub Allows : Setting → List Stamp → State → Type 0
Allows setting events now = Run setting (start setting) events now
