-- The record so far, as the program keeps it.
use Rattle.std.specs.Prelude.{◌≡◌, ℕ, ◌<◌, ◌≤◌, List, [], ◌++◌, false, slice_index, slice_index_or}
use Rattle.gl_model.specs.declared.limits.TheConstants.{THREADS, VARIABLES}
use Rattle.gl_model.specs.Lists.{lists_of}
use Rattle.gl_model.specs.Trace.{Tracing}
use Rattle.gl_trace.specs.declared.tracer.Tracer.{Tracer}

pub record Traces (s : Tracing) (tracer : Tracer) : Type 0 where
  pub lists : (t : ℕ) → lists_of tracer.history t ≡ s.lists t
  pub next : tracer.next ≡ s.next
  pub numbers : (x : ℕ) → x < VARIABLES → slice_index tracer.numbers x ≡ s.numbers x
  pub ended : (u : ℕ) → u < THREADS → slice_index_or tracer.ended u false ≡ s.ended u

-- the next position and each next number are at most this
pub record IsUpTo (most : ℕ) (tracer : Tracer) : Type 0 where
  pub next : tracer.next ≤ most
  pub numbers : (x : ℕ) → x < VARIABLES → slice_index tracer.numbers x ≤ most

-- no thread has begun
abbrev pub nothing : Tracing
nothing = record { lists = λ _. []; next = 0; numbers = λ _. 0; ended = λ _. false }

-- the list has what it had, and perhaps more behind that
abbrev pub IsGrown : {A : Type 0} → List A → List A → Type 0
IsGrown before now = (more : List _) × (now ≡ before ++ more)

-- nothing that was recorded is lost: the list of each thread has grown
abbrev pub KeepsRecorded : Tracer → Tracer → Type 0
KeepsRecorded before now = (t : ℕ) → IsGrown (lists_of before.history t) (lists_of now.history t)
