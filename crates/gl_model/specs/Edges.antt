-- Synchronizes-with: which event of the list releases to which later one (the Java Language Specification, 17.4.4). Monitors and
-- volatiles go through two tables, what an event releases and what it acquires, with one row for each kind of event. The edge
-- between two commits is this project's own, after Goldilocks.
use Rattle.std.specs.Prelude.{◌≡◌, ℕ, List, Contains, slice_get, Option, Some, None}
use Rattle.gl_model.specs.declared.event.Act.TheVariants.{Begin, End, Acq, Rel, VRead, VWrite, Fork, Join, Alloc, Print, Input, Fail}
use Rattle.gl_model.specs.declared.event.Event.{Event}
use Rattle.gl_model.specs.declared.event.Event.TheVariants.{Act as Does, Commit}
use Rattle.gl_model.specs.declared.event.Stamp.{Stamp}

-- the list h of events has the event e at position p
abbrev pub EventAt : List Stamp → ℕ → Stamp → Type 0
EventAt h p e = slice_get h p ≡ Some e

-- what threads synchronize on: a monitor, or a volatile
pub data SynchronizationObject : Type 0 where
  monitor : ℕ → SynchronizationObject
  volatile : ℕ → SynchronizationObject

-- what the event releases: the monitor that it leaves, once, or the volatile that it writes
abbrev pub released : Event → Option SynchronizationObject
released (Does (Begin f)) = None
released (Does End) = None
released (Does (Acq o)) = None
released (Does (Rel o)) = Some (monitor o)
released (Does (VRead v)) = None
released (Does (VWrite v)) = Some (volatile v)
released (Does (Fork u f)) = None
released (Does (Join u)) = None
released (Does (Alloc c)) = None
released (Does Print) = None
released (Does Input) = None
released (Does (Fail k)) = None
released (Commit xs) = None

-- what the event acquires: the monitor that it enters, once, or the volatile that it reads
abbrev pub acquired : Event → Option SynchronizationObject
acquired (Does (Begin f)) = None
acquired (Does End) = None
acquired (Does (Acq o)) = Some (monitor o)
acquired (Does (Rel o)) = None
acquired (Does (VRead v)) = Some (volatile v)
acquired (Does (VWrite v)) = None
acquired (Does (Fork u f)) = None
acquired (Does (Join u)) = None
acquired (Does (Alloc c)) = None
acquired (Does Print) = None
acquired (Does Input) = None
acquired (Does (Fail k)) = None
acquired (Commit xs) = None

-- The event e synchronizes with the event f, which comes later in the list.
pub data SynchronizesWith (e f : Stamp) : Type 0 where
  -- an unlock of a monitor with each later lock of it, an inner one too, and a write of a volatile with each later read of it
  release_acquire : (x : SynchronizationObject) → released e.event ≡ Some x → acquired f.event ≡ Some x → SynchronizesWith e f
  -- the fork of a thread with its first event
  fork_begin : (g k : ℕ) → e.event ≡ Does (Fork f.thread g) → f.event ≡ Does (Begin k) → SynchronizesWith e f
  -- the last event of a thread with the join of it
  end_join : e.event ≡ Does End → f.event ≡ Does (Join e.thread) → SynchronizesWith e f
  -- a commit with each later commit that has a variable in common with it
  commits : (x : ℕ) (xs ys : List ℕ) → e.event ≡ Commit xs → f.event ≡ Commit ys → Contains xs x → Contains ys x → SynchronizesWith e f

-- the transitive closure of a relation: a chain of one or more steps from a, which grows at its later end
pub data TransitiveClosure {A : Type 0} (Step : A → A → Type 0) (a : A) : A → Type 0 where
  one_step : {b : A} → Step a b → TransitiveClosure Step a b
  then_step : {b c : A} → TransitiveClosure Step a b → Step b c → TransitiveClosure Step a c
