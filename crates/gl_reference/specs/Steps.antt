-- The steps of the closure over a list of events, as a program takes them.
use Rattle.std.specs.Prelude.{◌≡◌, ℕ, ◌<◌, ◌≤◌, List, Bool, true, length, slice_get, Contains, Some, ◌⊎◌, ◌↔◌}
use Rattle.gl_model.specs.declared.event.Event.{Event}
use Rattle.gl_model.specs.declared.event.Event.TheVariants.{Commit}
use Rattle.gl_model.specs.declared.event.Stamp.{Stamp}
use Rattle.gl_model.specs.Edges.{EventAt, SynchronizesWith}
use Rattle.gl_model.specs.Locksets.{Access}
use Rattle.gl_model.specs.Next.{IsCommitOn, Reaches}
use Rattle.gl_reference.specs.declared.reach.Access.{Access as GivenAccess}

-- an access of the program, as definitions see it
abbrev pub access_of : GivenAccess → Access
access_of a = record { thread = a.thread; block = a.block; variables = a.variables }

-- the event is a commit with a variable of the access, which is one too
abbrev pub IsCommitEdge : Access → Event → Type 0
IsCommitEdge a e = (ys : List ℕ) × (e ≡ Commit ys) × IsCommitOn a ys

-- the access orders the event s at q directly
abbrev pub Starts : Access → ℕ → Stamp → Type 0
Starts a q s = (a.block < q) × ((s.thread ≡ a.thread) ⊎ IsCommitEdge a s.event)

-- the event r orders the event s, which comes later, directly
abbrev pub Leads : Stamp → Stamp → Type 0
Leads r s = (s.thread ≡ r.thread) ⊎ SynchronizesWith r s

-- the event at p is marked, and P of it
abbrev pub IsMarked : List Stamp → List Bool → (Stamp → Type 0) → ℕ → Type 0
IsMarked h marks P p = (r : Stamp) × (slice_get marks p ≡ Some true) × EventAt h p r × P r

-- some event is marked, and P of it
abbrev pub HasMarked : List Stamp → List Bool → (Stamp → Type 0) → Type 0
HasMarked h marks P = (p : ℕ) × IsMarked h marks P p

-- a commit with one of these variables
abbrev pub IsCommitWith : List ℕ → Stamp → Type 0
IsCommitWith xs s = (ys : List ℕ) × (x : ℕ) × (s.event ≡ Commit ys) × Contains ys x × Contains xs x

-- the marks say which of the first events the access reaches
pub record AreMarks (h : List Stamp) (a : Access) (marks : List Bool) : Type 0 where
  pub within : length marks ≤ length h
  pub right : (p : ℕ) → p < length marks → (slice_get marks p ≡ Some true) ↔ Reaches h a p
