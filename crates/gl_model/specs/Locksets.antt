-- The lockset rules, after Goldilocks: what an event does to the lockset of an earlier access, with which set an access starts, and the
-- test of a later access. A thread is in the set where its next access is ordered after the one whose set it is. The table has two
-- columns, what an event acquires and what it releases. The mark for commits and the wording of the rules are this project's own.
use Rattle.std.specs.Prelude.{◌≡◌, ◌≢◌, ℕ, ◌+◌, slice_range, List, [], ◌∷◌, Contains, Option, Some, None, ◌⊎◌}
use Rattle.gl_model.specs.declared.event.Act.TheVariants.{Begin, End, Acq, Rel, VRead, VWrite, Fork, Join, Alloc, Print, Input, Fail}
use Rattle.gl_model.specs.declared.event.Event.{Event}
use Rattle.gl_model.specs.declared.event.Event.TheVariants.{Act as Does, Commit}
use Rattle.gl_model.specs.declared.event.Stamp.{Stamp}
use Rattle.gl_model.specs.Edges.{EventAt}
use Rattle.gl_model.specs.declared.event.Element.{Element}
use Rattle.gl_model.specs.declared.event.Element.TheVariants.{Thread, Tx, Monitor, Volatile, Var}

-- a set of elements, said by what holds of its members
abbrev pub Elements : Type 1
Elements = Element → Type 0

-- one of these variables, as an element
abbrev pub IsVarOf : List ℕ → Elements
IsVarOf xs y = (x : ℕ) × Contains xs x × (y ≡ Var x)

-- the column of acquires: if one of these is in the set, the event's thread is added
abbrev pub Acquires : Event → Elements
Acquires (Does (Begin f)) y = ⊥
Acquires (Does End) y = ⊥
Acquires (Does (Acq p)) y = y ≡ Monitor p
Acquires (Does (Rel p)) y = ⊥
Acquires (Does (VRead w)) y = y ≡ Volatile w
Acquires (Does (VWrite w)) y = ⊥
Acquires (Does (Fork u f)) y = ⊥
Acquires (Does (Join u)) y = y ≡ Thread u
Acquires (Does (Alloc c)) y = ⊥
Acquires (Does Print) y = ⊥
Acquires (Does Input) y = ⊥
Acquires (Does (Fail k)) y = ⊥
Acquires (Commit xs) y = IsVarOf xs y

-- the column of releases: if the event's thread is in the set then, these are added
abbrev pub Releases : Event → Elements
Releases (Does (Begin f)) y = ⊥
Releases (Does End) y = ⊥
Releases (Does (Acq p)) y = ⊥
Releases (Does (Rel p)) y = y ≡ Monitor p
Releases (Does (VRead w)) y = ⊥
Releases (Does (VWrite w)) y = y ≡ Volatile w
Releases (Does (Fork u f)) y = y ≡ Thread u
Releases (Does (Join u)) y = ⊥
Releases (Does (Alloc c)) y = ⊥
Releases (Does Print) y = ⊥
Releases (Does Input) y = ⊥
Releases (Does (Fail k)) y = ⊥
Releases (Commit xs) y = IsVarOf xs y

-- the set after the first half of an event's rule, that of acquires
abbrev pub AfterAcquiring : Elements → Stamp → Elements
AfterAcquiring S s x = S x ⊎ ((x ≡ Thread s.thread) × ((y : Element) × Acquires s.event y × S y))

-- the set after the event: acquires first, then releases
abbrev pub After : Elements → Stamp → Elements
After S s x = AfterAcquiring S s x ⊎ (Releases s.event x × AfterAcquiring S s (Thread s.thread))

-- the set after these events, one after another
abbrev pub AfterAll : Elements → List Stamp → Elements
AfterAll S [] = S
AfterAll S (s ∷ rest) = AfterAll (After S s) rest

-- the set that an access of thread t starts with: a plain one, or a commit on these variables
abbrev pub InitialLockset : ℕ → Option (List ℕ) → Elements
InitialLockset t None y = y ≡ Thread t
InitialLockset t (Some xs) y = (y ≡ Thread t) ⊎ (y ≡ Tx) ⊎ IsVarOf xs y

-- the test: an access of thread u, a commit where it has variables, is ordered after the one whose set this is, or
-- both are commits
abbrev pub IsOrderedOrExcepted : Elements → ℕ → Option (List ℕ) → Type 0
IsOrderedOrExcepted S u None = S (Thread u)
IsOrderedOrExcepted S u (Some xs) = S Tx ⊎ AfterAcquiring S (record { thread = u; event = Commit xs }) (Thread u)

-- an access in a list of events: its thread, the position of its block, and its variables if it is a commit
pub record Access : Type 0 where
  pub thread : ℕ
  pub block : ℕ
  pub variables : Option (List ℕ)

-- the access stands in the list: its block is an event of its thread, not its End, and that commit where it is one
pub record IsAccessOf (h : List Stamp) (a : Access) : Type 0 where
  pub event : Stamp
  pub there : EventAt h a.block event
  pub own : event.thread ≡ a.thread
  pub goes_on : event.event ≢ Does End
  pub commit : (xs : List ℕ) → a.variables ≡ Some xs → event.event ≡ Commit xs

-- the lockset of an access before the event at m: its initial set after each event behind its block and before m
abbrev pub LocksetAt : List Stamp → Access → ℕ → Elements
LocksetAt h a m = AfterAll (InitialLockset a.thread a.variables) (slice_range h (a.block + 1) m)
