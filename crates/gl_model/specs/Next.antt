-- Happens-before to an access that is being judged and stands in no record yet: said of the list of events and of the thread that makes it.
use Rattle.std.specs.Prelude.{◌≡◌, ℕ, ◌<◌, List, length, Contains, Option, Some, None, ◌⊎◌, ◌↔◌}
use Rattle.gl_model.specs.declared.event.Event.TheVariants.{Commit}
use Rattle.gl_model.specs.declared.event.Stamp.{Stamp}
use Rattle.gl_model.specs.Edges.{EventAt, SynchronizesWith}
use Rattle.gl_model.specs.Locksets.{Access, IsAccessOf, LocksetAt, AfterAcquiring}
use Rattle.gl_model.specs.Machine.{Setting, State, Allows, Running}
use Rattle.gl_model.specs.declared.event.Element.TheVariants.{Thread}

-- the access is a commit, and one of its variables is among these
pub record IsCommitOn (a : Access) (xs : List ℕ) : Type 0 where
  pub variables : List ℕ
  pub are : a.variables ≡ Some variables
  pub var : ℕ
  pub one : Contains variables var
  pub other : Contains xs var

-- the event at q comes after the access by a chain of one or more steps: from the access to a later event of its thread,
-- from a commit to a later commit with a common variable, from an event to a later one of its thread or that it synchronizes with
pub data Reaches (h : List Stamp) (a : Access) : ℕ → Type 0 where
  own_later : {q : ℕ} → (s : Stamp) → EventAt h q s → a.block < q → s.thread ≡ a.thread → Reaches h a q
  commit_edge : {q : ℕ} → (s : Stamp) (ys : List ℕ) → EventAt h q s → a.block < q → s.event ≡ Commit ys → IsCommitOn a ys → Reaches h a q
  thread_on : {p q : ℕ} → (r s : Stamp) → Reaches h a p → EventAt h p r → EventAt h q s → p < q → s.thread ≡ r.thread → Reaches h a q
  edge_on : {p q : ℕ} → (r s : Stamp) → Reaches h a p → EventAt h p r → EventAt h q s → p < q → SynchronizesWith r s → Reaches h a q

-- an event of thread u comes after the access
abbrev pub ReachesThread : List Stamp → Access → ℕ → Type 0
ReachesThread h a u = (q : ℕ) × ((s : Stamp) × EventAt h q s × (s.thread ≡ u) × Reaches h a q)

-- a commit with a variable among these comes after the access, or is it
abbrev pub ReachesCommitOn : List Stamp → Access → List ℕ → Type 0
ReachesCommitOn h a xs =
    IsCommitOn a xs ⊎
    ((q : ℕ) × ((s : Stamp) × ((ys : List ℕ) × ((x : ℕ) × EventAt h q s × (s.event ≡ Commit ys) × Contains ys x × Contains xs x
    × Reaches h a q))))

-- the access happens before the next access of thread u after h: a plain one, or a commit on these variables
abbrev pub HappensBeforeNext : List Stamp → Access → ℕ → Option (List ℕ) → Type 0
HappensBeforeNext h a u None = (a.thread ≡ u) ⊎ ReachesThread h a u
HappensBeforeNext h a u (Some xs) = (a.thread ≡ u) ⊎ ReachesThread h a u ⊎ ReachesCommitOn h a xs

-- membership is the closure: the set of an access orders it before a next access of a running thread exactly where it happens before that
abbrev pub MembershipIsClosure : Type 0
MembershipIsClosure =
    (setting : Setting) (h : List Stamp) (now : State) → Allows setting h now → (a : Access) → IsAccessOf h a → (u : ℕ) → now.threads u
    ≡ Running →
    (LocksetAt h a (length h) (Thread u) ↔ HappensBeforeNext h a u None) ×
    ((xs : List ℕ) → AfterAcquiring (LocksetAt h a (length h)) (record { thread = u; event = Commit xs }) (Thread u) ↔ HappensBeforeNext h
    a u (Some xs))
