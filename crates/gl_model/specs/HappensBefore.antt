-- Happens-before between the entries of a record (the Java Language Specification, 17.4.5), and the race law. The last step into a
-- refused commit is this project's own: it stands where the edge from an earlier commit would have stood.
use Rattle.std.specs.Prelude.{◌≡◌, ◌≢◌, ℕ, ◌<◌, true, ◌↔◌}
use Rattle.gl_model.specs.declared.event.Stamp.{Stamp}
use Rattle.gl_model.specs.Entries.{Entry}
use Rattle.gl_model.specs.Entries.{Sync, Commit, Plain, Abort, Trim, Over}
use Rattle.gl_model.specs.declared.tx.Why.TheVariants.{Changed, Raised}
use Rattle.gl_model.specs.Edges.{SynchronizesWith, TransitiveClosure}
use Rattle.gl_model.specs.Records.{Lists, Place, EntryAt, InProgramOrder, IsEventAt, InVariableOrder, IsPerformed, Conflict}

-- one step: by program order, or from an event to a later one that it synchronizes with
pub data OrdersDirectly (R : Lists) (c d : Place) : Type 0 where
  program_order : InProgramOrder c d → OrdersDirectly R c d
  synchronizes : (p q : ℕ) → (r s : Stamp) → IsEventAt R c p r → IsEventAt R d q s → p < q → SynchronizesWith r s → OrdersDirectly R c d

-- a commit
abbrev pub IsCommit : Entry → Type 0
IsCommit (Commit at tx) = Unit {0}
IsCommit _ = ⊥

-- an attempt that was refused for a race
abbrev pub IsRefusedCommit : Entry → Type 0
IsRefusedCommit (Abort tx (Raised var)) = Unit {0}
IsRefusedCommit _ = ⊥

-- the last step into a refused commit: from a commit that is before it on a variable of both
pub record RefusedCommitEdge (R : Lists) (c d : Place) : Type 0 where
  pub made : Entry
  pub refused : Entry
  pub there : EntryAt R c made
  pub here : EntryAt R d refused
  pub is_commit : IsCommit made
  pub is_refused : IsRefusedCommit refused
  pub var : ℕ
  pub before : InVariableOrder R var c d

-- the entry at c happens before the entry at d: by a chain of steps, or by one whose last step goes into a refused commit.
-- Nothing goes on from a refused commit but program order.
pub data HappensBefore (R : Lists) (c d : Place) : Type 0 where
  by_steps : TransitiveClosure (OrdersDirectly R) c d → HappensBefore R c d
  from_commit : RefusedCommitEdge R c d → HappensBefore R c d
  through_commit : (b : Place) → TransitiveClosure (OrdersDirectly R) c b → RefusedCommitEdge R b d → HappensBefore R c d

-- the access at d is racy on x: a performed access of another thread, before it there, conflicts with it and does not happen before it
pub record IsRacy (R : Lists) (d : Place) (x : ℕ) : Type 0 where
  pub other : Place
  pub another : other.thread ≢ d.thread
  pub before : InVariableOrder R x other d
  pub performed : IsPerformed before.first
  pub conflict : Conflict before.first before.second x
  pub unordered : HappensBefore R other d → ⊥

-- the race law of one entry: a plain entry is raised exactly where it is racy; a commit is racy on no variable; a refused commit is
-- racy on the variable that it names and on none below it
abbrev pub IsRaisedRightly : Lists → Place → Entry → Type 0
IsRaisedRightly R c (Plain var nth cached write value raised) = (raised ≡ true) ↔ IsRacy R c var
IsRaisedRightly R c (Commit at tx) = (x : ℕ) → IsRacy R c x → ⊥
IsRaisedRightly R c (Abort tx (Raised var)) = IsRacy R c var × ((x : ℕ) → x < var → IsRacy R c x → ⊥)
IsRaisedRightly R c (Abort tx (Changed var read found)) = Unit {0}
IsRaisedRightly R c (Sync at act value) = Unit {0}
IsRaisedRightly R c (Trim low) = Unit {0}
IsRaisedRightly R c (Over ending) = Unit {0}

-- the race law of a record
abbrev pub Races : Lists → Type 0
Races R = (c : Place) (e : Entry) → EntryAt R c e → IsRaisedRightly R c e
