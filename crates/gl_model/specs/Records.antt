-- What a record says: its entries by place, program order, its list of events, the blocks, and the accesses of a variable.
use Rattle.std.specs.Prelude.{◌≡◌, ℕ, ◌<◌, ◌≤◌, true, false, List, map, Contains, slice_get, Option, Some, None, ◌⊎◌}
use Rattle.gl_model.specs.declared.event.Event.{Event}
use Rattle.gl_model.specs.declared.event.Event.TheVariants.{Act as Does, Commit as Commits}
use Rattle.gl_model.specs.declared.event.Stamp.{Stamp}
use Rattle.gl_model.specs.Entries.{Entry}
use Rattle.gl_model.specs.Entries.{Sync, Commit, Plain, Abort, Trim, Over}
use Rattle.gl_model.specs.declared.tx.Tx.{Tx}
use Rattle.gl_model.specs.declared.tx.Why.TheVariants.{Changed, Raised}
use Rattle.gl_model.specs.Edges.{EventAt}
use Rattle.gl_model.specs.Rising.{with_all}

-- the entries of each thread, none where it has no list
abbrev pub Lists : Type 0
Lists = ℕ → List Entry

-- where an entry stands: its thread, and its place in the list of that thread
pub record Place : Type 0 where
  pub thread : ℕ
  pub index : ℕ

-- the entry at place i of one list
abbrev pub At : List Entry → ℕ → Entry → Type 0
At es i e = slice_get es i ≡ Some e

-- the record has the entry e at c
abbrev pub EntryAt : Lists → Place → Entry → Type 0
EntryAt R c e = At (R c.thread) c.index e

-- program order: one place stands before another in the list of their thread (the Java Language Specification, 17.4.3)
abbrev pub InProgramOrder : Place → Place → Type 0
InProgramOrder c d = (c.thread ≡ d.thread) × (c.index < d.index)

-- the variables that a transaction touches, rising: those that it looked at, and those that it writes
abbrev pub variables_of : Tx → List ℕ
variables_of tx = with_all (map (λ w. w.var) tx.writes) (map (λ l. l.var) tx.looks)

-- the position of an entry in the list of events, if it is an event: a synchronization or a commit
abbrev pub position_of : Entry → Option ℕ
position_of (Sync at act value) = Some at
position_of (Commit at tx) = Some at
position_of (Plain var nth cached write value raised) = None
position_of (Abort tx why) = None
position_of (Trim low) = None
position_of (Over ending) = None

-- the event that an entry is
abbrev pub event_of : Entry → Option Event
event_of (Sync at act value) = Some (Does act)
event_of (Commit at tx) = Some (Commits (variables_of tx))
event_of (Plain var nth cached write value raised) = None
event_of (Abort tx why) = None
event_of (Trim low) = None
event_of (Over ending) = None

-- the entry there is the event s at position p
pub record IsEventAt (R : Lists) (c : Place) (p : ℕ) (s : Stamp) : Type 0 where
  pub entry : Entry
  pub there : EntryAt R c entry
  pub position : position_of entry ≡ Some p
  pub event : event_of entry ≡ Some s.event
  pub own : s.thread ≡ c.thread

-- h is the list of the record's events: each position below its length is that of one entry, and no other position is used
pub record IsEventList (h : List Stamp) (R : Lists) : Type 0 where
  pub listed : (c : Place) (p : ℕ) (s : Stamp) → IsEventAt R c p s → EventAt h p s
  pub made : (p : ℕ) (s : Stamp) → EventAt h p s → (c : Place) × IsEventAt R c p s
  pub once : (c d : Place) (p : ℕ) (s r : Stamp) → IsEventAt R c p s → IsEventAt R d p r → c ≡ d

-- along each list positions rise
abbrev pub PositionsRise : Lists → Type 0
PositionsRise R = (c d : Place) (p q : ℕ) (s r : Stamp) → IsEventAt R c p s → IsEventAt R d q r → InProgramOrder c d → p < q

-- the block of the entry at c is p: the position of the last event of its thread at or before it
pub record IsBlockOf (R : Lists) (c : Place) (p : ℕ) : Type 0 where
  pub index : ℕ
  pub event : Stamp
  pub made : IsEventAt R (record { thread = c.thread; index = index }) p event
  pub within : index ≤ c.index
  pub last : (j q : ℕ) (s : Stamp) → IsEventAt R (record { thread = c.thread; index = j }) q s → j ≤ c.index → j ≤ index

-- the entry is an access of x and has this number on it: a plain entry, a commit, or an attempt that was refused for a race
abbrev pub NumberOn : Entry → ℕ → ℕ → Type 0
NumberOn (Plain var nth cached write value raised) x k = (var ≡ x) × (nth ≡ k)
NumberOn (Commit at tx) x k = Contains tx.numbers (record { var = x; nth = k })
NumberOn (Abort tx (Raised var)) x k = Contains tx.numbers (record { var = x; nth = k })
NumberOn (Sync at act value) x k = ⊥
NumberOn (Abort tx (Changed var read found)) x k = ⊥
NumberOn (Trim low) x k = ⊥
NumberOn (Over ending) x k = ⊥

-- the order on a variable: the access at c is before the one at d on x, by number, and for one number by program order.
-- Only an access and its own repeats have one number.
pub record InVariableOrder (R : Lists) (x : ℕ) (c d : Place) : Type 0 where
  pub first : Entry
  pub second : Entry
  pub there : EntryAt R c first
  pub here : EntryAt R d second
  pub number : ℕ
  pub later : ℕ
  pub numbered : NumberOn first x number
  pub also_numbered : NumberOn second x later
  pub order : (number < later) ⊎ ((number ≡ later) × InProgramOrder c d)

-- the access was performed: it was not refused
abbrev pub IsPerformed : Entry → Type 0
IsPerformed (Plain var nth cached write value raised) = raised ≡ false
IsPerformed (Commit at tx) = Unit {0}
IsPerformed (Sync at act value) = ⊥
IsPerformed (Abort tx why) = ⊥
IsPerformed (Trim low) = ⊥
IsPerformed (Over ending) = ⊥

-- a plain access
abbrev pub IsPlain : Entry → Type 0
IsPlain (Plain var nth cached write value raised) = Unit {0}
IsPlain _ = ⊥

-- the entry writes x, or would have; a commit that writes x and looked at it writes it
abbrev pub Writes : Entry → ℕ → Type 0
Writes (Plain var nth cached write value raised) x = (var ≡ x) × (write ≡ true)
Writes (Commit at tx) x = Contains (map (λ w. w.var) tx.writes) x
Writes (Abort tx (Raised var)) x = Contains (map (λ w. w.var) tx.writes) x
Writes (Sync at act value) x = ⊥
Writes (Abort tx (Changed var read found)) x = ⊥
Writes (Trim low) x = ⊥
Writes (Over ending) x = ⊥

-- two accesses of x conflict: one writes it (the Java Language Specification, 17.4.1), and they are not both commits, or attempts
-- at one (this project's own, after Goldilocks)
abbrev pub Conflict : Entry → Entry → ℕ → Type 0
Conflict e f x = (Writes e x ⊎ Writes f x) × (IsPlain e ⊎ IsPlain f)
