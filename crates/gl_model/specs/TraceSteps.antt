-- A trace as steps: the thread of each line and what the line says. What the steps so far leave, and the fault that a next step has
-- behind them.
use Rattle.std.specs.Prelude.{◌≡◌, ℕ, ◌+◌, ◌-◌, ◌<◌, List, length, take, Bool, false, not, Option, Some, None, ◌==◌, ◌&&◌, ◌||◌, if◌then◌else◌, fold, is_some, nat_lt, slice_get}
use Rattle.std.specs.List.{list_any}
use Rattle.gl_model.specs.declared.event.Act.{Act}
use Rattle.gl_model.specs.declared.event.Act.TheVariants.{Begin, End, Acq, Rel, VRead, VWrite, Fork, Join, Alloc, Print, Input, Fail}
use Rattle.gl_model.specs.declared.row.Item.{Item}
use Rattle.gl_model.specs.declared.row.Item.TheVariants.{Act as Acts, Access, Commit as Commits}
use Rattle.gl_model.specs.declared.row.StepFault.{StepFault}
use Rattle.gl_model.specs.declared.row.StepFault.TheVariants.{BadSet, NotRunning, CannotFork, JoinSelf, MonitorOwned, MonitorNotOwned}
use Rattle.gl_model.specs.declared.limits.TheConstants.{THREADS, MONITORS, VOLATILES, VARIABLES, TX_VARIABLES}
use Rattle.gl_model.specs.Rising.{with_all}

-- a thread and what its line says
abbrev pub Step : Type 0
Step = ℕ × Item

-- the act is one that a line of a trace can say: a thread's first and last event follow from forks and joins, and a trace has no object, no
-- output, no input and no refusal
abbrev pub IsLineAct : Act → Type 0
IsLineAct (Begin f) = ⊥
IsLineAct End = ⊥
IsLineAct (Acq o) = o < MONITORS
IsLineAct (Rel o) = o < MONITORS
IsLineAct (VRead v) = v < VOLATILES
IsLineAct (VWrite v) = v < VOLATILES
IsLineAct (Fork u f) = (u < THREADS) × (f ≡ 0)
IsLineAct (Join u) = u < THREADS
IsLineAct (Alloc c) = ⊥
IsLineAct Print = ⊥
IsLineAct Input = ⊥
IsLineAct (Fail k) = ⊥

-- so is the item; the variables of a commit are ones that there are by their type
abbrev pub IsLineItem : Item → Type 0
IsLineItem (Acts act) = IsLineAct act
IsLineItem (Access x write) = x < VARIABLES
IsLineItem (Commits reads writes) = Unit {0}

-- the step is one that a line can say
abbrev pub IsStep : Step → Type 0
IsStep s = (s.0 < THREADS) × IsLineItem s.1

-- the act forks the thread u
abbrev pub act_forks : ℕ → Act → Bool
act_forks u (Fork child f) = child == u
act_forks u _ = false

-- the item forks the thread u
abbrev pub item_forks : ℕ → Item → Bool
item_forks u (Acts act) = act_forks u act
item_forks u (Access x write) = false
item_forks u (Commits reads writes) = false

-- the act joins the thread u, which has ended by that
abbrev pub act_joins : ℕ → Act → Bool
act_joins u (Join other) = other == u
act_joins u _ = false

-- the item joins the thread u
abbrev pub item_joins : ℕ → Item → Bool
item_joins u (Acts act) = act_joins u act
item_joins u (Access x write) = false
item_joins u (Commits reads writes) = false

-- thread u is there: it is thread 0, or was forked
abbrev pub is_started : List Step → ℕ → Bool
is_started steps u = (u == 0) || list_any (λ s. item_forks u s.1) steps

-- thread u has ended: it was joined
abbrev pub is_ended : List Step → ℕ → Bool
is_ended steps u = list_any (λ s. item_joins u s.1) steps

-- thread u runs
abbrev pub is_running : List Step → ℕ → Bool
is_running steps u = is_started steps u && not (is_ended steps u)

-- the owner of a monitor and how often it has entered it, if it has an owner
abbrev pub Hold : Type 0
Hold = Option (ℕ × ℕ)

-- entered once more: by t where it was free
abbrev pub entered : ℕ → Hold → Hold
entered t None = Some (t, 1)
entered t (Some (owner, depth)) = Some (owner, depth + 1)

-- left once
abbrev pub left : Hold → Hold
left None = None
left (Some (owner, depth)) = if depth == 1 then None else Some (owner, depth - 1)

-- what an act of thread t leaves of the monitor m: entered and left once, and left alone by any other act
abbrev pub act_leaves : ℕ → ℕ → Act → Hold → Hold
act_leaves m t (Acq o) held = if o == m then entered t held else held
act_leaves m t (Rel o) held = if o == m then left held else held
act_leaves m t (Begin f) held = held
act_leaves m t End held = held
act_leaves m t (VRead v) held = held
act_leaves m t (VWrite v) held = held
act_leaves m t (Fork u f) held = held
act_leaves m t (Join u) held = held
act_leaves m t (Alloc c) held = held
act_leaves m t Print held = held
act_leaves m t Input held = held
act_leaves m t (Fail k) held = held

-- what an item of thread t leaves of it
abbrev pub item_leaves : ℕ → ℕ → Item → Hold → Hold
item_leaves m t (Acts act) held = act_leaves m t act held
item_leaves m t (Access x write) held = held
item_leaves m t (Commits reads writes) held = held

-- who owns the monitor m after these steps
abbrev pub holder : ℕ → List Step → Hold
holder m steps = fold (λ held s. item_leaves m s.0 s.1 held) None steps

-- thread t owns it
abbrev pub is_held_by : ℕ → Hold → Bool
is_held_by t None = false
is_held_by t (Some (owner, depth)) = t == owner

-- a commit of more variables than a transaction may have
abbrev pub is_too_wide : Item → Bool
is_too_wide (Commits reads writes) = nat_lt TX_VARIABLES (length (with_all writes reads))
is_too_wide (Acts act) = false
is_too_wide (Access x write) = false

-- the fault of an act of a running thread t
abbrev pub act_fault : List Step → ℕ → Act → Option StepFault
act_fault before t (Fork u f) = if is_started before u then Some CannotFork else None
act_fault before t (Join u) = if not (is_started before u) then Some NotRunning else if u == t then Some JoinSelf else None
act_fault before t (Acq m) = if is_some (holder m before) && not (is_held_by t (holder m before)) then Some MonitorOwned else None
act_fault before t (Rel m) = if is_held_by t (holder m before) then None else Some MonitorNotOwned
act_fault before t (Begin f) = None
act_fault before t End = None
act_fault before t (VRead v) = None
act_fault before t (VWrite v) = None
act_fault before t (Alloc c) = None
act_fault before t Print = None
act_fault before t Input = None
act_fault before t (Fail k) = None

-- the fault of an item of a running thread t
abbrev pub item_fault : List Step → ℕ → Item → Option StepFault
item_fault before t (Acts act) = act_fault before t act
item_fault before t (Access x write) = None
item_fault before t (Commits reads writes) = None

-- the first fault of a next step behind these, in the order in which they are looked for
abbrev pub step_fault : List Step → ℕ → Item → Option StepFault
step_fault before t item =
    if is_too_wide item then Some BadSet else if is_running before t then item_fault before t item else Some NotRunning

-- no step has a fault behind those before it
abbrev pub AreClean : List Step → Type 0
AreClean steps = (k : ℕ) (s : Step) → slice_get steps k ≡ Some s → step_fault (take k steps) s.0 s.1 ≡ None
