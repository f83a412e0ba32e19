-- What a lockset may have in it, which ids there are, and how a lockset is stored. The elements are those of Goldilocks
-- (threads, monitors, volatiles and data variables) and one mark for commits, which is this project's own.
use Rattle.std.specs.Prelude.{◌≡◌, ℕ, ◌+◌, ◌/◌, ◌%◌, ◌<◌, List, slice_index}
use Rattle.std.specs.Int.{bit_at}
use Rattle.gl_model.specs.declared.event.Act.TheVariants.{Begin, End, Acq, Rel, VRead, VWrite, Fork, Join, Alloc, Print, Input, Fail}
use Rattle.gl_model.specs.declared.event.Act.{Act}
use Rattle.gl_model.specs.declared.event.Event.{Event}
use Rattle.gl_model.specs.declared.event.Event.TheVariants.{Act as Does, Commit}
use Rattle.gl_model.specs.declared.event.Stamp.{Stamp}
use Rattle.gl_model.specs.declared.event.Element.{Element}
use Rattle.gl_model.specs.declared.event.Element.TheVariants.{Thread, Tx, Monitor, Volatile, Var}
use Rattle.gl_model.specs.Rising.{AreVariables}
use Rattle.gl_model.specs.declared.limits.TheConstants.{THREADS, FUNCTIONS, CLASSES, MONITORS, VOLATILES, VARIABLES}

-- the id in an element is one that there is
abbrev pub IsElement : Element → Type 0
IsElement (Thread t) = t < THREADS
IsElement Tx = Unit {0}
IsElement (Monitor o) = o < MONITORS
IsElement (Volatile v) = v < VOLATILES
IsElement (Var x) = x < VARIABLES

-- the ids in an act are ones that there are
abbrev pub IsActInRange : Act → Type 0
IsActInRange (Begin f) = f < FUNCTIONS
IsActInRange End = Unit {0}
IsActInRange (Acq o) = o < MONITORS
IsActInRange (Rel o) = o < MONITORS
IsActInRange (VRead v) = v < VOLATILES
IsActInRange (VWrite v) = v < VOLATILES
IsActInRange (Fork u f) = (u < THREADS) × (f < FUNCTIONS)
IsActInRange (Join u) = u < THREADS
IsActInRange (Alloc c) = c < CLASSES
IsActInRange Print = Unit {0}
IsActInRange Input = Unit {0}
IsActInRange (Fail k) = Unit {0}

-- so are those of an event; those of a commit are the variables of one transaction
abbrev pub IsEventInRange : Event → Type 0
IsEventInRange (Does act) = IsActInRange act
IsEventInRange (Commit xs) = AreVariables xs

-- the bit that stands for an element: threads, the mark, monitors, volatiles and variables, one after another
abbrev pub place : Element → ℕ
place (Thread t) = t
place Tx = THREADS
place (Monitor o) = THREADS + 1 + o
place (Volatile v) = THREADS + 1 + MONITORS + v
place (Var x) = THREADS + 1 + MONITORS + VOLATILES + x

-- the bit k of words of 64 bits is set
unfoldable pub HasBit : List ℕ → ℕ → Type 0
HasBit words k = bit_at (slice_index words (k / 64)) (k % 64) ≡ 1

-- an event with its thread
abbrev pub IsStampInRange : Stamp → Type 0
IsStampInRange s = (s.thread < THREADS) × IsEventInRange s.event
