-- How many steps an event call makes on the table.
use Rattle.std.specs.Prelude.{◌≡◌, ℕ}
use Rattle.gl_rule.specs.View.{moved, with_stores}
use Rattle.gl_table.specs.PassView.{PassView}
use Rattle.gl_events.specs.declared.done.Stop.{Stop}
use Rattle.gl_events.specs.declared.done.Stop.TheVariants as stop

-- five words were stored in the cell of the event, and seven other steps made: two to take the list, one for the first segment, one for
-- the tail, one to publish the event, and two to put the list back
abbrev pub IsEventCost : PassView → PassView → Type 0
IsEventCost p q = q.moves ≡ with_stores 5 (moved 7 p.moves)

-- the steps of a call that stopped: a try on the list's turn; or four to take the list and to put it back; or those, and the two loads
-- between them
abbrev pub steps_to : Stop → ℕ
steps_to (stop.Busy by) = 1
steps_to (stop.Blocked owner) = 4
steps_to (stop.NotEnded thread) = 4
steps_to (stop.NotForked live) = 4
steps_to (stop.RingFull low tail) = 6

-- and no word of a cell was stored or loaded
abbrev pub IsStopCost : PassView → PassView → Stop → Type 0
IsStopCost p q s = q.moves ≡ moved (steps_to s) p.moves
