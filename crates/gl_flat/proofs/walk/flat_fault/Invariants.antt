use Rattle.std.proofs.Common.{◌≡◌, length}
use Rattle.gl_model.specs.Lists.{lists_of}
use Rattle.gl_model.specs.declared.limits.TheConstants.{VARIABLES}
use Rattle.gl_flat.specs.Walk.{HasWalked}
use Rattle.gl_flat.proofs.walk.flat_fault.Given as goal

-- the blocks so far are passed
abbrev pub invariant-loop-event : goal.invariant-loop-event
invariant-loop-event l = (length l.words ≡ VARIABLES) × HasWalked (lists_of l.made) l.event-index 0 l.words
