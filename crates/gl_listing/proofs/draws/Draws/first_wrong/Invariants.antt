use Rattle.gl_listing.proofs.Found.{FailsBelow, IsFound}
use Rattle.gl_listing.proofs.draws.Draws.first_wrong.Given as goal

abbrev pub invariant-loop-list : goal.invariant-loop-list
invariant-loop-list l = IsFound (FailsBelow l.self l.list-index) l.first
