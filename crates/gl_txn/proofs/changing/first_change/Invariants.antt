-- those before it are unchanged
use Rattle.gl_txn.specs.Changing.{AreUnchangedBefore}
use Rattle.gl_txn.proofs.changing.first_change.Given as goal

abbrev pub invariant-loop-taken : goal.invariant-loop-taken
invariant-loop-taken l = AreUnchangedBefore l.taken-index l.looks l.rows
