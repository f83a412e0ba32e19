use Rattle.std.proofs.Common.{◌≡◌, take}
use Rattle.gl_journal.specs.Transactions.{vars_of}
use Rattle.gl_journal.proofs.transactions.vars_of.Given as goal

abbrev pub invariant-loop-part : goal.invariant-loop-part
invariant-loop-part l = l.vars ≡ vars_of (take l.part-index l.parts)
