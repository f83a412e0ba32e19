use Rattle.std.proofs.Common.{◌≡◌, ◌++◌, take}
use Rattle.gl_flat.specs.Below.{written_in}
use Rattle.gl_flat.proofs.writes.add_writes.Given as goal

-- the writes so far are added
abbrev pub invariant-loop-i : goal.invariant-loop-i
invariant-loop-i l = l.writes.items ≡ l.fn.writes.items ++ written_in l.tx.numbers (take l.i l.tx.writes)
