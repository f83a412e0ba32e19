use Rattle.std.proofs.Common.{◌≡◌, ◌≤◌, ◌++◌, length, map, take}
use Rattle.gl_raised.specs.Accesses.{part_of}
use Rattle.gl_raised.proofs.gather.add_parts.Given as goal

abbrev pub invariant-loop-i : goal.invariant-loop-i
invariant-loop-i l = record {
  within : l.i ≤ length l.tx.numbers;
  so_far : l.accesses.items ≡ l.fn.accesses.items
      ++ map (part_of l.by.claim l.by.thread l.by.tick l.performed l.tx.writes) (take l.i l.tx.numbers);
}
