use Rattle.std.proofs.Common.{◌≡◌, ◌≤◌, ◌+◌, ◌-◌, ◌++◌, length, map, take, vec_len, vec_capacity}
use Rattle.gl_reference.specs.Lines.{part_done}
use Rattle.gl_reference.proofs.keeping.keep_each.Given as goal

abbrev pub invariant-loop-var : goal.invariant-loop-var
invariant-loop-var l = record {
  items : l.performed.items ≡ l.fn.performed.items ++ map (part_done l.block l.thread l.variables l.writes) (take l.var-index l.var-items);
  room : vec_len l.performed + (length l.var-items - l.var-index) ≤ vec_capacity l.performed;
}
