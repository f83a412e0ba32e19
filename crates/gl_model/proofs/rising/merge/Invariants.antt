use Rattle.std.proofs.Common.{◌≡◌, ◌+◌, ◌≤◌, ◌++◌, length, take, drop}
use Rattle.gl_model.specs.Rising.{Rises, with_all}
use Rattle.gl_model.proofs.rising.merge.Given as goal

abbrev pub invariant-loop-least : goal.invariant-loop-least
invariant-loop-least l = record {
  merged : take l.count l.all ++ with_all l.others l.rest ≡ with_all l.fn.right l.fn.left;
  kept : drop l.count l.all ≡ drop l.count l.fn.all;
  long : length l.all ≡ length l.fn.all;
  within : l.count ≤ length l.all;
  left : Rises l.rest;
  right : Rises l.others;
}

abbrev pub decreases-loop-least : goal.decreases-loop-least
decreases-loop-least l = length l.rest + length l.others
