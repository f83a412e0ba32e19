use Rattle.std.proofs.Common.{◌≤◌}
use Rattle.gl_explain.specs.Races.{Counts, IsUnknown}
use Rattle.gl_explain.proofs.Counting.{IsLastBelow}
use Rattle.gl_explain.proofs.races.find.Given as goal

abbrev pub invariant-loop-i : goal.invariant-loop-i
invariant-loop-i l = record {
  last : IsLastBelow (IsUnknown l.kept l.next l.var l.known) l.i l.place;
  count : Counts (IsUnknown l.kept l.next l.var l.known) l.i l.count;
  few : l.count ≤ l.i;
}
