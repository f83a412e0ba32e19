-- no Info that was looked at stands before it
use Rattle.std.proofs.Common.{◌≡◌, ℕ, ◌<◌, ◌≤◌, Some}
use Rattle.gl_model.specs.declared.row.Info.{Info}
use Rattle.gl_draws.specs.RowFacts.{read_of}
use Rattle.gl_compare.proofs.rows.least_read.Given as goal

abbrev pub invariant-loop-read : goal.invariant-loop-read
invariant-loop-read l = record {
  upto : l.from ≤ l.end;
  below : (t : ℕ) (i : Info) → t < l.read-index → read_of l.reads t ≡ Some i → l.from ≤ i.pos;
}
