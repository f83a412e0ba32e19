use Rattle.std.proofs.Common.{◌≡◌, ◌≤◌, length, drop}
use Rattle.gl_model.specs.declared.limits.TheConstants.{TX_VARIABLES}
use Rattle.gl_model.specs.Rising.{with_all}
use Rattle.gl_reference.proofs.keeping.all_of.Given as goal

abbrev pub invariant-loop-var : goal.invariant-loop-var
invariant-loop-var l = length (with_all l.writes l.reads) ≤ TX_VARIABLES → with_all (drop l.var-index l.var-items) l.all
    ≡ with_all l.writes l.reads
