use Rattle.std.proofs.Common.{◌≡◌, length}
use Rattle.gl_model.specs.declared.limits.TheConstants.{VARIABLES}
use Rattle.gl_raised.specs.Earlier.{ClaimsKnow, VariablesKnow}
use Rattle.gl_raised.proofs.learn.learn.Given as goal

abbrev pub invariant-loop-access : goal.invariant-loop-access
invariant-loop-access l = record {
  variables : length l.learned.items ≡ VARIABLES;
  claims : length l.known.items ≡ length l.fn.known.items;
  learned : VariablesKnow l.rows l.accesses l.access-index l.learned.items;
  known : ClaimsKnow l.rows l.accesses l.access-index l.fn.known.items l.known.items;
}
