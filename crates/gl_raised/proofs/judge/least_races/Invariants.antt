use Rattle.std.proofs.Common.{◌≡◌, length}
use Rattle.gl_model.specs.declared.limits.TheConstants.{VARIABLES}
use Rattle.gl_raised.specs.Judged.{AreLasts, AreLeast}
use Rattle.gl_raised.proofs.judge.least_races.Given as goal

abbrev pub invariant-loop-access : goal.invariant-loop-access
invariant-loop-access l = record {
  variables : length l.lasts.items ≡ VARIABLES;
  claims : length l.least.items ≡ length l.known;
  lasts : AreLasts l.accesses l.access-index l.lasts.items;
  least : AreLeast l.known l.accesses l.access-index l.least.items;
}
