use Rattle.std.proofs.Common.{◌≡◌, ℕ, ◌+◌, ◌-◌, ◌≤◌, length, vec_capacity}
use Rattle.gl_model.specs.declared.limits.TheConstants.{VARIABLES}
use Rattle.gl_core.specs.Latests.{latest_of}
use Rattle.gl_core.proofs.commits.make_latest.Given as goal

abbrev pub invariant-loop-latests : goal.invariant-loop-latests
invariant-loop-latests l = record {
  same : (y : ℕ) → latest_of l.latests.items y ≡ latest_of l.fn.latests.items y;
  room : VARIABLES ≤ vec_capacity l.latests;
}

abbrev pub decreases-loop-latests : goal.decreases-loop-latests
decreases-loop-latests l = l.var + 1 - length l.latests.items
