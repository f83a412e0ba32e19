use Rattle.std.proofs.Common.{◌≡◌, ◌≤◌, ℕ, drop, vec_capacity}
use Rattle.std.specs.Prelude.{if◌then◌else◌}
use Rattle.gl_model.specs.declared.limits.TheConstants.{VARIABLES}
use Rattle.gl_model.specs.Trace.{is_in}
use Rattle.gl_core.specs.Latests.{latest_of, noted}
use Rattle.gl_core.proofs.commits.note_each.Given as goal

abbrev pub invariant-loop-var : goal.invariant-loop-var
invariant-loop-var l = record {
  noted : (y : ℕ) → (if is_in y (drop l.var-index l.var-items) then noted l.write l.epoch (latest_of l.latests.items y)
      else latest_of l.latests.items y) ≡ (if is_in y l.variables then noted l.write l.epoch (latest_of l.fn.latests.items y)
      else latest_of l.fn.latests.items y);
  room : VARIABLES ≤ vec_capacity l.latests;
}
