use Rattle.std.proofs.Common.{◌≡◌, ◌≤◌, ℕ, take, None}
use Rattle.gl_model.specs.declared.limits.TheConstants.{MONITORS}
use Rattle.gl_compare.specs.Held.{hold_of}
use Rattle.gl_compare.proofs.owned.past_all.Given as goal

-- none from this one on is owned behind the events that were looked at
abbrev pub invariant-loop-stamp : goal.invariant-loop-stamp
invariant-loop-stamp l = record {
  within : l.past ≤ MONITORS;
  none : (m : ℕ) → l.past ≤ m → hold_of m (take l.stamp-index l.events) ≡ None;
}
