use Rattle.std.proofs.Common.{◌≡◌, ◌≤◌, take}
use Rattle.std.specs.Prelude.{IfSome}
use Rattle.gl_compare.specs.Held.{hold_of}
use Rattle.gl_compare.proofs.owned.holder.Given as goal

-- the owner behind the events that were looked at, which has entered it at most once in each
abbrev pub invariant-loop-p : goal.invariant-loop-p
invariant-loop-p l = record { is : l.hold ≡ hold_of l.monitor (take l.p l.events); depth : IfSome l.hold (λ h. h.1 ≤ l.p) }
