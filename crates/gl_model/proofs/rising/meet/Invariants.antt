use Rattle.std.proofs.Common.{ℕ, take}
use Rattle.std.specs.Prelude.{Contains}
use Rattle.gl_model.proofs.rising.meet.Given as goal

abbrev pub invariant-loop-x : goal.invariant-loop-x
invariant-loop-x l = (x : ℕ) → Contains (take l.x-index l.ids) x → Contains l.others x → ⊥
