use Rattle.std.proofs.Common.{ℕ, ◌<◌}
use Rattle.gl_reference.specs.Steps.{IsCommitWith, IsMarked}
use Rattle.gl_reference.proofs.reach.has_commit_with.Given as goal

abbrev pub invariant-loop-p : goal.invariant-loop-p
invariant-loop-p l = (k : ℕ) → k < l.p → IsMarked l.events l.marks (IsCommitWith l.variables) k → ⊥
