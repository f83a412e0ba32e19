use Rattle.std.proofs.Common.{◌≢◌, ℕ, ◌<◌, get_or}
use Rattle.gl_state.specs.declared.state.Stage.TheVariants as stage
use Rattle.gl_state.proofs.state.ListState.least_new.Given as goal

abbrev pub invariant-loop-u : goal.invariant-loop-u
invariant-loop-u l = (w : ℕ) → 0 < w → w < l.u → get_or l.self.threads w stage.Never ≢ stage.Never
