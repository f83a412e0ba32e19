use Rattle.std.proofs.Common.{◌≢◌, ℕ, ◌<◌, []}
use Rattle.gl_model.specs.Lists.{lists_of}
use Rattle.gl_bytecode.specs.Runs.{Runs}
use Rattle.gl_follow.proofs.program.program_fault.Given as goal

abbrev pub invariant-loop-thread : goal.invariant-loop-thread
invariant-loop-thread l = (u : ℕ) → u < l.thread → lists_of l.made u ≢ [] → Runs l.program l.steps u (lists_of l.made u)
