use Rattle.std.proofs.Common.{◌≡◌, ◌+◌, ◌≤◌, ◌∷◌, replicate, vec_len, vec_capacity}
use Rattle.std.specs.Prelude.{pos}
use Rattle.gl_state.specs.declared.state.Stage.TheVariants as stage
use Rattle.gl_state.proofs.state.first_threads.Given as goal

abbrev pub invariant-loop : goal.invariant-loop
invariant-loop l = (l.threads.items ≡ stage.Forked l.main (pos 0) ∷ replicate l.counter stage.Never) × (vec_len l.threads ≡ l.counter + 1)
    × (16 ≤ vec_capacity l.threads)
