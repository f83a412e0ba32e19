use Rattle.gl_bytecode.specs.Passing.{Passing, work}
use Rattle.gl_bytecode.proofs.contents.Contents.has_depths.Given as goal

abbrev pub invariant-loop-claim : goal.invariant-loop-claim
invariant-loop-claim l = Passing l.self l.function l.depths.items l.claims.items

abbrev pub decreases-loop-claim : goal.decreases-loop-claim
decreases-loop-claim l = work l.depths.items l.claims.items
