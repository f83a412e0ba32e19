use Rattle.std.specs.Prelude.{All}
use Rattle.gl_model.specs.TraceSteps.{IsStep}
use Rattle.gl_compare.proofs.small.make.Given as goal

abbrev pub invariant-loop : goal.invariant-loop
invariant-loop l = All IsStep l.trace.items
