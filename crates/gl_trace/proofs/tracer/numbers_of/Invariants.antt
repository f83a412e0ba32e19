use Rattle.std.proofs.Common.{◌≡◌, take, map}
use Rattle.std.specs.Prelude.{slice_index}
use Rattle.gl_trace.proofs.tracer.numbers_of.Given as goal

abbrev pub invariant-loop-var : goal.invariant-loop-var
invariant-loop-var l = l.drawn ≡ map (λ x. record { var = x; nth = slice_index l.numbers x }) (take l.var-index l.variables)
