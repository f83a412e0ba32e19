use Rattle.std.proofs.Common.{◌≡◌, take, map, pos}
use Rattle.gl_trace.proofs.tracer.writes_of.Given as goal

abbrev pub invariant-loop-var : goal.invariant-loop-var
invariant-loop-var l = l.pairs ≡ map (λ x. record { var = x; value = pos 0 }) (take l.var-index l.writes)
