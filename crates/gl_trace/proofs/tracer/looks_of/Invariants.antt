use Rattle.std.proofs.Common.{◌≡◌, take, map, pos}
use Rattle.std.specs.Prelude.{slice_index}
use Rattle.gl_trace.proofs.tracer.looks_of.Given as goal

abbrev pub invariant-loop-var : goal.invariant-loop-var
invariant-loop-var l = l.looks ≡ map (λ x. record { var = x; value = pos 0; nth = slice_index l.numbers x }) (take l.var-index l.reads)
