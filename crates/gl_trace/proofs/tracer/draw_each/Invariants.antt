use Rattle.std.proofs.Common.{◌≡◌, ◌+◌, ◌<◌, ℕ, take, length}
use Rattle.std.specs.Prelude.{slice_index}
use Rattle.gl_model.specs.Trace.{look_count}
use Rattle.gl_model.specs.declared.limits.TheConstants.{VARIABLES}
use Rattle.gl_trace.proofs.tracer.draw_each.Given as goal

abbrev pub invariant-loop-var : goal.invariant-loop-var
invariant-loop-var l =
    (length l.numbers ≡ VARIABLES)
    × ((x : ℕ) → x < VARIABLES → slice_index l.numbers x ≡ slice_index l.fn.numbers x + look_count (take l.var-index l.variables) x)
