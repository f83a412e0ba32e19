-- No line of a trace is a commit of more variables than a transaction may have.
use Rattle.std.proofs.Common.{◌≡◌, List, [], ◌∷◌, map, take, ap, refl, subst}
use Rattle.gl_lines.proofs.TraceMachine.{clean_parts}
use Rattle.gl_model.specs.TraceSteps.{AreClean, is_running, is_too_wide, item_fault}
use Rattle.gl_trace.specs.Trace.{AreLines}
use Rattle.gl_trace.specs.TraceLine.{steps_of}
use Rattle.gl_explain.specs.declared.told.Told.{Told}
use Rattle.gl_explain.specs.Told.{step_of, trace_of}
use Rattle.gl_explain.proofs.Behind.{map_there}
use Rattle.gl_picture.specs.Arrows.{AreNarrow}

-- the steps of the trace of told lines are the steps of each
steps_told : (told : List Told) → steps_of (trace_of told) ≡ map step_of told
steps_told [] = refl
steps_told (k ∷ ks) = ap (λ r. step_of k ∷ r) (steps_told ks)

-- told lines whose trace is well-formed have no commit that is too wide
pub are_narrow : (told : List Told) → AreLines (trace_of told) → AreNarrow told
are_narrow told are i k there =
    let steps = map step_of told in
    let clean = subst AreClean (steps_told told) are.clean in
    (clean_parts (is_too_wide k.item) (is_running (take i steps) k.thread) (item_fault (take i steps) k.thread k.item)
    (clean i (step_of k) (map_there step_of told i k there))).0
