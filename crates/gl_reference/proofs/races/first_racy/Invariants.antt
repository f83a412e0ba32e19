use Rattle.std.proofs.Common.{◌≡◌, ℕ, ◌<◌, Some}
use Rattle.std.specs.Prelude.{slice_get}
use Rattle.gl_reference.specs.Races.{IsRacyPart}
use Rattle.gl_reference.proofs.races.first_racy.Given as goal

abbrev pub invariant-loop-var : goal.invariant-loop-var
invariant-loop-var l = (k : ℕ) (y : ℕ) → k < l.var-index → slice_get l.var-items k ≡ Some y
    → IsRacyPart l.events l.performed l.thread l.fn.variables l.writes y → ⊥
