use Rattle.std.proofs.Common.{◌≡◌, ℕ, ◌<◌, Some}
use Rattle.std.specs.Prelude.{slice_get}
use Rattle.gl_reference.specs.declared.races.Performed.{Performed}
use Rattle.gl_reference.specs.Races.{RacesWith}
use Rattle.gl_reference.proofs.races.is_racy.Given as goal

abbrev pub invariant-loop-earlier : goal.invariant-loop-earlier
invariant-loop-earlier l = (i : ℕ) (p : Performed) → i < l.earlier-index → slice_get l.performed i ≡ Some p → RacesWith l.events l.next p
    → ⊥
