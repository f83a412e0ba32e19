use Rattle.std.proofs.Common.{◌≡◌, ℕ, ◌<◌, Some}
use Rattle.std.specs.Prelude.{slice_get}
use Rattle.gl_model.specs.declared.tx.Look.{Look}
use Rattle.gl_model.specs.Flat.{IsWordBelow}
use Rattle.gl_model.specs.Records.{Lists}
use Rattle.gl_flat.specs.Below.{AreWrites}
use Rattle.gl_flat.proofs.looks.looks_are_right.Given as goal

-- each look so far is right
abbrev pub invariant-loop-i : goal.invariant-loop-i
invariant-loop-i l =
    (R : Lists) → AreWrites R l.writes → (k : ℕ) (look : Look) → k < l.i → slice_get l.looks k ≡ Some look →
    IsWordBelow R look.var look.nth look.value
