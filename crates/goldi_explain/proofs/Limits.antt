-- A source that has left more than may be read.
use Rattle.std.proofs.Common.{ℕ, ◌<◌, List, length, Some, None, refl}
use Rattle.std.specs.Prelude.{Option, IfSome}
use Rattle.std.specs.Io.KnownBytes.{Consumes}
use Rattle.gl_io.specs.Whole.{IsTaken}

-- some input is all that was left, and is too long
pub too_long : (before now : Option (List ℕ)) (most : ℕ) → IfSome before (λ xs. most < length xs)
    → (bytes : List ℕ) × (most < length bytes) × Consumes before now bytes → (input : List ℕ) × IsTaken before input × (most < length input)
too_long None now most left over = (over.0, tt, over.1)
too_long (Some xs) now most left over = (xs, refl, left)
