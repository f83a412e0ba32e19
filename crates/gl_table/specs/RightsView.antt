-- What contracts see of the rights of a thread.
use Rattle.std.specs.Prelude.{ℕ, Bool, List, Option}

pub record RightsView : Type 0 where
  -- of each variable, number and kind of the access that may be repeated
  pub rights : List (Option (ℕ × Bool))
  -- how many blocks were begun
  pub block : ℕ
