-- What contracts see of the room for a record.
use Rattle.std.specs.Prelude.{ℕ, List}
use Rattle.gl_model.specs.Entries.{Entry}

-- the lists that were moved into it, and how many more it can take
pub record RoomView : Type 0 where
  pub lists : List (ℕ × List Entry)
  pub room : ℕ
