-- What contracts see of a thread's own list.
use Rattle.std.specs.Prelude.{ℕ, List}
use Rattle.gl_model.specs.Entries.{Entry}

pub record Stored : Type 0 where
  pub entries : List Entry
  -- how many entries it can take without memory
  pub spare : ℕ
