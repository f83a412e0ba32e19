-- What contracts see of a closed table.
use Rattle.std.specs.Prelude.{ℕ, List}
use Rattle.gl_model.specs.Entries.{Entry}
use Rattle.gl_rule.specs.Objects.{Key}

-- the record of all lists, and what the table was set up with
pub record SealedView : Type 0 where
  pub entries : List (ℕ × List Entry)
  pub key : Key
