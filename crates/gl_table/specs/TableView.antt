-- What contracts see of a table.
use Rattle.atomic_table.specs.Seated.{TableId}
use Rattle.gl_rule.specs.Objects.{Key}

pub record TableView : Type 0 where
  pub id : TableId
  pub key : Key
