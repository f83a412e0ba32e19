-- A seat of a table that is as its key says.
use Rattle.std.specs.Prelude.{◌≡◌, ◌<◌}
use Rattle.atomic_table.specs.Seated.{TableId}
use Rattle.gl_rule.specs.Objects.{Key, capacity, word_count, objects}

pub record IsTable (z : TableId) (key : Key) : Type 0 where
  pub words : z.words ≡ word_count (capacity key)
  pub slots : z.slots ≡ objects
  pub some_cells : 0 < capacity key

pub record OfTable (y z : TableId) (key : Key) : Type 0 where
  pub same : y ≡ z
  pub table : IsTable z key
