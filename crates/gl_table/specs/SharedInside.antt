-- A table's fields, and what is true of them.
use Rattle.std.specs.Prelude.{◌≡◌, ◌<◌}
use Rattle.std.specs.List.{All}
use Rattle.gl_model.specs.declared.limits.TheConstants.{FUNCTIONS}
use Rattle.gl_segments.specs.Rings.{IsRing}
use Rattle.gl_table.specs.declared.shared.Shared.TheInside.{Inside}
use Rattle.gl_table.specs.KeyOf.{key_of}
use Rattle.gl_table.specs.OfTable.{IsTable}
use Rattle.gl_table.specs.TableView.{TableView}

abbrev pub shared_view : Inside → TableView
shared_view s = record { id = s.table.shared.table_id; key = key_of s.layout }

pub record IsShared (s : Inside) : Type 0 where
  pub table : IsTable s.table.shared.table_id (key_of s.layout)
  pub key : s.table.shared.key ≡ s.layout
  pub ring : IsRing s.layout.ring
  pub main : s.layout.main < FUNCTIONS
  pub starts : All (λ f. f < FUNCTIONS) s.layout.starts.items
