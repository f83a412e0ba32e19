-- What a table is set up with, as its rule reads it.
use Rattle.std.specs.Prelude.{true}
use Rattle.gl_table.specs.declared.layout.Layout.{Layout}
use Rattle.gl_model.specs.Machine.{Setting}
use Rattle.gl_rule.specs.Objects.{Key}

abbrev pub setting_of_layout : Layout → Setting
setting_of_layout l = record { classes = l.classes; inputs = l.inputs; main = l.main; forkable = l.starts.items; takes_least = true }

abbrev pub key_of : Layout → Key
key_of l = record { setting = setting_of_layout l; cells = l.ring.cells; segments = l.ring.segments }
