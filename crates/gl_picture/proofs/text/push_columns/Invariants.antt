use Rattle.std.proofs.Common.{◌≡◌, ◌++◌, take}
use Rattle.std.specs.List.{flat_map}
use Rattle.gl_names.specs.Names.{name_of}
use Rattle.gl_picture.specs.Texts.{column_text}
use Rattle.gl_picture.proofs.text.push_columns.Given as goal

abbrev pub invariant-loop-column : goal.invariant-loop-column
invariant-loop-column l = l.out.items ≡ l.fn.out.items ++ flat_map (column_text (name_of l.names) l.bottom)
    (take l.column-index l.p.columns.items)
