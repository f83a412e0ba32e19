use Rattle.std.proofs.Common.{◌≡◌, ◌++◌, take}
use Rattle.std.specs.List.{flat_map}
use Rattle.gl_names.specs.Names.{name_of}
use Rattle.gl_picture.specs.Texts.{row_text}
use Rattle.gl_picture.proofs.text.push_rows.Given as goal

abbrev pub invariant-loop-row : goal.invariant-loop-row
invariant-loop-row l = l.out.items ≡ l.fn.out.items ++ flat_map (row_text (name_of l.names) l.p.columns.items)
    (take l.row-index l.p.rows.items)
