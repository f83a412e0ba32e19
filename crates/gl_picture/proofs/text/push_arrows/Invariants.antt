use Rattle.std.proofs.Common.{◌≡◌, ◌++◌, take}
use Rattle.std.specs.List.{flat_map}
use Rattle.gl_picture.specs.Texts.{arrows_text}
use Rattle.gl_picture.proofs.text.push_arrows.Given as goal

abbrev pub invariant-loop-row : goal.invariant-loop-row
invariant-loop-row l = l.out.items ≡ l.fn.out.items ++ flat_map (arrows_text l.p) (take l.row-index l.p.rows.items)
