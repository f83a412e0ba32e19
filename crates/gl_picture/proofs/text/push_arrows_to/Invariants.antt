use Rattle.std.proofs.Common.{◌≡◌, ◌++◌, take}
use Rattle.std.specs.List.{flat_map}
use Rattle.gl_picture.specs.Texts.{arrow_text}
use Rattle.gl_picture.proofs.text.push_arrows_to.Given as goal

abbrev pub invariant-loop-i : goal.invariant-loop-i
invariant-loop-i l = l.out.items ≡ l.fn.out.items ++ flat_map (arrow_text l.p l.to) (take l.i-index l.row.from.items)
