use Rattle.std.proofs.Common.{map}
use Rattle.gl_model.specs.Entries.{seen}
use Rattle.gl_flat.specs.Walk.{ComesTo}
use Rattle.gl_flat.proofs.walk.pass_block.Given as goal

-- no event comes between, and the walk has come to this place of the block
abbrev pub invariant-loop-i : goal.invariant-loop-i
invariant-loop-i l = ComesTo (map seen l.entries) l.start l.i l.fn.words l.words
