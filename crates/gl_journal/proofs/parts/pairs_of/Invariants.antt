use Rattle.std.proofs.Common.{◌≡◌, take, map}
use Rattle.gl_journal.specs.Parts.{pair_of}
use Rattle.gl_journal.proofs.parts.pairs_of.Given as goal

abbrev pub invariant-loop-part : goal.invariant-loop-part
invariant-loop-part l = l.pairs ≡ map pair_of (take l.part-index l.parts)
