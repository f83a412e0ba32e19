use Rattle.std.proofs.Common.{◌≡◌, take, map}
use Rattle.gl_journal.specs.Parts.{number_of}
use Rattle.gl_journal.proofs.parts.numbers_of.Given as goal

abbrev pub invariant-loop-part : goal.invariant-loop-part
invariant-loop-part l = l.numbers ≡ map number_of (take l.part-index l.parts)
