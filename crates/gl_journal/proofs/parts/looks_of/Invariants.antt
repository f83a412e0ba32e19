use Rattle.std.proofs.Common.{◌≡◌, take, map}
use Rattle.gl_journal.specs.Parts.{look_of}
use Rattle.gl_journal.proofs.parts.looks_of.Given as goal

abbrev pub invariant-loop-part : goal.invariant-loop-part
invariant-loop-part l = l.looks ≡ map look_of (take l.part-index l.parts)
