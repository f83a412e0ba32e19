use Rattle.std.proofs.Common.{map, take}
use Rattle.gl_model.specs.Entries.{seen}
use Rattle.gl_causes.specs.Owned.{AreDepths, AreWithin}
use Rattle.gl_causes.proofs.owned.depths_after.Given as goal

abbrev pub invariant-loop-i : goal.invariant-loop-i
invariant-loop-i l = record { depths : AreDepths (take l.i (map seen l.list)) l.depths; within : AreWithin l.i l.depths }
